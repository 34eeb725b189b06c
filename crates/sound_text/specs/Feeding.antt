-- The program's input in parts: what some characters give, with the beginning of a line before them and any characters after them.
use Rattle.std.specs.Prelude.{ℕ, Bool, true, not, List, [], ◌∷◌, ◌++◌, ◌≡◌, T}
use Rattle.laws.specs.Choice.{both}
use Rattle.text.specs.Script.{is_lf, lines_of}
use Rattle.sound_generator.specs.declared.Sound.{Sound}
use Rattle.sound_text.specs.Entry.{Entered, Fits}
use Rattle.sound_text.specs.declared.command.Entry.{Entry}
use Rattle.sound_text.specs.Telling.{told_over}
use Rattle.sound_text.specs.declared.Progress.{Progress}

-- characters of one line that no LF ends yet
abbrev pub unended : List ℕ → Bool
unended [] = true
unended (c ∷ cs) = both (not (is_lf c)) (unended cs)

-- the beginning of a line, as it is entered
pub record Begun (e : Entry) : Type 0 where
  pub line : List ℕ
  pub entered : Entered line e
  pub no_end : T (unended line)

-- a text is written; and whatever comes after the part, what is answered to it all is that text and then what is answered from the state and the line as they are now
pub record Fed (s : Sound) (b part before after : List ℕ) (r : Progress) : Type 0 where
  pub text : List ℕ
  pub wrote : after ≡ before ++ text
  pub begun : Begun r.entry
  pub told : (rest : List ℕ) → told_over s (lines_of (b ++ (part ++ rest))) ≡ text ++ told_over r.state (lines_of (begun.line ++ rest))

pub record Feeds (s : Sound) (e : Entry) (part before after : List ℕ) (r : Progress) : Type 0 where
  pub fits : Fits r.entry
  pub fed : (b : Begun e) → Fed s b.line part before after r
