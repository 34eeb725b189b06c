-- A line that is read a character at a time: what is kept of the characters so far.
use Rattle.std.specs.Prelude.{ℕ, ◌≤◌, min, true, ◌≡◌, List, [], ◌∷◌, ◌++◌, ltb, length, take}
use Rattle.text.specs.Words.{all_digits, word_value}
use Rattle.sound_text.specs.Commands.{has_blank, word_of, number_in, most}
use Rattle.sound_text.specs.declared.command.Entry.{Entry}

-- a word of more characters than the longest command has is none, however it goes on
abbrev pub longest : ℕ
longest = 8

pub record Entered (line : List ℕ) (e : Entry) : Type 0 where
  pub kept : e.kept ≡ min longest (length (word_of line))
  pub word : take e.kept e.word ≡ take longest (word_of line)
  pub spaced : e.spaced ≡ has_blank line
  pub some : e.some ≡ ltb 0 (length (number_in line))
  pub digits : e.digits ≡ all_digits 10 (number_in line)
  pub value : e.digits ≡ true → e.value ≡ min most (word_value 10 (number_in line))

-- what any entry keeps to
pub record Fits (e : Entry) : Type 0 where
  pub kept : e.kept ≤ longest
  pub value : e.value ≤ most

-- one character more: whatever line was entered, it is entered with that character
pub record Feeds (e : Entry) (c : ℕ) (r : Entry) : Type 0 where
  pub fits : Fits r
  pub entered : (line : List ℕ) → Entered line e → Entered (line ++ (c ∷ [])) r
