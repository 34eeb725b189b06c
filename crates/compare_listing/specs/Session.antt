-- Script and listing in parts, empty ones among them: calls that keep their promises, one after the other, and the answer at the end.
use Rattle.std.specs.Prelude.{ℕ, ◌≡◌, Bool, true, false, List, [], ◌++◌, length, drop, Result, Ok, Err}
use Rattle.device.specs.Device.{image_size, rom_of}
use Rattle.device.specs.declared.Device.{Device}
use Rattle.record.specs.Start.{fresh_machine}
use Rattle.listing.specs.Lines.{header}
use Rattle.text.specs.Script.{up_to}
use Rattle.compare_lines.specs.Left.{left_of, Hears}
use Rattle.compare_lines.specs.declared.Compared.{Compared}
use Rattle.numbers.specs.declared.Refusal.{Refusal}
use Rattle.compare_lines.specs.declared.Heard.{Heard}
use Rattle.compare_lines.specs.declared.Phase.{Phase}
use Rattle.compare_listing.specs.Compared.{compared_of}
use Rattle.compare_listing.specs.Progress.{begun, Lasts, Goes}
use Rattle.compare_listing.specs.declared.Progress.{Progress}
use Rattle.compare_listing.specs.declared.Gone.{Gone}

-- the rest of the listing after our last line: heard in parts, then answered
pub data Concludes (n : ℕ) (line : List ℕ) (a : Compared) : Phase → List ℕ → Type 0 where
  hears : {phase : Phase} (part more : List ℕ) {r : Heard} → Hears phase n line part r → Concludes n line a r.phase (drop r.used part ++ more) → Concludes n line a phase (part ++ more)
  answers : {phase : Phase} {rest : List ℕ} → left_of phase n line [] rest ≡ a → Concludes n line a phase rest

-- parts of both, what is left of them standing before the next; then the last line, and the rest of the listing, unless that line is no frame
pub data Session (d : Device) (rom : ℕ → ℕ → ℕ) (a : Result Compared Refusal) : Progress → List ℕ → List ℕ → List ℕ → List ℕ → Type 0 where
  goes : {p : Progress} {ram ours ram' ours' : List ℕ} (script more listing theirs : List ℕ) {last : Bool} {r : Gone} → Goes d rom p ram ours script listing last r ram' ours' → (last ≡ true → theirs ≡ []) → Session d rom a r.progress ram' ours' (drop r.script script ++ more) (drop r.listing listing ++ theirs) → Session d rom a p ram ours (script ++ more) (listing ++ theirs)
  refused : {p q : Progress} {ram ours ram' ours' script listing : List ℕ} → Lasts d rom p ram ours script q ram' ours' → (p.ended ≡ false → up_to script ≡ length script) → q.bad ≡ true → a ≡ Err Refusal.NoFrame → Session d rom a p ram ours script listing
  ends : {p q : Progress} {c : Compared} {ram ours ram' ours' script listing : List ℕ} → Lasts d rom p ram ours script q ram' ours' → (p.ended ≡ false → up_to script ≡ length script) → q.bad ≡ false → Concludes q.line ours' c q.phase listing → a ≡ Ok c → Session d rom a p ram ours script listing

-- for every cutting of script and listing into parts the answer at the end is that of the definition on the whole texts: from the fresh record and the header, which is our present line
abbrev pub AnyCutting : Type 0
AnyCutting =
    (d : Device) (image script listing : List ℕ) (a : Result Compared Refusal) → length image ≡ image_size d
    → Session d (rom_of image) a (begun (fresh_machine d).core) (fresh_machine d).ram header script listing → compared_of d image script listing ≡ a
