-- The words that name a device, P3 and an address. Sentences in quotation marks are of docs/PROGRAMS.md.
use Rattle.std.specs.Prelude.{ℕ, ◌-◌, List, eqb, ltb, length, get_or, take, drop, Option, Some, None}
use Rattle.laws.specs.Among.{among}
use Rattle.laws.specs.Choice.{pick}
use Rattle.device.specs.Device.{also_writable}
use Rattle.device.specs.declared.Device.{Device}
use Rattle.device.specs.declared.Device.TheVariants.{Em73862, Em73P982}
use Rattle.text.specs.Digits.{characters}
use Rattle.text.specs.Same.{same_text}
use Rattle.text.specs.Words.{number_of, word_address}
use Rattle.program.specs.declared.words.Chosen.{Chosen}

-- a device, P3, and how many words stand before the image
abbrev pub chosen : Device → ℕ → ℕ → Option Chosen
chosen d p3 before = Some (record { device = d; p3 = p3; before = before })

-- "NAME being `EM73862` (the default) or `EM73P982`"; "Another name ..: the usage line"
unfoldable pub name_of : List ℕ → Option Chosen
name_of name =
    pick (same_text name (characters "EM73862")) (chosen Em73862 0 2)
    (pick (same_text name (characters "EM73P982")) (chosen Em73P982 0 2) None)

-- "`--device NAME` before IMAGE"
unfoldable pub device_words : List ℕ → List ℕ → Option Chosen
device_words one two = pick (same_text one (characters "--device")) (name_of two) (chosen Em73862 0 0)

-- "an N that is no number: the usage line"; a device without P3 takes none
abbrev pub with_p3 : Device → Option ℕ → Option Chosen
with_p3 d (Some p3) = chosen d p3 4
with_p3 d None = None

unfoldable pub p3_word : Device → List ℕ → Option Chosen
p3_word d n = pick (among (also_writable d) 3) (with_p3 d (number_of 10 n)) None

-- "`--p3 N` (decimal, default 0) with `--device EM73P982`": behind the words that name the device
abbrev pub p3_behind : Option Chosen → List ℕ → List ℕ → Option Chosen
p3_behind (Some c) three four =
    pick (eqb c.before 0) (Some c) (pick (same_text three (characters "--p3")) (p3_word c.device four) (Some c))
p3_behind None three four = None

-- "`--p3` without that device ..: the usage line"
unfoldable pub window_words : List ℕ → List ℕ → List ℕ → List ℕ → Option Chosen
window_words one two three four = pick (same_text one (characters "--p3")) None (p3_behind (device_words one two) three four)

-- "with 0x before them or h behind": an address without its sign
abbrev pub bare_of : List ℕ → List ℕ
bare_of word = pick (same_text (take 2 word) (characters "0x")) (drop 2 word) (pick (eqb (get_or word (length word - 1) 0) 104) (take (length word - 1) word) word)

-- a sign needs a digit beside it
unfoldable pub address_word : List ℕ → Option ℕ
address_word word = word_address (pick (ltb (length word) 2) word (bare_of word))
