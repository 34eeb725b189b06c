-- The words that a program is given: an address, and a number of lines. Sentences in quotation marks are of docs/PROGRAMS.md.
use Rattle.std.specs.Prelude.{ℕ, ◌+◌, ◌*◌, min, Bool, true, List, [], ◌∷◌, ltb, leb, length, Option, Some, None}
use Rattle.numbers.specs.Sizes.{addresses}
use Rattle.laws.specs.Choice.{pick, both}
use Rattle.text.specs.Hexadecimal.{digit_of}

abbrev pub all_digits : ℕ → List ℕ → Bool
all_digits base [] = true
all_digits base (c ∷ cs) = both (ltb (digit_of c) base) (all_digits base cs)

abbrev pub is_number : ℕ → List ℕ → Bool
is_number base word = both (ltb 0 (length word)) (all_digits base word)

-- the value of digits that follow a value
abbrev pub value_after : ℕ → ℕ → List ℕ → ℕ
value_after base v [] = v
value_after base v (c ∷ cs) = value_after base (v * base + digit_of c) cs

abbrev pub word_value : ℕ → List ℕ → ℕ
word_value base word = value_after base 0 word

-- a number to a base, and the greatest for all numbers above it
unfoldable pub number_up_to : ℕ → ℕ → List ℕ → Option ℕ
number_up_to most base word = pick (is_number base word) (Some (min most (word_value base word))) None

-- no image has more than 8192 addresses or lines, so 8192 stands for all numbers above it
abbrev pub number_of : ℕ → List ℕ → Option ℕ
number_of = number_up_to addresses

-- "ADDRESS is one to four hexadecimal digits of either case, nothing else; anything else, or over 1FFF, is refused 20"
unfoldable pub word_address : List ℕ → Option ℕ
word_address word =
    pick (both (leb (length word) 4) (is_number 16 word)) (pick (ltb (word_value 16 word) addresses) (Some (word_value 16 word)) None) None
