-- An address that a word names is one of the image.
use mathlib.Core.Path.{◌≡◌, refl}
use mathlib.Core.Bool.{Bool, true, false}
use mathlib.Core.List.{List}
use Prim.Native.Nat.{ℕ, ◌<◌}
use native.Mathlib.Omega.{arith}
use lib.Dec.{ltb, leb}
use lib.ListN.{length}
use borrow.Author.Tests.{ltb-true}
use Rattle.std.specs.Prelude.{Some, None}
use Rattle.numbers.specs.Sizes.{addresses}
use Rattle.laws.specs.Choice.{pick, both}
use Rattle.text.specs.Words.{is_number, word_value, word_address}
use Rattle.program.specs.Words.{bare_of, address_word}

by_tests : (a b : Bool) (v : ℕ) {at : ℕ} → ltb v addresses ≡ b → pick a (pick b (Some v) None) None ≡ Some at → at < addresses
by_tests true true v {at} e h = let same : v ≡ at = cc in let lt = ltb-true v addresses e in omega arith
by_tests true false v e h = cc
by_tests false b v e h = cc

word_lt : (word : List ℕ) {at : ℕ} → word_address word ≡ Some at → at < addresses
unfolding word_address
word_lt word h = by_tests (both (leb (length word) 4) (is_number 16 word)) (ltb (word_value 16 word) addresses) (word_value 16 word) refl h

pub address_lt : (word : List ℕ) {at : ℕ} → address_word word ≡ Some at → at < addresses
unfolding address_word
address_lt word h = word_lt (pick (ltb (length word) 2) word (bare_of word)) h
