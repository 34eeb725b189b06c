-- The answers about a data record.
use mathlib.Core.Path.{◌≡◌, refl}
use mathlib.Core.Bool.{Bool, true, false}
use mathlib.Core.List.{List, ◌∷◌}
use Prim.Native.Nat.{ℕ, ◌+◌}
use native.Mathlib.Omega.{arith}
use lib.Dec.{leb}
use Rattle.std.specs.Prelude.{Ok, Err}
use Rattle.numbers.specs.declared.Refusal.TheVariants.{Past1FFF, GivenTwice}
use lib.ListN.{length}
use Rattle.hex_reader.specs.Given.{Given, some, is_given, is_twice, refusal_of}
use Rattle.hex_reader.specs.Work.{bit_of, Holds}
use Rattle.hex_reader.specs.Takes.{Takes}
use Rattle.hex_reader.proofs.data.Some.{same_some, none-past}

-- a record of n bytes
module _ (image_size : ℕ) (before : List ℕ) (d : Given) (n : ℕ) (sized : length d.bytes ≡ n) where
  abbrev past : Bool
  past = some n (λ k. leb image_size (d.address + k))

  abbrev twice : Bool
  twice = some n (λ k. bit_of image_size before (d.address + k))

  -- a test of the buffer's bits is one of what it holds
  twice-held : (ds : List Given) → Holds image_size before ds → past ≡ false → twice ≡ is_twice ds d
  twice-held ds h e =
      rw sized (same_some (λ k. bit_of image_size before (d.address + k)) (λ k. is_given ds (d.address + k)) n (λ k l. h.bits (d.address + k) (none-past image_size d.address n e k l)))

  pub takes-past : past ≡ true → Takes image_size before before d (Err Past1FFF)
  unfolding refusal_of
  takes-past e = record { size = refl; answer = λ ds h. rw (sized, e); held = λ ds h z. absurd (omega arith) }

  pub takes-twice : past ≡ false → twice ≡ true → Takes image_size before before d (Err GivenTwice)
  unfolding refusal_of
  takes-twice e t =
      record {
        size = refl;
        answer = λ ds h. rw (← twice-held ds h e, sized, e, t);
        held = λ ds h z. absurd (omega arith);
      }

  pub takes-it : (after : List ℕ) → past ≡ false → twice ≡ false → length after ≡ length before → ((ds : List Given) → Holds image_size before ds → Holds image_size after (d ∷ ds)) → Takes image_size before after d (Ok tt)
  unfolding refusal_of
  takes-it after e t s f =
      record { size = s; answer = λ ds h. rw (← twice-held ds h e, sized, e, t); held = λ ds h z. f ds h }
