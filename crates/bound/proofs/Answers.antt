-- From what is found from an address to what the call answers.
use mathlib.Core.Path.{◌≡◌, refl}
use Rattle.std.specs.Prelude.{Result, Ok, Err}
use mathlib.Core.List.{List}
use Prim.Native.Nat.{ℕ, ◌≤◌, ◌<◌}
use lib.ListN.{length}
use Rattle.numbers.specs.Sizes.{last_address}
use Rattle.device.specs.Device.{image_size, rom_of, Banked}
use Rattle.device.specs.declared.Device.{Device}
use Rattle.routines.specs.Answer as routines
use Rattle.routines.specs.Answer.{Kept, Answer}
use Rattle.routines_joined.specs.Words.{flow_at}
use Rattle.routines_joined.specs.Refused.{address_in}
use Rattle.routines_sums.specs.Ways.{costs_in}
use Rattle.routines_bound.specs.Handler.{found_of, HandlerWords}
use Rattle.routines_bound.specs.declared.Greatest.{Greatest}
use Rattle.routines_bound.specs.declared.Unbounded.{Unbounded}
use Rattle.bound_flow.specs.Flow.{address_of}
use Rattle.bound_calls.specs.CallFlow.{call_flow, call_cycles}
use Rattle.bound_calls.specs.CallAnswer.{paper_of_found, CallAnswer, by_flow}
use Rattle.bound_numbered.specs.Found.{ImageNumbered}
use Rattle.bound_numbered.proofs.Flow.{laid, pays, first-is, widens, calls, known_after, region, answer-of-image}
use Rattle.bound.specs.Answer.{paper_of, answer_of}

-- the buffers are as they were
pub kept : (path deep : List ℕ) → Kept path path deep deep
kept path deep = record { first = refl; second = refl }

same_paper : (x : Result Greatest Unbounded) → paper_of (answer_of x) ≡ paper_of_found (found_of x)
same_paper (Ok g) = refl
same_paper (Err (Unbounded.Recursion e)) = refl
same_paper (Err (Unbounded.Excluded a)) = refl
same_paper (Err (Unbounded.Repeats a)) = refl
same_paper (Err Unbounded.TooLarge) = refl
same_paper (Err (Unbounded.Short n)) = refl

pub answers : (d : Device) (image : List ℕ) (p3 start : ℕ) (path path' deep deep' : List ℕ) (x : Result Greatest Unbounded)
    → length image ≡ image_size d → Banked d p3 → start ≤ last_address
    → Answer (call_flow d (rom_of image p3) start) (call_cycles d (rom_of image p3)) address_of path path' deep deep' (found_of x)
    → CallAnswer d image p3 start path path' deep deep' (paper_of (answer_of x))
answers d image p3 start path path' deep deep' x size banked inside a = rw (same_paper x) (by_flow size banked inside a)

-- what is numbered of the image is the flow of a handler, and what is answered of it is answered of the image
module _ (d : Device) (rom : ℕ → ℕ) (bytes : (at : ℕ) → rom at < 256) (start : ℕ) (x m : List ℕ) (n : ℕ) (a : ImageNumbered d rom start x m n) where
  pub handler-words : length x ≡ 16384 → length m ≡ 16384 → HandlerWords x m n
  unfolding flow_at
  handler-words lx lm =
      record {
        words = record {
          laid = laid d rom bytes start x m n a lx lm;
          pays = pays d rom bytes start x m n a;
          first = first-is d rom bytes start x m n a;
          widens = widens d rom bytes start x m n a;
        };
        calls = calls d rom bytes start x m n a;
        known_after = known_after d rom bytes start x m n a;
        region = region d rom bytes start x m n a;
      }

  pub image-answer : {p p' q q' : List ℕ} {r : routines.Found} → Answer (flow_at x m) (costs_in x) (address_in x) p p' q q' r → Answer (call_flow d rom start) (call_cycles d rom) address_of p p' q q' r
  unfolding costs_in
  image-answer y = answer-of-image d rom bytes start x m n a y
