-- How large what the call answers can be: an address of the image, an entry, the bytes of a path of at most 65,535 places, N, and a depth of at most 2,048 calls.
use mathlib.Core.Path.{◌≡◌, refl}
use mathlib.Core.Bool.{Bool}
use Rattle.std.specs.Prelude.{Result, Ok}
use mathlib.Core.List.{List}
use Prim.Native.Nat.{ℕ, ◌<◌, ◌≤◌}
use native.Mathlib.Omega.{arith}
use lib.ListN.{length}
use Rattle.numbers.specs.ComesBack.{Paper, value_at}
use Rattle.device.specs.Device.{rom_of}
use Rattle.device.specs.declared.Device.{Device}
use Rattle.graph.specs.Graph.{sum}
use Rattle.routines.specs.Calling.{Flow, Routine, unknown, In, Live, HandlerPath}
use Rattle.routines.specs.Shape.{Small}
use Rattle.routines.specs.Answer.{Found, Judged, HasBound, PathAnswer, FlowAnswer, Answer}
use Rattle.routines.proofs.Done.{in-lt, called-lt}
use Rattle.routines_bound.specs.declared.Greatest.{Greatest}
use Rattle.routines.proofs.FewOpen.{depth-few}
use Rattle.bound_flow.specs.Flow.{address_of}
use Rattle.bound_calls.specs.CallFlow.{call_flow, call_cycles}
use Rattle.bound_calls.specs.CallAnswer.{paper_of_found, CallAnswer, gives_1, gives_2, gives_20, by_flow}
use Rattle.bound_calls.proofs.Shape.{call-node-good, flow-small, flow_widens}
use Rattle.bound.specs.Answer.{paper_of}
use Rattle.bound.specs.declared.Refused.{Refused}
use Rattle.bound.proofs.Lengths.{path-length}

-- the values of an answer; N is one with the number 0
pub record Few (p : Paper) : Type 0 where
  pub value : value_at p 0 < 131072
  pub depth : value_at p 1 < 65536
  pub cycles : p.number ≡ 0 → value_at p 0 < 65536

module _ (d : Device) {rom : ℕ → ℕ} (bytes : (at : ℕ) → rom at < 256) {start : ℕ} (in-rom : start ≤ 8191) where
  abbrev f : Flow
  f = call_flow d rom start

  small : Small f 16384 2048
  small = flow-small d rom bytes start (omega arith)

  address-few : {K : ℕ → Bool} {r : Routine} {v a : ℕ} → Live f K r → In f K r v → address_of v ≡ a → a < 8192
  address-few {K} live i e = omega (arith, in-lt f K small live i, e)

  -- each place of a path costs something
  places-few : {K : ℕ → Bool} {l : List ℕ} → HandlerPath f K l → length l ≤ sum (call_cycles d rom) l
  unfolding call_flow call_cycles
  places-few {K} p = path-length f K small (call_cycles d rom) (λ v l a b. (call-node-good d rom bytes v l).pos a b) p

  paths-few : {p p' q q' : List ℕ} {K : ℕ → Bool} {N n : ℕ} {path deep : List ℕ} {x : Found} → Judged f K → HasBound f (call_cycles d rom) K N n path deep
      → PathAnswer address_of p p' q q' N n path deep x → Few (paper_of_found x)
  paths-few j b (PathAnswer.gives_25 l k) = record { value = omega arith; depth = omega arith; cycles = λ e. omega arith }
  paths-few j b (PathAnswer.gives_23 l s k) =
      record { value = omega (arith, l, b.sum, places-few b.longest.in_it); depth = omega arith; cycles = λ e. absurd (omega (arith, e)) }
  paths-few {deep = deep} j b (PathAnswer.gives_23_depth l r s k) =
      record { value = omega (arith, l, b.sum, b.longest.most deep b.deepest.in_it, places-few b.deepest.in_it); depth = omega arith; cycles = λ e. absurd (omega (arith, e)) }
  paths-few {K = K} j b (PathAnswer.gives_n l r s x y) =
      record { value = omega arith; depth = omega (arith, b.depth, depth-few f K small (flow_widens d rom start) j.no_recursion b.deepest.in_it); cycles = λ e. omega arith }

  flow-few : {p p' q q' : List ℕ} {x : Found} → Answer f (call_cycles d rom) address_of p p' q q' x → Few (paper_of_found x)
  flow-few (Answer.gives_24 l k) = record { value = omega (arith, called-lt f unknown small l.holds.0); depth = omega arith; cycles = λ e. absurd (omega (arith, e)) }
  flow-few (Answer.judged j (FlowAnswer.gives_21 a k)) =
      record { value = omega (arith, address-few a.holds.1.1 a.holds.1.2 a.holds.2); depth = omega arith; cycles = λ e. absurd (omega (arith, e)) }
  flow-few (Answer.judged j (FlowAnswer.gives_22 none a k)) =
      record { value = omega (arith, address-few a.holds.1.1 a.holds.1.2 a.holds.2); depth = omega arith; cycles = λ e. absurd (omega (arith, e)) }
  flow-few (Answer.judged j (FlowAnswer.bounded b x)) = paths-few j b x

pub answer_few : {d : Device} {image : List ℕ} {p3 : ℕ} → ((at : ℕ) → rom_of image p3 at < 256) → {start : ℕ} {path path' deep deep' : List ℕ} {p : Paper} → CallAnswer d image p3 start path path' deep deep' p → Few p
answer_few bytes (gives_1 n k) = record { value = omega arith; depth = omega arith; cycles = λ e. absurd (omega (arith, e)) }
answer_few bytes (gives_2 l b k) = record { value = omega arith; depth = omega arith; cycles = λ e. absurd (omega (arith, e)) }
answer_few bytes (gives_20 l b s k) = record { value = omega arith; depth = omega arith; cycles = λ e. absurd (omega (arith, e)) }
answer_few {d} bytes (by_flow l b s a) = flow-few d bytes s a

-- N and the depth of an answer that has them
pub bounds_few : {r : Result Greatest Refused} {g : Greatest} → r ≡ Ok g → Few (paper_of r) → (g.cycles < 65536) × (g.depth < 65536)
bounds_few {g = g} e f = let h : Few (paper_of (Ok g)) = rw e at f in (h.cycles refl, h.depth)
