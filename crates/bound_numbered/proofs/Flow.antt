-- The words of an image are its flow under other names: what is answered of them is answered of the image.
use mathlib.Core.Path.{◌≡◌, ap, ◌∙◌}
use mathlib.Core.List.{List}
use Prim.Native.Nat.{ℕ, ◌-◌, ◌*◌, ◌≤◌, ◌<◌}
use native.Mathlib.Omega.{arith}
use native.Mathlib.Decide.{dec_lt}
use lib.ListN.{length}
use borrow.Author.Tests.{eq-eqb}
use Rattle.device.specs.declared.Device.{Device}
use Rattle.routines.specs.Calling.{Flow}
use Rattle.routines.specs.Answer.{Found, Answer}
use Rattle.routines.specs.Shape.{Widens}
use Rattle.routines.specs.Losing.{Region, KnownAfter}
use Rattle.routines.specs.Numbered.{Numbered}
use Rattle.routines.proofs.Exploring.{entry-is, number_of_lem}
use Rattle.routines.proofs.Renamed.{renamed_by}
use Rattle.routines.proofs.Shape as shape
use Rattle.routines_numbered.specs.Packed.{node_in, name_in, nodes_in, map_in}
use Rattle.routines_numbered.proofs.Numbering.{name_lt, count_le}
use Rattle.routines_joined.specs.Words.{flow_at, Laid}
use Rattle.routines_joined.specs.Refused.{address_in}
use Rattle.bound_flow.specs.Flow.{address_of}
use Rattle.bound_calls.specs.CallFlow.{call_flow, call_cycles}
use Rattle.bound_calls.proofs.Shape.{call-node-good, after_call, known_of, flow_widens}
use Rattle.bound_numbered.specs.Found.{ImageNumbered}

module _ (d : Device) (rom : ℕ → ℕ) (bytes : (at : ℕ) → rom at < 256) (start : ℕ) (x m : List ℕ) (n : ℕ) (a : ImageNumbered d rom start x m n) where
  abbrev f : Flow
  f = call_flow d rom start

  first : (e : ℕ) → address_of (f.from e) ≡ e
  unfolding call_flow
  first e = omega arith

  entry_of : (v : ℕ) → v < n → (nodes_in x v).kind ≡ 3 → (nodes_in x (nodes_in x v).into).address ≡ f.entry (name_in x v)
  entry_of = entry-is a.explored first

  pub laid : length x ≡ 16384 → length m ≡ 16384 → Laid x m n
  unfolding call_flow
  laid words map =
      record {
        words = words;
        map = map;
        few = count_le x m n a.explored.told;
        some = omega (arith, a.explored.start.found);
        once = λ u v i j e. omega (arith, a.explored.told.told u i, a.explored.told.told v j, ap (map_in m) e);
        links = a.links;
        entry_lt = λ v h k. omega (arith, entry_of v h k, (call-node-good d rom bytes (name_in x v) (name_lt x v)).entry_lt);
        map_le = λ w. map_le w (dec_lt 0 (map_in m w));
      }
    where
      map_le : (w : ℕ) → Dec (0 < map_in m w) → map_in m w ≤ n
      map_le w (yes h) = omega (arith, h, (a.explored.told.names w h).found)
      map_le w (no h) = omega (arith, h)

  -- a call leads to the first place of the routine that it names
  pub first-is : (v : ℕ) → v < n → (nodes_in x v).kind ≡ 3 → (flow_at x m).from ((flow_at x m).entry v) ≡ (nodes_in x v).into
  unfolding flow_at call_flow
  first-is v h k =
      rw (eq-eqb (nodes_in x v).kind 3 k)
      (ap (λ (w : ℕ). map_in m w - 1) (ap (λ (e : ℕ). 2 * e) (entry_of v h k) ∙ omega arith) ∙ number_of_lem a.explored first ((a.explored.holds v h).into k))

  pub numbered : Numbered f (flow_at x m) (name_in x) n
  unfolding flow_at call_flow
  numbered = record {
    once = λ u v i j e. omega (arith, a.explored.told.told u i, a.explored.told.told v j, ap (map_in m) e);
    start = a.explored.start;
    kind = λ v h. (a.explored.holds v h).kind;
    known = λ v h. (a.explored.holds v h).known;
    next = λ v h k. (a.explored.holds v h).next k;
    other = λ v h k. (a.explored.holds v h).other k;
    unknown_after = λ v h k. (a.explored.holds v h).unknown_after k;
    known_after = λ v h k. (a.explored.holds v h).known_after k;
    entry = λ v h k. rw (eq-eqb (nodes_in x v).kind 3 k) (entry_of v h k);
    into = λ v h k. rw (first-is v h k) ((a.explored.holds v h).into k);
  }

  pub calls : (v : ℕ) → (flow_at x m).kind v ≡ 3 → v < n
  unfolding flow_at nodes_in node_in
  calls v k = go (dec_lt v n)
    where
      go : Dec (v < n) → v < n
      go (yes h) = h
      go (no h) = absurd (omega (arith, k, a.rest v (omega arith)))

  pub widens : Widens (flow_at x m)
  widens = shape.widens numbered calls (flow_widens d rom start)

  known : KnownAfter f
  unfolding call_flow
  known = record { is = λ v k. let b = after_call d rom v k in rw b.other (known_of b.at) }

  pub known_after : KnownAfter (flow_at x m)
  known_after = shape.known_after numbered calls known

  pub region : Region (flow_at x m) (λ v. v < n)
  region = shape.region numbered

  -- what is not excluded costs something
  pub pays : (v : ℕ) → v < n → 1 ≤ (nodes_in x v).kind → (nodes_in x v).kind ≤ 4 → 0 < (nodes_in x v).cost
  unfolding call_flow call_cycles
  pays v h i j =
      let w = a.explored.holds v h in
      omega (arith, w.cost, (call-node-good d rom bytes (name_in x v) (name_lt x v)).pos (omega (arith, i, w.kind)) (omega (arith, j, w.kind)))

  -- 24, 21, 22, 25, 23 or N with the depth, with the same bytes
  pub answer-of-image : {p p' q q' : List ℕ} {r : Found} → Answer (flow_at x m) (λ v. (nodes_in x v).cost) (address_in x) p p' q q' r → Answer f (call_cycles d rom) address_of p p' q q' r
  answer-of-image y = renamed_by numbered (λ v h. (a.explored.holds v h).cost) (λ v h. (a.explored.holds v h).address) y
