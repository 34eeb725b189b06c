-- Where neither a call nor a row storing to SP is reachable, the outer routine is document 01's graph, and what is answered is document 01's answer, joined by depth 0.
use Rattle.std.specs.Prelude.{Ok, Err}
use mathlib.Core.Path.{◌≡◌, refl, sym, subst, ◌∙◌}
use mathlib.Core.Logic.{◌⊎◌, inl, inr, ⊎_elim}
use mathlib.Core.Bool.{Bool, true, false, not}
use mathlib.Core.List.{List, ◌++◌}
use Prim.Native.Nat.{ℕ, ◌*◌, ◌<◌, ◌≤◌}
use native.Mathlib.Decide.{ℕ_discrete}
use native.Mathlib.Omega.{arith}
use lib.Dec.{T, eqb}
use lib.ListN.{length, drop}
use borrow.Author.Tests.{eq-eqb, ne_eqb}
use Rattle.laws.specs.Choice.{pick, either}
use Rattle.device.specs.declared.Device.{Device}
use Rattle.sheet.specs.declared.NoRow.{NoRow}
use Rattle.sheet.specs.Operation.{Operation}
use Rattle.sheet.specs.Table.{Mark, line_at}
use Rattle.sheet.specs.Reading.{Read, read_at}
use Rattle.sheet.specs.declared.Insn.{Insn}
use Rattle.row.specs.Columns.{work_puts}
use Rattle.graph.specs.Graph.{Graph, Edge, Reach, here, step, next_only, sum, Bad, Loops, Sound}
use Rattle.graph.specs.Laid.{Inside}
use Rattle.graph.proofs.Agree.{Agree, agree-sym, reach-to, bad-to, loops-to, longest-to, next-to, sound-to, sum_same}
use Rattle.graph.proofs.HasPath.{has-path}
use Rattle.graph.proofs.Length.{path-length, sum_at_most}
use Rattle.graph.proofs.Unique.{longest_path, longest_most}
use Rattle.routines.specs.Calling.{Flow, outer, unknown, within, IsBad, IsLoop, HandlerPath, depth, FirstOf}
use Rattle.routines.specs.Answer as routines
use Rattle.routines.specs.Answer.{LowestAddress, bytes_of, Found, short, bounds, Kept, PathAnswer, FlowAnswer, Answer}
use Rattle.routines.proofs.First.{first_unique}
use Rattle.routines.proofs.Base.{NoCalls, bad-base, loop-base, base-bad, base-loop, judged-any, old_answer, new-answer, next-deepest, depth-zero}
use Rattle.bound_flow.specs.Flow.{address_of, is_known, Way, way_by, node_by, node_read, node_of, flow_graph, flow_cost, start_of}
use Rattle.bound_flow.specs.Flow.{Node}
use Rattle.bound_flow.specs.Bound.{HasBound}
use Rattle.bound_flow.proofs.Inside.{node_good, flow_inside}
use Rattle.bound_calls.specs.declared.CallNode.{CallNode}
use Rattle.bound_calls.specs.CallFlow.{is_sp, CallWay, call_way_by, call_node_by, call_node_read, call_node_of, call_flow, call_cycles}
use Rattle.bound_calls.specs.OldAnswer.{is_plain, Plain, old_23, old_n, OldAnswer, DepthPath, Joined, same_21, same_22, same_23, depth_23, same_n, OldAnswerStands}
use Rattle.bound_calls.proofs.Shape.{few_kinds, flow-small, flow_widens}

-- a place's kind in the outer routine
abbrev outer_kind : ℕ → ℕ
outer_kind k = pick (either (eqb k 1) (eqb k 3)) 1 (pick (eqb k 2) 2 0)

kept_kind : (k : ℕ) → k ≤ 2 → Dec (k ≡ 1) → Dec (k ≡ 2) → outer_kind k ≡ k
kept_kind k h (yes e) b = rw (eq-eqb k 1 e) (sym e)
kept_kind k h (no a) (yes e) = rw (ne_eqb k 1 a, ne_eqb k 3 (omega arith), eq-eqb k 2 e) (sym e)
kept_kind k h (no a) (no b) = rw (ne_eqb k 1 a, ne_eqb k 3 (omega arith), ne_eqb k 2 b) (omega arith)

-- the node of the flow with calls beside document 01's
record Alike (n : Node) (x : CallNode) : Type 0 where
  pub kind : n.kind ≡ outer_kind x.kind
  pub no_call : x.kind ≡ 3 → ⊥
  pub next : n.kind ≡ 1 → n.next ≡ x.next
  pub other : n.kind ≡ 1 → n.other ≡ x.other
  pub cost : (n.kind ≡ 1) ⊎ (n.kind ≡ 2) → n.cost ≡ x.cost

module _ (at : ℕ) (known : Bool) (i : Insn) (bytes cycles : ℕ) where
  before-alike : (w : Way) → Alike (node_by at known i bytes cycles w) (call_node_by at known i bytes cycles (CallWay.as_before w))
  before-alike w =
      let k = (node_by at known i bytes cycles w).kind in
      let few = few_kinds at known i bytes cycles w in
      record { kind = sym (kept_kind k few (ℕ_discrete k 1) (ℕ_discrete k 2)); no_call = λ e. omega (arith, e, few); next = λ _. refl; other = λ _. refl; cost = λ _. refl }

  back-alike : Alike (node_by at known i bytes cycles Way.nowhere) (call_node_by at known i bytes cycles CallWay.back)
  back-alike = record { kind = refl; no_call = λ e. omega (arith, e); next = λ e. absurd (omega (arith, e)); other = λ e. absurd (omega (arith, e)); cost = λ k. ⊎_elim (λ e. absurd (omega (arith, e))) (λ e. absurd (omega (arith, e))) k }

  spared : (t : Bool) (w : Way) → not t ≡ true → Alike (node_by at known i bytes cycles w) (call_node_by at known i bytes cycles (CallWay.as_before (pick t Way.nowhere w)))
  spared true w e = absurd (subst T (sym e) tt)
  spared false w e = before-alike w

  way-alike : (d : Device) (s : Mark) (o : Operation) → is_plain o ≡ true → Alike (node_by at known i bytes cycles (way_by d i s o)) (call_node_by at known i bytes cycles (call_way_by d i s o))
  way-alike d s (Operation.work to a) e = spared (work_puts is_sp to a) (way_by d i s (Operation.work to a)) e
  way-alike d s (Operation.branch t) e = before-alike (way_by d i s (Operation.branch t))
  way-alike d s (Operation.call c) e = absurd (subst T (sym e) tt)
  way-alike d s Operation.return e = back-alike
  way-alike d s Operation.return_flag e = before-alike (way_by d i s Operation.return_flag)
  way-alike d s (Operation.IL⟵IL-and-r c) e = before-alike (way_by d i s (Operation.IL⟵IL-and-r c))
  way-alike d s Operation.no_operation e = before-alike (way_by d i s Operation.no_operation)

read_alike : (d : Device) (rom : ℕ → ℕ) (at : ℕ) (known : Bool) (r : Read) → read_at rom at ≡ r → ((i : Insn) → read_at rom at ≡ Ok i → is_plain (line_at i.row).operation ≡ true) → Alike (node_read d at known r) (call_node_read d at known r)
read_alike d rom at known (Ok i) e plain = let l = line_at i.row in way-alike at known i l.bytes l.cycles d l.s l.operation (plain i e)
read_alike d rom at known (Err NoRow.Unassigned) e plain = before-alike at known (record { row = 0; a = 0; b = 0 }) 0 0 Way.nowhere
read_alike d rom at known (Err NoRow.PastEnd) e plain = before-alike at known (record { row = 0; a = 0; b = 0 }) 0 0 Way.nowhere

node_alike : (d : Device) (rom : ℕ → ℕ) (v : ℕ) → ((i : Insn) → read_at rom (address_of v) ≡ Ok i → is_plain (line_at i.row).operation ≡ true) → Alike (node_of d rom v) (call_node_of d rom v)
unfolding node_of call_node_of
node_alike d rom v plain = read_alike d rom (address_of v) (is_known v) (read_at rom (address_of v)) refl plain

-- what goes by next alone goes
module _ (g : Graph) where
  next_edge : (v w : ℕ) → Edge (next_only g) v w → Edge g v w
  unfolding next_only
  next_edge v w e = (e.0, ⊎_elim inl inl e.1)

  next-reach : {u v : ℕ} → Reach (next_only g) u v → Reach g u v
  next-reach here = here
  next-reach (step {u} {v} e r) = step (next_edge u v e) (next-reach r)

  sound-next : (s : ℕ) → Sound g s → Sound (next_only g) s
  unfolding next_only
  sound-next s so = record {
    no_bad = λ v x. so.no_bad v (next-reach x.0, record { not_on = x.1.not_on; not_end = x.1.not_end });
    no_loop = λ v x. so.no_loop v (next-reach x.0, (x.1.0, next_edge v x.1.0 x.1.1, next-reach x.1.2));
  }

  inside-next : (n : ℕ) → Inside g n → Inside (next_only g) n
  inside-next n inside = record { edge = λ v w l e. inside.edge v w l (next_edge v w e) }

module _ (d : Device) (rom : ℕ → ℕ) (start : ℕ) (K : ℕ → Bool) (plain : Plain d rom start) where
  abbrev old : Graph
  old = flow_graph d rom

  abbrev flow : Flow
  flow = call_flow d rom start

  alike : (v : ℕ) → Reach old (start_of start) v → Alike (node_of d rom v) (call_node_of d rom v)
  alike v r = node_alike d rom v (λ i e. plain v i r e)

  not-on-or-end : (k : ℕ) → ((k ≡ 1 → ⊥) × (k ≡ 2 → ⊥) → ⊥) → Dec (k ≡ 1) → Dec (k ≡ 2) → (k ≡ 1) ⊎ (k ≡ 2)
  not-on-or-end k n (yes e) b = inl e
  not-on-or-end k n (no a) (yes e) = inr e
  not-on-or-end k n (no a) (no b) = absurd (n (a, b))

  same : Agree old (within flow K outer) (flow_cost d rom) (call_cycles d rom) (start_of start)
  unfolding flow_graph flow_cost call_flow call_cycles within
  same =
      record {
        kind = λ v r. (alike v r).kind;
        next = λ v r on. (alike v r).next on ∙ rw (ne_eqb (call_node_of d rom v).kind 3 (alike v r).no_call);
        other = λ v r on. (alike v r).other on ∙ rw (ne_eqb (call_node_of d rom v).kind 3 (alike v r).no_call);
        cost = λ v r in_it.
            let k = (node_of d rom v).kind in
            (alike v r).cost (not-on-or-end k (λ n. in_it (record { not_on = n.0; not_end = n.1 })) (ℕ_discrete k 1) (ℕ_discrete k 2));
      }

  no-calls : NoCalls flow K
  unfolding call_flow
  no-calls v i k = (alike v (reach-to (agree-sym same) i)).no_call k

  -- the lowest address of places that are the same
  lowest_to : {P Q : ℕ → Type 0} → ((v : ℕ) → P v → Q v) → ((v : ℕ) → Q v → P v) → (a : ℕ) → LowestAddress address_of P a → LowestAddress address_of Q a
  lowest_to to back a l =
      record { holds = (l.holds.0, to l.holds.0 l.holds.1, l.holds.2); least = λ b q. l.least b (q.0, back q.0 q.1, q.2) }

  module _ (bytes : (at : ℕ) → rom at < 256) (start-lt : start < 8192) where
    start-in : start_of start < 16384
    start-in = omega arith

    cost-few : (v : ℕ) → v < 16384 → flow_cost d rom v ≤ 3
    unfolding flow_cost
    cost-few v h = (node_good d rom bytes v h).le

    -- "25 N over 65,535" is never given: at most 16,384 places, of at most 3 cycles each
    few : {N : ℕ} {path : List ℕ} → HasBound d rom start N path → N ≤ 65535
    few b =
        let inside = flow_inside d rom bytes in
        omega (arith, b.sum, path-length inside start-in b.sound b.is_path, sum_at_most (flow_cost d rom) 3 inside cost-few start-in b.is_path)

    -- document 01's bound, and the depth is 0
    old-bound : {N dep : ℕ} {path deep : List ℕ} → routines.HasBound flow (call_cycles d rom) K N dep path deep → HasBound d rom start N path × (dep ≡ 0)
    unfolding call_flow
    old-bound {N} {path = path} b =
        let a = old_answer flow K no-calls b in
        let longest = longest-to (agree-sym same) here a.1 in
        let e : N ≡ sum (flow_cost d rom) path = a.2 ∙ sym (sum_same same here (longest_path longest)) in
        (record { sound = sound-to (agree-sym same) a.0; is_path = longest_path longest; sum = e; largest = rw e (longest_most longest); longest = longest }, a.3)

    some-deep : {N : ℕ} {path : List ℕ} → HasBound d rom start N path → (deep : List ℕ) × DepthPath d rom start deep
    some-deep b = has-path (inside-next old 16384 (flow_inside d rom bytes)) start-in (sound-next old (start_of start) b.sound) (start_of start) here

    -- depth's path is the first of the deepest
    deep-first : {deep : List ℕ} → DepthPath d rom start deep → FirstOf flow (HandlerPath flow K) (depth flow) deep
    unfolding call_flow
    deep-first p = next-deepest flow K no-calls (next-to same p)

    deep-only : {N dep : ℕ} {path deep : List ℕ} → routines.HasBound flow (call_cycles d rom) K N dep path deep → DepthPath d rom start deep
    deep-only b = let s = some-deep (old-bound b).0 in rw (first_unique b.deepest (deep-first s.1)) s.1

    new-bound : {N : ℕ} {path deep : List ℕ} → HasBound d rom start N path → DepthPath d rom start deep → routines.HasBound flow (call_cycles d rom) K N 0 path deep
    unfolding call_flow
    new-bound {N} {path} b p =
        let longest = longest-to same here b.longest in
        let a = (new-answer flow K no-calls (flow-small d rom bytes start start-lt) (flow_widens d rom start) (sound-to same b.sound) longest).1 in
        let e : N ≡ sum (call_cycles d rom) path = b.sum ∙ sum_same same here (longest_path b.longest) in
        let f = deep-first p in
        record { no_bad = a.no_bad; no_loop = a.no_loop; longest = a.longest; sum = e; deepest = f; depth = sym (depth-zero flow K no-calls f.in_it) }

    bad-is : (v : ℕ) → IsBad flow K v → Bad old (start_of start) v
    unfolding call_flow
    bad-is v b = bad-to (agree-sym same) (bad-base flow K no-calls v b)

    is-bad : (v : ℕ) → Bad old (start_of start) v → IsBad flow K v
    unfolding call_flow
    is-bad v b = base-bad flow K no-calls v (bad-to same b)

    loop-is : (v : ℕ) → IsLoop flow K v → Loops old (start_of start) v
    unfolding call_flow
    loop-is v b = loops-to (agree-sym same) (loop-base flow K no-calls v b)

    is_loop : (v : ℕ) → Loops old (start_of start) v → IsLoop flow K v
    unfolding call_flow
    is_loop v b = base-loop flow K no-calls v (loops-to same b)

    module _ (p p' q q' : List ℕ) where
      by-path : {N dep : ℕ} {path deep : List ℕ} {x : Found} → routines.HasBound flow (call_cycles d rom) K N dep path deep → PathAnswer address_of p p' q q' N dep path deep x → Joined d rom start p p' q q' x
      by-path b (PathAnswer.gives_25 over k) = absurd (omega (arith, over, few (old-bound b).0))
      by-path b (PathAnswer.gives_23 le s k) = same_23 (OldAnswer.gives_23 (old-bound b).0 s k.first) k.second
      by-path b (PathAnswer.gives_23_depth le r s k) = depth_23 (OldAnswer.gives_n (old-bound b).0 r refl) (deep-only b) s k
      by-path b (PathAnswer.gives_n le r s x y) = rw (old-bound b).1 (same_n (OldAnswer.gives_n (old-bound b).0 r x) (deep-only b) s y)

      by_flow : {x : Found} → FlowAnswer flow (call_cycles d rom) address_of p p' q q' K x → Joined d rom start p p' q q' x
      by_flow (FlowAnswer.gives_21 {a = a} l k) = same_21 (OldAnswer.gives_21 (lowest_to bad-is is-bad a l) k.first) k.second
      by_flow (FlowAnswer.gives_22 {a = a} n l k) = same_22 (OldAnswer.gives_22 (λ v b. n v (is-bad v b)) (lowest_to loop-is is_loop a l) k.first) k.second
      by_flow (FlowAnswer.bounded b x) = by-path b x

      abbrev Answers : Found → Type 0
      Answers x = FlowAnswer flow (call_cycles d rom) address_of p p' q q' K x

      answers-23 : {n : ℕ} → OldAnswer d rom start p p' (old_23 n) → q' ≡ q → Answers (short n)
      answers-23 (OldAnswer.gives_23 b s k) e = FlowAnswer.bounded (new-bound b (some-deep b).1) (PathAnswer.gives_23 (few b) s (record { first = k; second = e }))

      answers-depth : {N : ℕ} {written deep : List ℕ} → OldAnswer d rom start p written (old_n N) → DepthPath d rom start deep → length q < 2 * length deep → Kept p p' q q' → Answers (short (2 * length deep))
      answers-depth (OldAnswer.gives_n b r w) n s k = FlowAnswer.bounded (new-bound b n) (PathAnswer.gives_23_depth (few b) r s k)

      answers-N : {N : ℕ} {deep : List ℕ} → OldAnswer d rom start p p' (old_n N) → DepthPath d rom start deep → 2 * length deep ≤ length q → q' ≡ bytes_of address_of deep ++ drop (2 * length deep) q → Answers (bounds N 0)
      answers-N (OldAnswer.gives_n b r w) n s y = FlowAnswer.bounded (new-bound b n) (PathAnswer.gives_n (few b) r s w y)

      answers : {x : Found} → Joined d rom start p p' q q' x → Answers x
      answers (same_21 {a = a} (OldAnswer.gives_21 l k) e) = FlowAnswer.gives_21 (lowest_to is-bad bad-is a l) (record { first = k; second = e })
      answers (same_22 {a = a} (OldAnswer.gives_22 n l k) e) = FlowAnswer.gives_22 (λ v b. n v (bad-is v b)) (lowest_to is_loop loop-is a l) (record { first = k; second = e })
      answers (same_23 o e) = answers-23 o e
      answers (depth_23 o n s k) = answers-depth o n s k
      answers (same_n o n s y) = answers-N o n s y

module _ (d : Device) (rom : ℕ → ℕ) (start : ℕ) (bytes : (at : ℕ) → rom at < 256) (start-lt : start < 8192) (plain : Plain d rom start) (p p' q q' : List ℕ) where
  only_if : {x : Found} → Answer (call_flow d rom start) (call_cycles d rom) address_of p p' q q' x → Joined d rom start p p' q q' x
  only_if (Answer.gives_24 l k) = absurd ((judged-any (call_flow d rom start) unknown (no-calls d rom start unknown plain)).no_recursion _ l.holds)
  only_if (Answer.judged {K = K} j a) = by_flow d rom start K plain bytes start-lt p p' q q' a

  if_so : {x : Found} → Joined d rom start p p' q q' x → Answer (call_flow d rom start) (call_cycles d rom) address_of p p' q q' x
  if_so x = Answer.judged (judged-any (call_flow d rom start) unknown (no-calls d rom start unknown plain)) (answers d rom start unknown plain bytes start-lt p p' q q' x)

pub old_answer_stands : OldAnswerStands
old_answer_stands d rom start bytes start-lt plain p p' q q' x = record { only_if = only_if d rom start bytes start-lt plain p p' q q'; if_so = if_so d rom start bytes start-lt plain p p' q q' }
