-- Demand 3 of the two calls: where bound answers N, run answers to the frames up to the step that ends the handler within N cycles, with RTI executed or a named stop.
use mathlib.Core.Path.{◌≡◌, refl, sym, ap, subst, ◌∙◌}
use mathlib.Core.Bool.{Bool, false}
use mathlib.Core.List.{List, [], ◌∷◌}
use Prim.Native.Nat.{ℕ, ◌<◌}
use native.Mathlib.Omega.{arith}
use lib.Dec.{T, eqb}
use lib.ListN.{length, get_or}
use Rattle.numbers.specs.ComesBack.{Paper, answered}
use Rattle.device.specs.Device.{image_size, rom_of}
use Rattle.device.specs.declared.Device.{Device}
use Rattle.device.specs.declared.Options.{Options}
use Rattle.frame.specs.Frame.{frames_of}
use Rattle.record.specs.Valid.{Valid}
use Rattle.record.specs.declared.Machine.{Machine}
use Rattle.routines.specs.Answer.{Found, Judged, HasBound, PathAnswer, FlowAnswer, Answer}
use Rattle.bound_flow.specs.Flow.{address_of}
use Rattle.bound_runs.proofs.Buffers.{all_in_range}
use Rattle.bound_runs.proofs.EndsByCall.{ends-by-call, answer-then, last_then}
use Rattle.bound_calls.specs.CallFlow.{call_flow, call_cycles}
use Rattle.bound_calls.specs.CallAnswer.{paper_of_found, CallAnswer, gives_1, gives_2, gives_20, by_flow}
use Rattle.bound_calls_runs.specs.CallHandler.{ReturnsWithin, Enough, RunReturnsWithin, Demand3OfCalls, Demand3OfAnswersAtDepth0}
use Rattle.bound_calls_runs.proofs.CallDemand.{demand_3_with_calls, demand_3_at_depth_0}

-- a refusal's number is not 0
not_0 : {p q : Paper} → p ≡ q → T (eqb q.number 0) → eqb p.number 0 ≡ false → ⊥
not_0 {p} {q} same t f = subst T (sym (ap (λ (r : Paper). eqb r.number 0) same) ∙ f) t

-- where the answer is N, the image and the start are good and N bounds the handler
record Bounds (d : Device) (image : List ℕ) (p3 start N depth : ℕ) : Type 0 where
  pub size : length image ≡ image_size d
  pub inside : start < 8192
  pub K : ℕ → Bool
  pub path : List ℕ
  pub deep : List ℕ
  pub judged : Judged (call_flow d (rom_of image p3) start) K
  pub bound : HasBound (call_flow d (rom_of image p3) start) (call_cycles d (rom_of image p3)) K N depth path deep

module _ (d : Device) (image : List ℕ) (p3 start N depth : ℕ) (path path' deep deep' : List ℕ) where
  abbrev N-is : Paper → Type 0
  N-is p = p ≡ answered (N ∷ depth ∷ [])

  -- N and the depth are the first two values of the answer
  bounds-same : {K : ℕ → Bool} {n e : ℕ} {l k : List ℕ} → answered (n ∷ e ∷ []) ≡ answered (N ∷ depth ∷ []) → HasBound (call_flow d (rom_of image p3) start) (call_cycles d (rom_of image p3)) K n e l k
      → HasBound (call_flow d (rom_of image p3) start) (call_cycles d (rom_of image p3)) K N depth l k
  bounds-same same b = rw (sym (ap (λ (q : Paper). get_or q.values 0 0) same), sym (ap (λ (q : Paper). get_or q.values 1 0) same)) b

  -- a path that is found goes with the values of its answer
  of-path : {n e : ℕ} {l k : List ℕ} {x : Found} → PathAnswer address_of path path' deep deep' n e l k x → N-is (paper_of_found x) → answered (n ∷ e ∷ []) ≡ answered (N ∷ depth ∷ [])
  of-path (PathAnswer.gives_25 l k) same = absurd (not_0 same tt refl)
  of-path (PathAnswer.gives_23 l s k) same = absurd (not_0 same tt refl)
  of-path (PathAnswer.gives_23_depth l r s k) same = absurd (not_0 same tt refl)
  of-path (PathAnswer.gives_n h r s x y) same = same

  by_answer : length image ≡ image_size d → start < 8192 → {x : Found} → Answer (call_flow d (rom_of image p3) start) (call_cycles d (rom_of image p3)) address_of path path' deep deep' x → N-is (paper_of_found x) → Bounds d image p3 start N depth
  by_answer len lt (Answer.gives_24 l k) same = absurd (not_0 same tt refl)
  by_answer len lt (Answer.judged j (FlowAnswer.gives_21 l k)) same = absurd (not_0 same tt refl)
  by_answer len lt (Answer.judged j (FlowAnswer.gives_22 n l k)) same = absurd (not_0 same tt refl)
  by_answer len lt (Answer.judged {K = K} j (FlowAnswer.bounded {path = l} {deep = k} b answer)) same =
      record { size = len; inside = lt; K = K; path = l; deep = k; judged = j; bound = bounds-same (of-path answer same) b }

  bounds-by : {p : Paper} → CallAnswer d image p3 start path path' deep deep' p → N-is p → Bounds d image p3 start N depth
  bounds-by (gives_1 n k) same = absurd (not_0 same tt refl)
  bounds-by (gives_2 len n k) same = absurd (not_0 same tt refl)
  bounds-by (gives_20 len b over k) same = absurd (not_0 same tt refl)
  bounds-by (by_flow len b le a) same = by_answer len (omega arith) a same

module _ (image : List ℕ) (o : Options) (m : Machine) (frames : List ℕ) (N : ℕ) (size : length image ≡ image_size o.device) (valid : Valid o.device m) (enough : Enough o.device frames N) where
  -- the call's answer to the frames before the last step is the run's
  run-returns : ReturnsWithin (rom_of image) o m (frames_of o.device frames) N → RunReturnsWithin image o m frames N
  run-returns e = record {
    ends = ends-by-call image o m frames size valid enough.good enough.few N enough.many e.ends;
    own = λ q a r.
        let is = answer-then image o m frames size valid enough.good enough.few N enough.many e.ends q a in
        let last = last_then image o m frames size valid enough.good enough.few N enough.many e.ends in
        rw is (e.own (rw (is, last) at r));
  }

pub demand_3_of_calls : Demand3OfCalls
demand_3_of_calls image bytes o p3 start N depth path path' deep deep' answer m enters frames enough spared =
    let b = bounds-by o.device image p3 start N depth path path' deep deep' answer refl in
    run-returns image o m frames N b.size enters.valid enough
    (demand_3_with_calls (rom_of image) bytes o p3 start b.inside b.K N depth b.path b.deep b.judged b.bound m enters (frames_of o.device frames) (all_in_range o.device frames enough.good) enough.many spared)

pub demand_3_of_answers_at_depth_0 : Demand3OfAnswersAtDepth0
demand_3_of_answers_at_depth_0 image bytes o p3 start N path path' deep deep' answer m enters frames enough =
    let b = bounds-by o.device image p3 start N 0 path path' deep deep' answer refl in
    run-returns image o m frames N b.size enters.valid enough
    (demand_3_at_depth_0 (rom_of image) bytes o p3 start b.inside b.K N b.path b.deep b.judged b.bound m enters (frames_of o.device frames) (all_in_range o.device frames enough.good) enough.many)
