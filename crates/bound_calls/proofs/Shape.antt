-- The flow rules with calls are finite, and to know SF only takes ways away.
use Rattle.std.specs.Prelude.{Ok, Err}
use mathlib.Core.Path.{◌≡◌, refl}
use mathlib.Core.Logic.{◌⊎◌, inl, inr, ⊎_elim}
use mathlib.Core.Bool.{Bool, true, false}
use Prim.Native.Nat.{ℕ, ◌+◌, ◌*◌, ◌%◌, ◌<◌, ◌≤◌}
use native.Mathlib.Decide.{ℕ_discrete}
use native.Mathlib.Omega.{arith}
use borrow.Author.Tests.{eq-eqb, ne_eqb}
use lib.Dec.{T, leb, leb→le, eqb}
use Rattle.laws.specs.Choice.{pick}
use Rattle.laws.proofs.Computed.{at, both_left, both_right}
use Rattle.device.specs.declared.Device.{Device}
use Rattle.sheet.specs.declared.NoRow.{NoRow}
use Rattle.sheet.specs.Operation.{Entry, Operation}
use Rattle.sheet.specs.Table.{Mark, lines, line_at}
use Rattle.sheet.specs.Fields.{field_a}
use Rattle.sheet.specs.Flow.{call_entry}
use Rattle.sheet.specs.Reading.{Read, read_at, wrapped}
use Rattle.sheet.specs.declared.Insn.{Insn}
use Rattle.reader.proofs.Rows.{read-in-fields}
use Rattle.row.specs.Columns.{work_puts}
use Rattle.row.proofs.RowsValid.{fits_operation, line_fits}
use Rattle.routines.specs.Shape.{Small, Narrower, Widens}
use Rattle.bound_flow.specs.Flow.{place, address_of, is_known, Way, way_by, node_by}
use Rattle.bound_flow.proofs.Inside.{Good, cycles_of_lem, way-good, place_lt, nowhere-good}
use Rattle.bound_calls.specs.declared.CallNode.{CallNode}
use Rattle.bound_calls.specs.CallFlow.{is_sp, CallWay, call_way_by, call_node_by, no_node, call_node_read, call_node_of, call_flow}

-- a call's entry is below 0800h: LCALL has 11 address bits, and SCALL goes to 8n + 6 or 86h
abbrev enters_low : ℕ → Operation → Bool
enters_low n (Operation.call Entry.long) = leb n 2048
enters_low n (Operation.call Entry.short) = leb n 16
enters_low n (Operation.work to a) = true
enters_low n (Operation.branch t) = true
enters_low n Operation.return = true
enters_low n Operation.return_flag = true
enters_low n (Operation.IL⟵IL-and-r e) = true
enters_low n Operation.no_operation = true

line_enters : (row : ℕ) → row < 108 → T (enters_low (field_a (line_at row).codes) (line_at row).operation)
unfolding line_at lines
line_enters row h = at (λ row. enters_low (field_a (line_at row).codes) (line_at row).operation) 108 tt row h

short_low : (n : ℕ) (z : Bool) → n < 16 → pick z 0x86 (8 * n + 6) < 2048
short_low n true h = omega arith
short_low n false h = omega arith

entry_low : (n a : ℕ) (e : Entry) → T (enters_low n (Operation.call e)) → a < n → call_entry e a < 2048
entry_low n a Entry.long t h = let l = leb→le n 2048 t in omega (arith, l)
entry_low n a Entry.short t h = let l = leb→le n 16 t in short_low a (eqb a 0) (omega (arith, l))

pub record GoodCall (x : CallNode) : Type 0 where
  pub next_lt : x.next < 16384
  pub other_lt : x.other < 16384
  pub entry_lt : x.entry < 2048
  pub kind_le : x.kind ≤ 4
  pub pos : 1 ≤ x.kind → x.kind ≤ 4 → 0 < x.cost
  pub le : x.cost ≤ 3

-- document 01's kinds are no calls and no returns
pub few_kinds : (at : ℕ) (known : Bool) (i : Insn) (bytes cycles : ℕ) (w : Way) → (node_by at known i bytes cycles w).kind ≤ 2
few_kinds at known i bytes cycles Way.nowhere = omega arith
few_kinds at known i bytes cycles Way.end = omega arith
few_kinds at known i bytes cycles (Way.onward k) = omega arith
few_kinds at known i bytes cycles (Way.branches t) = omega arith

pub on_or_end : (k : ℕ) → 1 ≤ k → k ≤ 2 → (k ≡ 1) ⊎ (k ≡ 2)
on_or_end k l h = go (ℕ_discrete k 1)
  where
    go : Dec (k ≡ 1) → (k ≡ 1) ⊎ (k ≡ 2)
    go (yes e) = inl e
    go (no n) = inr (omega arith)

module _ (d : Device) (address : ℕ) (known : Bool) (i : Insn) (bytes cycles : ℕ) (pos : 0 < cycles) (few : cycles ≤ 3) where
  before-good : (w : Way) → Good (node_by address known i bytes cycles w) → GoodCall (call_node_by address known i bytes cycles (CallWay.as_before w))
  before-good w g =
      record {
        next_lt = g.next_lt;
        other_lt = g.other_lt;
        entry_lt = omega arith;
        kind_le = omega (arith, few_kinds address known i bytes cycles w);
        pos = λ l h. ⊎_elim g.on_pos g.end_pos (on_or_end (node_by address known i bytes cycles w).kind l (few_kinds address known i bytes cycles w));
        le = g.le;
      }

  spared-good : (t : Bool) (w : Way) → Good (node_by address known i bytes cycles w) → GoodCall (call_node_by address known i bytes cycles (CallWay.as_before (pick t Way.nowhere w)))
  spared-good true w g = before-good Way.nowhere (nowhere-good d address known i bytes cycles pos few)
  spared-good false w g = before-good w g

  old-good : (n : ℕ) → i.a < n → address < 8192 → (s : Mark) (o : Operation) → T (fits_operation n o) → GoodCall (call_node_by address known i bytes cycles (CallWay.as_before (way_by d i s o)))
  old-good n h l s o f = before-good (way_by d i s o) (way-good d address known i bytes cycles pos few n h l s o f)

  call-good : (n : ℕ) → i.a < n → address < 8192 → (s : Mark) (o : Operation) → T (fits_operation n o) → T (enters_low n o) → GoodCall (call_node_by address known i bytes cycles (call_way_by d i s o))
  call-good n h l s (Operation.work to a) f e = spared-good (work_puts is_sp to a) (way_by d i s (Operation.work to a)) (way-good d address known i bytes cycles pos few n h l s (Operation.work to a) f)
  call-good n h l s (Operation.branch t) f e = old-good n h l s (Operation.branch t) f
  call-good n h l s (Operation.call c) f e =
      record { next_lt = place_lt (wrapped address bytes) false (omega arith); other_lt = place_lt (wrapped address bytes) true (omega arith); entry_lt = entry_low n i.a c e h; kind_le = omega arith; pos = λ _ _. pos; le = few }
  call-good n h l s Operation.return f e = record { next_lt = omega arith; other_lt = omega arith; entry_lt = omega arith; kind_le = omega arith; pos = λ _ _. pos; le = few }
  call-good n h l s Operation.return_flag f e = old-good n h l s Operation.return_flag f
  call-good n h l s (Operation.IL⟵IL-and-r c) f e = old-good n h l s (Operation.IL⟵IL-and-r c) f
  call-good n h l s Operation.no_operation f e = old-good n h l s Operation.no_operation f

none_good : GoodCall no_node
none_good = record { next_lt = omega arith; other_lt = omega arith; entry_lt = omega arith; kind_le = omega arith; pos = λ l h. absurd (omega arith); le = omega arith }

module _ (d : Device) (rom : ℕ → ℕ) (bytes : (at : ℕ) → rom at < 256) where
  read_good : (address : ℕ) (known : Bool) → address < 8192 → (r : Read) → read_at rom address ≡ r → GoodCall (call_node_read d address known r)
  read_good address known l (Ok i) e =
      let h = read-in-fields rom address i e bytes in
      let line = line_at i.row in
      let c = cycles_of_lem i.row h.some h.row in
      call-good d address known i line.bytes line.cycles (leb→le 1 line.cycles (both_left (leb 1 line.cycles) _ c)) (leb→le line.cycles 3 (both_right (leb 1 line.cycles) _ c))
      (field_a line.codes) h.a l line.s line.operation (line_fits i.row h.row) (line_enters i.row h.row)
  read_good address known l (Err NoRow.Unassigned) e = none_good
  read_good address known l (Err NoRow.PastEnd) e = none_good

  pub call-node-good : (v : ℕ) → v < 16384 → GoodCall (call_node_of d rom v)
  unfolding call_node_of
  call-node-good v l = read_good (address_of v) (is_known v) (omega arith) (read_at rom (address_of v)) refl

  -- 16,384 places, and entries below 0800h
  pub flow-small : (start : ℕ) → start < 8192 → Small (call_flow d rom start) 16384 2048
  unfolding call_flow
  flow-small start h =
      record {
        start = place_lt start true h;
        from = λ e l. place_lt e false (omega arith);
        next = λ v l. (call-node-good v l).next_lt;
        other = λ v l. (call-node-good v l).other_lt;
        entry = λ v l. (call-node-good v l).entry_lt;
      }

-- the node at an address where SF is known, beside that where it is not
record NarrowerNode (x y : CallNode) : Type 0 where
  pub kind : x.kind ≡ y.kind
  pub next : x.kind ≡ 1 → (x.next ≡ y.next) ⊎ (x.next ≡ y.other)
  pub other : x.kind ≡ 1 → (x.other ≡ y.next) ⊎ (x.other ≡ y.other)
  pub entry : x.kind ≡ 3 → x.entry ≡ y.entry
  pub unknown_after : x.kind ≡ 3 → x.next ≡ y.next
  pub known_after : x.kind ≡ 3 → x.other ≡ y.other

same_node : (x : CallNode) → NarrowerNode x x
same_node x = record { kind = refl; next = λ _. inl refl; other = λ _. inr refl; entry = λ _. refl; unknown_after = λ _. refl; known_after = λ _. refl }

by_way : (at : ℕ) (i : Insn) (bytes cycles : ℕ) (w : CallWay) → NarrowerNode (call_node_by at true i bytes cycles w) (call_node_by at false i bytes cycles w)
by_way at i bytes cycles (CallWay.as_before Way.nowhere) = same_node _
by_way at i bytes cycles (CallWay.as_before Way.end) = same_node _
by_way at i bytes cycles (CallWay.as_before (Way.onward k)) = same_node _
by_way at i bytes cycles (CallWay.as_before (Way.branches t)) =
    record { kind = refl; next = λ _. inr refl; other = λ _. inr refl; entry = λ _. refl; unknown_after = λ k. absurd (omega (arith, k)); known_after = λ k. absurd (omega (arith, k)) }
by_way at i bytes cycles CallWay.back = same_node _
by_way at i bytes cycles (CallWay.into e) = same_node _

by_read : (d : Device) (at : ℕ) (r : Read) → NarrowerNode (call_node_read d at true r) (call_node_read d at false r)
by_read d at (Ok i) = let l = line_at i.row in by_way at i l.bytes l.cycles (call_way_by d i l.s l.operation)
by_read d at (Err NoRow.Unassigned) = same_node _
by_read d at (Err NoRow.PastEnd) = same_node _

pub known_of : (at : ℕ) → is_known (place at true) ≡ true
known_of at = eq-eqb (place at true % 2) 1 (omega arith)

pub unknown_of : (at : ℕ) → is_known (place at false) ≡ false
unknown_of at = ne_eqb (place at false % 2) 1 (λ e. omega (arith, e))

half_true : (at : ℕ) → address_of (place at true) ≡ at
half_true at = omega arith

half_false : (at : ℕ) → address_of (place at false) ≡ at
half_false at = omega arith

at_address : (d : Device) (rom : ℕ → ℕ) (at : ℕ) → NarrowerNode (call_node_of d rom (place at true)) (call_node_of d rom (place at false))
unfolding call_node_of
at_address d rom at = rw (half_true at, half_false at, known_of at, unknown_of at) (by_read d at (read_at rom at))

-- both places after a call are those of one address
pub record AfterCall (x : CallNode) : Type 0 where
  pub at : ℕ
  pub next : x.next ≡ place at false
  pub other : x.other ≡ place at true

after_way : (at : ℕ) (known : Bool) (i : Insn) (bytes cycles : ℕ) (w : CallWay) → (call_node_by at known i bytes cycles w).kind ≡ 3 → AfterCall (call_node_by at known i bytes cycles w)
after_way at known i bytes cycles (CallWay.as_before w) k = let f = few_kinds at known i bytes cycles w in absurd (omega (arith, k, f))
after_way at known i bytes cycles CallWay.back k = absurd (omega (arith, k))
after_way at known i bytes cycles (CallWay.into e) k = record { at = wrapped at bytes; next = refl; other = refl }

after_read_lem : (d : Device) (at : ℕ) (known : Bool) (r : Read) → (call_node_read d at known r).kind ≡ 3 → AfterCall (call_node_read d at known r)
after_read_lem d at known (Ok i) k = let l = line_at i.row in after_way at known i l.bytes l.cycles (call_way_by d i l.s l.operation) k
after_read_lem d at known (Err NoRow.Unassigned) k = absurd (omega (arith, k))
after_read_lem d at known (Err NoRow.PastEnd) k = absurd (omega (arith, k))

pub after_call : (d : Device) (rom : ℕ → ℕ) (v : ℕ) → (call_node_of d rom v).kind ≡ 3 → AfterCall (call_node_of d rom v)
unfolding call_node_of
after_call d rom v k = after_read_lem d (address_of v) (is_known v) (read_at rom (address_of v)) k

pub flow_widens : (d : Device) (rom : ℕ → ℕ) (start : ℕ) → Widens (call_flow d rom start)
unfolding call_flow
flow_widens d rom start = record { at_call = λ v k. narrower v (after_call d rom v k) }
  where
    narrower : (v : ℕ) → AfterCall (call_node_of d rom v) → Narrower (call_flow d rom start) (call_node_of d rom v).other (call_node_of d rom v).next
    narrower v a = let n = at_address d rom a.at in rw (a.other, a.next) (record { kind = n.kind; next = n.next; other = n.other; entry = n.entry; unknown_after = n.unknown_after; known_after = n.known_after })
