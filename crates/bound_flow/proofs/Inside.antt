-- A node's followers are places of the image, and what is not excluded costs something.
use Rattle.std.specs.Prelude.{Ok, Err}
use mathlib.Core.Path.{◌≡◌, refl}
use mathlib.Core.Logic.{◌⊎◌, ⊎_elim}
use mathlib.Core.Bool.{Bool, true, false}
use Prim.Native.Nat.{ℕ, ◌<◌, ◌≤◌}
use native.Mathlib.Omega.{arith}
use lib.Dec.{T, leb, leb→le, le→leb}
use Rattle.laws.specs.Choice.{pick, both}
use Rattle.laws.proofs.Computed.{implies, at, both_left, both_right, modus}
use Rattle.device.specs.declared.Device.{Device}
use Rattle.sheet.specs.Operation.{Operation}
use Rattle.sheet.specs.Table.{Mark, lines, line_at}
use Rattle.sheet.specs.Fields.{field_a}
use Rattle.sheet.specs.Flow.{target_of}
use Rattle.sheet.specs.Reading.{Read, read_at, wrapped}
use Rattle.sheet.specs.declared.Insn.{Insn}
use Rattle.reader.proofs.Rows.{read-in-fields}
use Rattle.row.specs.Columns.{sets_ei}
use Rattle.row.proofs.RowsValid.{fits_operation, line_fits, target_lt}
use Rattle.graph.specs.Graph.{GoesOn, Ends}
use Rattle.graph.specs.Laid.{Inside}
use Rattle.bound_flow.specs.Flow.{Way, place, address_of, is_known, is_one, writes_guarded, way_by, excluded, forked, node_by, node_read, node_of, flow_graph, flow_cost}
use Rattle.bound_flow.specs.Flow.{Node}

pub record Good (x : Node) : Type 0 where
  pub next_lt : x.next < 16384
  pub other_lt : x.other < 16384
  pub on_pos : x.kind ≡ 1 → 0 < x.cost
  pub end_pos : x.kind ≡ 2 → 0 < x.cost
  pub le : x.cost ≤ 3

-- a row takes one cycle to three
pub cycles_of_lem : (row : ℕ) → 0 < row → row < 108 → T (both (leb 1 (line_at row).cycles) (leb (line_at row).cycles 3))
unfolding line_at lines
cycles_of_lem row s h = modus (leb 1 row) _ (at (λ row. implies (leb 1 row) (both (leb 1 (line_at row).cycles) (leb (line_at row).cycles 3))) 108 tt row h) (le→leb 1 row s)

pub place_lt : (address : ℕ) (known : Bool) → address < 8192 → place address known < 16384
place_lt address true h = omega arith
place_lt address false h = omega arith

pub excluded_good : Good excluded
excluded_good = record { next_lt = omega arith; other_lt = omega arith; on_pos = λ e. absurd (omega (arith, e)); end_pos = λ e. absurd (omega (arith, e)); le = omega arith }

module _ (d : Device) (address : ℕ) (known : Bool) (i : Insn) (bytes cycles : ℕ) (pos : 0 < cycles) (few : cycles ≤ 3) where
  wrapped-lt : wrapped address bytes < 8192
  wrapped-lt = omega arith

  forked-good : (k : Bool) (on target : ℕ) → on < 8192 → target < 8192 → Good (forked k on target cycles)
  forked-good true on target h t = record { next_lt = place_lt target true t; other_lt = place_lt target true t; on_pos = λ e. pos; end_pos = λ e. pos; le = omega arith }
  forked-good false on target h t = record { next_lt = place_lt on true h; other_lt = place_lt target true t; on_pos = λ e. pos; end_pos = λ e. pos; le = omega arith }

  pub nowhere-good : Good (node_by address known i bytes cycles Way.nowhere)
  nowhere-good = excluded_good

  onward-good : (k : Bool) → Good (node_by address known i bytes cycles (Way.onward k))
  onward-good k = record { next_lt = place_lt _ k wrapped-lt; other_lt = place_lt _ k wrapped-lt; on_pos = λ e. pos; end_pos = λ e. pos; le = omega arith }

  picked-good : (t k : Bool) → Good (node_by address known i bytes cycles (pick t Way.nowhere (Way.onward k)))
  picked-good true k = nowhere-good
  picked-good false k = onward-good k

  pub way-good : (n : ℕ) → i.a < n → address < 8192 → (s : Mark) (o : Operation) → T (fits_operation n o) → Good (node_by address known i bytes cycles (way_by d i s o))
  way-good n h l s (Operation.work to a) f = picked-good (writes_guarded d i (Operation.work to a)) (is_one s)
  way-good n h l s (Operation.branch t) f = forked-good known (wrapped address bytes) (target_of t address i.a) wrapped-lt (target_lt n t address i.a l h f)
  way-good n h l s (Operation.call e) f = nowhere-good
  way-good n h l s Operation.return f = nowhere-good
  way-good n h l s Operation.return_flag f = record { next_lt = omega arith; other_lt = omega arith; on_pos = λ e. pos; end_pos = λ e. pos; le = omega arith }
  way-good n h l s (Operation.IL⟵IL-and-r e) f = picked-good (sets_ei (Operation.IL⟵IL-and-r e)) (is_one s)
  way-good n h l s Operation.no_operation f = onward-good (is_one s)

read_good : (d : Device) (rom : ℕ → ℕ) → ((at : ℕ) → rom at < 256) → (address : ℕ) (known : Bool) → address < 8192 → (r : Read) → read_at rom address ≡ r → Good (node_read d address known r)
read_good d rom bytes address known l (Ok i) e =
    let h = read-in-fields rom address i e bytes in
    let line = line_at i.row in
    let c = cycles_of_lem i.row h.some h.row in
    way-good d address known i line.bytes line.cycles (leb→le 1 line.cycles (both_left (leb 1 line.cycles) _ c)) (leb→le line.cycles 3 (both_right (leb 1 line.cycles) _ c))
    (field_a line.codes) h.a l line.s line.operation (line_fits i.row h.row)
read_good d rom bytes address known l (Err why) e = excluded_good

pub node_good : (d : Device) (rom : ℕ → ℕ) → ((at : ℕ) → rom at < 256) → (v : ℕ) → v < 16384 → Good (node_of d rom v)
unfolding node_of
node_good d rom bytes v l = read_good d rom bytes (address_of v) (is_known v) (omega arith) (read_at rom (address_of v)) refl

-- edges lead from places of the image to places of the image
pub flow_inside : (d : Device) (rom : ℕ → ℕ) → ((at : ℕ) → rom at < 256) → Inside (flow_graph d rom) 16384
unfolding flow_graph
flow_inside d rom bytes = record { edge = λ v w l e. ⊎_elim (λ n. rw n (node_good d rom bytes v l).next_lt) (λ n. rw n (node_good d rom bytes v l).other_lt) e.1 }

pub cost_pos : (d : Device) (rom : ℕ → ℕ) → ((at : ℕ) → rom at < 256) → (v : ℕ) → v < 16384 → GoesOn (flow_graph d rom) v ⊎ Ends (flow_graph d rom) v → 0 < flow_cost d rom v
unfolding flow_graph flow_cost
cost_pos d rom bytes v l k = ⊎_elim (λ on. (node_good d rom bytes v l).on_pos on) (λ end. (node_good d rom bytes v l).end_pos end) k
