-- `hex_writer::write_text` meets its contract: the records so far are written.
use mathlib.Core.Path.{◌≡◌, ◌∙◌}
use Prim.Native.Nat.{◌+◌, ◌-◌, ◌*◌, ◌/◌, ◌<◌}
use lib.ListN.{length, drop, length-take, length-drop}
use Rattle.hex_writer.specs.Writer.{record_text, data_fields, end_fields, sixteen_at, records_of, text_of}
use Rattle.hex_writer.proofs.Texts.{records_more, record_of, sixteen_length, record_length, stored_front, stored_rest, stored_all}
use native.Mathlib.Omega.{arith}
use Rattle.hex_writer.proofs.write_text.Goals as goal

pub copy_from_slice-requires : goal.copy_from_slice-requires
copy_from_slice-requires c =
    let image = c.args.image.now in
    let k = c.loop-k.k in
    let h : k < records_of (length image) = omega arith in
    let e = c.record-line.ensures ∙ record_of image k h in
    let n : length c.as_slice.result.now ≡ 44 = rw (c.as_slice.ensures, e) (omega (arith, record_length (data_fields (16 * k) (sixteen_at image k)), sixteen_length image k h)) in
    omega (arith, n, length-take (44 * k + 44 - 44 * k) (drop (44 * k) c.loop-k.out), length-drop (44 * k) c.loop-k.out)

pub loop-k-preserved : goal.loop-k-preserved
loop-k-preserved c =
    let image = c.args.image.now in
    let k = c.loop-k.k in
    let i = c.loop-k.invariant in
    let h : k < records_of (length image) = omega arith in
    let line = record_text (data_fields (16 * k) (sixteen_at image k)) in
    let e : c.copy_from_slice.new.self ≡ line = c.copy_from_slice.ensures.after ∙ (c.as_slice.ensures ∙ (c.record-line.ensures ∙ record_of image k h)) in
    let n : length line ≡ 44 = omega (arith, record_length (data_fields (16 * k) (sixteen_at image k)), sixteen_length image k h) in
    let a : 44 * (k + 1) ≡ 44 * k + length line = omega arith in
    let z : 44 * k + 44 - 44 * k ≡ length line = omega arith in
    record {
      written = rw (e, records_more image k) (stored_front c.loop-k.out c.args.out.now line _ (44 * k) (44 * k + 44 - 44 * k) (44 * (k + 1)) a z (omega arith) i.written i.rest);
      rest = rw e (stored_rest c.loop-k.out c.args.out.now line _ (44 * k) (44 * k + 44 - 44 * k) (44 * (k + 1)) a z (omega arith) i.written i.rest);
      all = i.all;
    }

pub copy_from_slice-requires-2 : goal.copy_from_slice-requires-2
copy_from_slice-requires-2 c =
    let r = 44 * (length c.args.image.now / 16) in
    let n : length c.as_slice-2.result.now ≡ 12 = rw (c.as_slice-2.ensures, c.record-end.ensures) (record_length end_fields) in
    omega (arith, n, length-take (r + 12 - r) (drop r c.loop-k.out), length-drop r c.loop-k.out)

pub returns : goal.returns
unfolding text_of
returns c =
    let r = 44 * (length c.args.image.now / 16) in
    let i = c.loop-k.invariant in
    let k : 44 * c.loop-k.k ≡ r = omega arith in
    let j : c.loop-k.k ≡ records_of (length c.args.image.now) = omega arith in
    let n = record_length end_fields in
    let e : c.copy_from_slice-2.new.self ≡ record_text end_fields = c.copy_from_slice-2.ensures.after ∙ (c.as_slice-2.ensures ∙ c.record-end.ensures) in
    rw e (stored_all c.loop-k.out c.args.out.now (record_text end_fields) _ r (r + 12 - r) (44 * records_of (length c.args.image.now) + 12) (omega arith) (omega arith) (omega arith) (rw (k, j) at i.written) (rw k at i.rest))
