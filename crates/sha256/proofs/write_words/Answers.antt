-- `sha256::write_words` meets its contract.
use Rattle.std.proofs.Common.{◌≡◌, ◌+◌, ◌-◌, ◌*◌, length, get_or, refl, sym, ◌∙◌, arith, take_all}
use Rattle.std.proofs.lemmas.Slice.{take-put_mid}
use Rattle.sha256.specs.Sha256.{big_endian, joined, words_of}
use Rattle.sha256.proofs.Padding.{big_endian_length}
use Rattle.sha256.proofs.Joined.{joined_more, word_bytes}
use Rattle.sha256.proofs.write_words.Goals as goal

pub loop-i-init : goal.loop-i-init
unfolding joined
loop-i-init c = refl

pub loop-i-preserved : goal.loop-i-preserved
loop-i-preserved c =
    let words = words_of c.args.s in
    let l = c.loop-i in
    let w = get_or words l.i 0 in
    let e : c.copy_from_slice.new.self ≡ big_endian 4 w = c.copy_from_slice.ensures.after ∙ (c.to_be_bytes.ensures ∙ word_bytes w) in
    let n : length (big_endian 4 w) ≡ 4 = big_endian_length 4 w in
    let t = take-put_mid (4 * l.i) (4 * l.i + 4 - 4 * l.i) l.digest (big_endian 4 w) (4 * (l.i + 1)) (omega arith) (omega arith) in
    rw e (t ∙ rw (l.invariant, joined_more words l.i (omega arith)))

pub returns : goal.returns
returns c =
    let words = words_of c.args.s in
    let l = c.loop-i in
    let e : l.i ≡ 8 = omega arith in
    sym (take_all 32 l.digest (omega arith)) ∙ (rw e at l.invariant)
