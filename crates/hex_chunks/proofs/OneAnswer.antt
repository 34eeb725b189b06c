-- Each call has one answer: any two that keep its promise, of a state that carries a session, tell the same and leave the same image.
use mathlib.Core.Path.{◌≡◌, sym, ap, ◌∙◌}
use mathlib.Core.List.{List}
use Prim.Native.Nat.{ℕ}
use native.Mathlib.Decide.{ℕ_discrete}
use lib.ListN.{length}
use Rattle.hex_reader.specs.Work.{work_size}
use Rattle.hex_reader.specs.Progress.{good, refused}
use Rattle.hex_reader.proofs.Answers.{same_fault}
use Rattle.hex_chunks.specs.Cut.{Session, fed, told, after_chunk, after_end}
use Rattle.hex_chunks.specs.Carries.{Carries, TellsFaultAt, Tells, Fits, Stays, FeedCall, EndCall}
use Rattle.std.specs.Prelude.{Result, Ok, Err}
use Rattle.numbers.specs.declared.Refusal.{Refusal}
use Rattle.numbers.proofs.OneNumber.{one_refusal}
use Rattle.hex_reader.specs.declared.fault.HexFault.{HexFault}
use Rattle.hex_reader.specs.declared.fault.HexRefusal.{HexRefusal}
use Rattle.hex_reader.specs.declared.fault.HexRefusal.TheVariants.{Buffer, Fault}
use Rattle.hex_chunks.specs.declared.HexChunks.{HexChunks}
use Rattle.hex_chunks.specs.declared.Told.{Told}
use Rattle.hex_chunks.specs.declared.Fed.{Fed}

fault_one : (t u : Result Told HexRefusal) (number line : ℕ) → TellsFaultAt t number line → TellsFaultAt u number line → t ≡ u
fault_one (Ok x) u number line p q = absurd p
fault_one (Err (Buffer x)) u number line p q = absurd p
fault_one (Err (Fault x)) (Ok y) number line p q = absurd q
fault_one (Err (Fault x)) (Err (Buffer y)) number line p q = absurd q
fault_one (Err (Fault x)) (Err (Fault y)) number line p q =
    let r : x.refusal ≡ y.refusal = one_refusal x.refusal y.refusal (p.0 ∙ sym q.0) in
    let l : x.line ≡ y.line = p.1 ∙ sym q.1 in
    ap (λ (f : HexFault). Err (Fault f)) (same_fault x y r l)

tells_one : (session : Session) (t u : Result Told HexRefusal) → Tells t session → Tells u session → t ≡ u
tells_one (fed text) t u p q = p ∙ sym q
tells_one (told (good ds)) t u p q = p ∙ sym q
tells_one (told (refused number line)) t u p q = fault_one t u number line p q

stays_one : {refusal : Refusal} {s : HexChunks} {work a b image i j : List ℕ} {r q : Fed} → Stays refusal s work a image i r → Stays refusal s work b image j q → (r.told ≡ q.told) × (i ≡ j)
stays_one f g = (f.answer ∙ sym g.answer, f.image_kept ∙ sym g.image_kept)

module _ (image_size : ℕ) where
  feed-by : {s : HexChunks} {chunk work a b image : List ℕ} {r q : Fed} → FeedCall image_size s chunk work a image r → FeedCall image_size s chunk work b image q → (session : Session) → Carries image_size s work session → Fits session chunk → Dec (length work ≡ work_size image_size) → Dec (length image ≡ image_size) → r.told ≡ q.told
  feed-by f g session c h (no w) i = (stays_one (f.short_work w) (g.short_work w)).0
  feed-by f g session c h (yes w) (no i) = (stays_one (f.short_image w i) (g.short_image w i)).0
  feed-by {chunk = chunk} {r = r} {q = q} f g session c h (yes w) (yes i) =
      tells_one (after_chunk image_size session chunk) r.told q.told (f.feeds w i session c h).tells (g.feeds w i session c h).tells

  pub one-feed : {s : HexChunks} {chunk work a b image : List ℕ} {r q : Fed} → FeedCall image_size s chunk work a image r → FeedCall image_size s chunk work b image q → (session : Session) → Carries image_size s work session → Fits session chunk → r.told ≡ q.told
  one-feed {work = work} {image = image} f g session c h =
      feed-by f g session c h (ℕ_discrete (length work) (work_size image_size)) (ℕ_discrete (length image) image_size)

  end_by : {s : HexChunks} {work a b image i j : List ℕ} {r q : Fed} → EndCall image_size s work a image i r → EndCall image_size s work b image j q → (session : Session) → Carries image_size s work session → Dec (length work ≡ work_size image_size) → Dec (length image ≡ image_size) → (r.told ≡ q.told) × (i ≡ j)
  end_by f g session c (no w) i = stays_one (f.short_work w) (g.short_work w)
  end_by f g session c (yes w) (no i) = stays_one (f.short_image w i) (g.short_image w i)
  end_by {r = r} {q = q} f g session c (yes w) (yes i) = (
    tells_one (after_end image_size session) r.told q.told (f.ends w i session c).tells (g.ends w i session c).tells,
    f.written w i session c ∙ sym (g.written w i session c),
  )

  pub one_end : {s : HexChunks} {work a b image i j : List ℕ} {r q : Fed} → EndCall image_size s work a image i r → EndCall image_size s work b image j q → (session : Session) → Carries image_size s work session → (r.told ≡ q.told) × (i ≡ j)
  one_end {work = work} {image = image} f g session c =
      end_by f g session c (ℕ_discrete (length work) (work_size image_size)) (ℕ_discrete (length image) image_size)
