-- What the two calls answer, by the way that led there.
use mathlib.Core.Path.{◌≡◌, refl, sym, ◌∙◌}
use mathlib.Core.Bool.{true, false}
use mathlib.Core.List.{List, ◌++◌}
use Prim.Native.Nat.{ℕ, ◌+◌, ◌^◌, ◌<◌}
use native.Mathlib.Decide.{ℕ_discrete}
use native.Mathlib.Omega.{arith}
use lib.ListN.{length, take, length-append}
use Rattle.laws.specs.Choice.{either}
use Rattle.hex_reader.proofs.work.Fills.{held_image}
use Rattle.hex_reader.specs.Work.{work_size}
use Rattle.hex_reader.specs.Progress.{Reading, good, refused, read_of}
use Rattle.hex_reader.specs.Reached.{Held, IsFault, is_stopped}
use Rattle.hex_reader.specs.declared.progress.Stage.TheVariants.{Ended}
use Rattle.hex_reader.specs.declared.progress.Stage.{Stage}
use Rattle.std.specs.Prelude.{Ok, Err}
use Rattle.numbers.specs.Numbered.{refusal_number}
use Rattle.numbers.specs.declared.Refusal.{Refusal}
use Rattle.numbers.specs.declared.Refusal.TheVariants.{ImageOfAnotherSize, WorkBufferIsNot9216Bytes}
use Rattle.hex_reader.specs.declared.fault.HexFault.{HexFault}
use Rattle.hex_reader.specs.declared.fault.HexRefusal.TheVariants.{Fault}
use Rattle.hex_chunks.specs.Cut.{Session, fed, told, after_chunk, after_end, image_at_end}
use Rattle.hex_reader.proofs.progress.Numbers.{read_in}
use Rattle.hex_chunks.specs.Carries.{InRanges, Along, Chunked, Readied, Carries, Fits, Sized, Stays, TakesTo, Repeats, FeedCall, EndCall, told_of, refused_buffer}
use Rattle.hex_chunks.specs.declared.HexChunks.{HexChunks}
use Rattle.hex_chunks.specs.declared.Told.TheVariants.{Good}
use Rattle.hex_chunks.specs.declared.Fed.{Fed}
use Rattle.hex_chunks.proofs.Sessions.{ready, chunked, counts, not-final, final-tells, is-final}

-- what was told is told again
abbrev again : HexChunks → Fed
again s = record { state = s; told = told_of s.over s.stage }

stays_so : (refusal : Refusal) (s : HexChunks) (work image : List ℕ) → Stays refusal s work work image image (refused_buffer s refusal)
stays_so refusal s work image = record { answer = refl; state_kept = refl; work_kept = refl; image_kept = refl }

module _ (image_size : ℕ) where
  module _ (s : HexChunks) (work : List ℕ) where
    abbrev is_last : Type 0
    is_last = either s.over (is_stopped s.stage) ≡ true

    open-not-last : (text : List ℕ) → Carries image_size s work (fed text) → is_last → ⊥
    open-not-last text c f = let n = not-final image_size s work text c in let z : ◌≡◌ {A = ℕ} 0 1 = cc in omega arith

    told-last : (t : Reading) → Carries image_size s work (told t) → either s.over (is_stopped s.stage) ≡ false → ⊥
    told-last t c f = let n = is-final image_size s work t c in let z : ◌≡◌ {A = ℕ} 0 1 = cc in omega arith

    last-feeds : (chunk : List ℕ) → is_last → (session : Session) → Carries image_size s work session → TakesTo image_size (after_chunk image_size session chunk) work (again s)
    last-feeds chunk f (fed text) c = absurd (open-not-last text c f)
    last-feeds chunk f (told t) c = record { carries = c; tells = final-tells image_size s work t c }

    last-ends : is_last → (session : Session) → Carries image_size s work session → TakesTo image_size (after_end image_size session) work (again s)
    last-ends f (fed text) c = absurd (open-not-last text c f)
    last-ends f (told t) c = record { carries = c; tells = final-tells image_size s work t c }

    last-image : (image : List ℕ) → is_last → (session : Session) → Carries image_size s work session → image ≡ image_at_end image_size session image
    last-image image f (fed text) c = absurd (open-not-last text c f)
    last-image image f (told t) c = refl

    repeats-so : (image : List ℕ) → Repeats s work work image image (again s)
    repeats-so image = record { state_kept = refl; work_kept = refl; image_kept = refl }

    module _ (chunk image : List ℕ) where
      feed-47 : (length work ≡ work_size image_size → ⊥) → FeedCall image_size s chunk work work image (refused_buffer s WorkBufferIsNot9216Bytes)
      feed-47 n =
          record {
            size = refl;
            short_work = λ _. stays_so WorkBufferIsNot9216Bytes s work image;
            short_image = λ w. absurd (n w);
            feeds = λ w. absurd (n w);
            repeats = λ w. absurd (n w);
          }

      feed-1 : length work ≡ work_size image_size → (length image ≡ image_size → ⊥) → FeedCall image_size s chunk work work image (refused_buffer s ImageOfAnotherSize)
      feed-1 w n =
          record {
            size = refl;
            short_work = λ m. absurd (m w);
            short_image = λ _ _. stays_so ImageOfAnotherSize s work image;
            feeds = λ _ i. absurd (n i);
            repeats = λ _ i. absurd (n i);
          }

      feed-by : (e : Refusal) → Sized image_size work image (Err e) → Dec (length work ≡ work_size image_size) → Dec (length image ≡ image_size) → FeedCall image_size s chunk work work image (refused_buffer s e)
      feed-by e z (no w) i = let q : e ≡ WorkBufferIsNot9216Bytes = let p = z.short_work w in cc in rw q (feed-47 w)
      feed-by e z (yes w) (no i) = let q : e ≡ ImageOfAnotherSize = let p = z.short_image w i in cc in rw q (feed-1 w i)
      feed-by e z (yes w) (yes i) = let p = z.both_right w i in cc

      pub feed-refused : (e : Refusal) → Sized image_size work image (Err e) → FeedCall image_size s chunk work work image (refused_buffer s e)
      feed-refused e z = feed-by e z (ℕ_discrete (length work) (work_size image_size)) (ℕ_discrete (length image) image_size)

      pub feed-last : length work ≡ work_size image_size → length image ≡ image_size → is_last → FeedCall image_size s chunk work work image (again s)
      feed-last w i f =
          record {
            size = refl;
            short_work = λ m. absurd (m w);
            short_image = λ _ n. absurd (n i);
            feeds = λ _ _ session c fits. last-feeds chunk f session c;
            repeats = λ _ _ t c. repeats-so image;
          }

      module _ (stage : Stage) (on : s.stage ≡ Ok stage) (f : either s.over (is_stopped s.stage) ≡ false) (ready-work after : List ℕ) (r : HexChunks) (d : Readied image_size s.begun work ready-work) (t : (text : List ℕ) → Along image_size text s.held s.line (Ok stage) ready-work → length text + length chunk < 2 ^ 64 → Chunked image_size (text ++ chunk) r after) where
        fed-feeds : (session : Session) → Carries image_size s work session → Fits session chunk → TakesTo image_size (after_chunk image_size session chunk) after (again r)
        fed-feeds (fed text) c fits =
            let k = chunked image_size r after (text ++ chunk) (t text (rw on at (ready image_size s work ready-work text d c.2)) fits) (omega (arith, length-append text chunk)) in
            record { carries = k.0; tells = k.1 }
        fed-feeds (told x) c fits = absurd (told-last x c f)

        pub feed-on : length after ≡ work_size image_size → length work ≡ work_size image_size → length image ≡ image_size → FeedCall image_size s chunk work after image (again r)
        feed-on a w i =
            record {
              size = a ∙ sym w;
              short_work = λ m. absurd (m w);
              short_image = λ _ n. absurd (n i);
              feeds = λ _ _ session c fits. fed-feeds session c fits;
              repeats = λ _ _ x c. absurd (told-last x c f);
            }

    module _ (image : List ℕ) where
      end-47 : (length work ≡ work_size image_size → ⊥) → EndCall image_size s work work image image (refused_buffer s WorkBufferIsNot9216Bytes)
      end-47 n =
          record {
            short_work = λ _. stays_so WorkBufferIsNot9216Bytes s work image;
            short_image = λ w. absurd (n w);
            ends = λ w. absurd (n w);
            written = λ w. absurd (n w);
            repeats = λ w. absurd (n w);
          }

      end-1 : length work ≡ work_size image_size → (length image ≡ image_size → ⊥) → EndCall image_size s work work image image (refused_buffer s ImageOfAnotherSize)
      end-1 w n =
          record {
            short_work = λ m. absurd (m w);
            short_image = λ _ _. stays_so ImageOfAnotherSize s work image;
            ends = λ _ i. absurd (n i);
            written = λ _ i. absurd (n i);
            repeats = λ _ i. absurd (n i);
          }

      end_by : (e : Refusal) → Sized image_size work image (Err e) → Dec (length work ≡ work_size image_size) → Dec (length image ≡ image_size) → EndCall image_size s work work image image (refused_buffer s e)
      end_by e z (no w) i = let q : e ≡ WorkBufferIsNot9216Bytes = let p = z.short_work w in cc in rw q (end-47 w)
      end_by e z (yes w) (no i) = let q : e ≡ ImageOfAnotherSize = let p = z.short_image w i in cc in rw q (end-1 w i)
      end_by e z (yes w) (yes i) = let p = z.both_right w i in cc

      pub end-refused-size : (e : Refusal) → Sized image_size work image (Err e) → EndCall image_size s work work image image (refused_buffer s e)
      end-refused-size e z = end_by e z (ℕ_discrete (length work) (work_size image_size)) (ℕ_discrete (length image) image_size)

      pub end-last : length work ≡ work_size image_size → length image ≡ image_size → is_last → EndCall image_size s work work image image (again s)
      end-last w i f =
          record {
            short_work = λ m. absurd (m w);
            short_image = λ _ n. absurd (n i);
            ends = λ _ _ session c. last-ends f session c;
            written = λ _ _ session c. last-image image f session c;
            repeats = λ _ _ t c. repeats-so image;
          }

      module _ (stage : Stage) (on : s.stage ≡ Ok stage) (f : either s.over (is_stopped s.stage) ≡ false) (ready-work after : List ℕ) (d : Readied image_size s.begun work ready-work) where
        -- a good text
        module _ (t : (text : List ℕ) → Along image_size text s.held s.line (Ok stage) ready-work → length text < 2 ^ 64 → Held image_size good after (read_of image_size text)) (r : Fed) (over : r.state.over ≡ true) (ended-at : r.state.stage ≡ Ok Ended) (says : r.told ≡ Ok Good) (count : r.state.held.count ≡ s.held.count) (lines : r.state.line ≡ s.line) where
          good-held : (text : List ℕ) → Carries image_size s work (fed text) → Held image_size good after (read_of image_size text)
          good-held text c = t text (rw on at (ready image_size s work ready-work text d c.2)) c.0

          good-ends : (session : Session) → Carries image_size s work session → TakesTo image_size (after_end image_size session) after r
          good-ends (fed text) c =
              let k = counts image_size s work text c in
              let ranges : InRanges r.state = record { held = rw count k.0; lines = rw lines k.1; fault = rw ended-at tt } in
              rw (good-held text c).is (record { carries = (over, rw ended-at refl, ranges); tells = says })
          good-ends (told x) c = absurd (told-last x c f)

          good-image : (session : Session) → Carries image_size s work session → take image_size after ≡ image_at_end image_size session image
          good-image (fed text) c =
              let h = good-held text c in rw h.is (held_image image_size after h.records h.holds)
          good-image (told x) c = absurd (told-last x c f)

          pub end-good : (imageAfter : List ℕ) → length work ≡ work_size image_size → length image ≡ image_size → imageAfter ≡ take (length image) after → EndCall image_size s work after image imageAfter r
          end-good imageAfter w i e =
              record {
                short_work = λ m. absurd (m w);
                short_image = λ _ n. absurd (n i);
                ends = λ _ _ session c. good-ends session c;
                written = λ _ _ session c. (rw i at e) ∙ good-image session c;
                repeats = λ _ _ x c. absurd (told-last x c f);
              }

        -- a text that is refused
        module _ (first : HexFault) (t : (text : List ℕ) → Along image_size text s.held s.line (Ok stage) ready-work → length text < 2 ^ 64 → read_of image_size text ≡ refused (refusal_number first.refusal) first.line) (r : Fed) (stops : r.state.stage ≡ Err first) (says : r.told ≡ Err (Fault first)) (count : r.state.held.count ≡ s.held.count) (lines : r.state.line ≡ s.line) where
          refused-text : (text : List ℕ) → Carries image_size s work (fed text) → read_of image_size text ≡ refused (refusal_number first.refusal) first.line
          refused-text text c = t text (rw on at (ready image_size s work ready-work text d c.2)) c.0

          refused-ends : (session : Session) → Carries image_size s work session → TakesTo image_size (after_end image_size session) after r
          refused-ends (fed text) c =
              let k = counts image_size s work text c in
              let f : IsFault (refusal_number first.refusal) = rw (refused-text text c) at (read_in image_size text) in
              let ranges : InRanges r.state = record { held = rw count k.0; lines = rw lines k.1; fault = rw stops f } in
              rw (refused-text text c) (record { carries = (rw stops (refl, refl), ranges); tells = rw says (refl, refl) })
          refused-ends (told x) c = absurd (told-last x c f)

          refused-image : (session : Session) → Carries image_size s work session → image ≡ image_at_end image_size session image
          refused-image (fed text) c = rw (refused-text text c)
          refused-image (told x) c = refl

          pub end_refused : length work ≡ work_size image_size → length image ≡ image_size → EndCall image_size s work after image image r
          end_refused w i =
              record {
                short_work = λ m. absurd (m w);
                short_image = λ _ n. absurd (n i);
                ends = λ _ _ session c. refused-ends session c;
                written = λ _ _ session c. refused-image session c;
                repeats = λ _ _ x c. absurd (told-last x c f);
              }
