-- What the calls on a state in bytes answer, by the way that led there.
use mathlib.Core.Bool.{true}
use mathlib.Core.Path.{◌≡◌, refl}
use mathlib.Core.List.{List, []}
use Prim.Native.Nat.{ℕ}
use native.Mathlib.Decide.{ℕ_discrete}
use lib.ListN.{length}
use Rattle.std.specs.Prelude.{Err}
use Rattle.numbers.specs.Numbered.{refusal_number}
use Rattle.numbers.specs.declared.Refusal.{Refusal}
use Rattle.numbers.specs.declared.Refusal.TheVariants.{ImageOfAnotherSize, WorkBufferIsNot9216Bytes}
use Rattle.hex_reader.specs.Work.{work_size}
use Rattle.hex_chunks.specs.Cut.{fed}
use Rattle.hex_chunks.specs.Carries.{Carries, Sized, FeedCall, EndCall}
use Rattle.hex_chunks.specs.declared.HexChunks.{HexChunks}
use Rattle.hex_chunks.specs.declared.Fed.{Fed}
use Rattle.hex_chunks.proofs.Sessions.{in-ranges}
use Rattle.hex_calls.specs.Layout.{packed, state_of, is_state}
use Rattle.hex_calls.proofs.state.Ranges.{is_state_lem}
use Rattle.hex_calls.specs.Chunks.{number_of, line_of, StartCall, Unchanged, FeedBytes, EndBytes}

pub start_2 : (image_size : ℕ) (before : List ℕ) → (length before ≡ 550 → ⊥) → StartCall image_size before before 2
start_2 image_size before n = record { no_state = λ _. (refl, refl); new = λ e. absurd (n e) }

pub start_new : (image_size : ℕ) (before after : List ℕ) (s : HexChunks) → length before ≡ 550 → (after ≡ packed s) × (state_of after ≡ s) × (length after ≡ 550) → ((work : List ℕ) → Carries image_size s work (fed [])) → StartCall image_size before after 0
start_new image_size before after s e p c =
    let ranges = in-ranges image_size s [] (fed []) (c []) in
    record { no_state = λ n. absurd (n e); new = λ _. (refl, is_state_lem after s p.2 p.0 p.1 ranges, λ work. rw p.1 (c work)) }

unchanged : (refusal : ℕ) (state work image : List ℕ) → Unchanged refusal refusal 0 state state work work image image
unchanged refusal state work image = record { answer = refl; no_line = refl; state_kept = refl; work_kept = refl; image_kept = refl }

module _ (image_size : ℕ) (state work image : List ℕ) where
  feed-47 : (chunk : List ℕ) → (length work ≡ work_size image_size → ⊥) → FeedBytes image_size state state chunk work work image 47 0
  feed-47 chunk n =
      record {
        short_work = λ _. unchanged 47 state work image;
        short_image = λ w. absurd (n w);
        no_state = λ w. absurd (n w);
        feeds = λ w. absurd (n w);
      }

  feed-1 : (chunk : List ℕ) → length work ≡ work_size image_size → (length image ≡ image_size → ⊥) → FeedBytes image_size state state chunk work work image 1 0
  feed-1 chunk w n =
      record {
        short_work = λ m. absurd (m w);
        short_image = λ _ _. unchanged 1 state work image;
        no_state = λ _ i. absurd (n i);
        feeds = λ _ i. absurd (n i);
      }

  feed-by : (chunk : List ℕ) (x : Refusal) → Sized image_size work image (Err x) → Dec (length work ≡ work_size image_size) → Dec (length image ≡ image_size) → FeedBytes image_size state state chunk work work image (refusal_number x) 0
  feed-by chunk x z (no w) i = let q : x ≡ WorkBufferIsNot9216Bytes = let p = z.short_work w in cc in rw q (feed-47 chunk w)
  feed-by chunk x z (yes w) (no i) = let q : x ≡ ImageOfAnotherSize = let p = z.short_image w i in cc in rw q (feed-1 chunk w i)
  feed-by chunk x z (yes w) (yes i) = let p = z.both_right w i in cc

  pub feed-refused : (chunk : List ℕ) (x : Refusal) → Sized image_size work image (Err x) → FeedBytes image_size state state chunk work work image (refusal_number x) 0
  feed-refused chunk x z = feed-by chunk x z (ℕ_discrete (length work) (work_size image_size)) (ℕ_discrete (length image) image_size)

  pub feed-2 : (chunk : List ℕ) → length work ≡ work_size image_size → length image ≡ image_size → (is_state state ≡ true → ⊥) → FeedBytes image_size state state chunk work work image 2 0
  feed-2 chunk w i n =
      record {
        short_work = λ m. absurd (m w);
        short_image = λ _ m. absurd (m i);
        no_state = λ _ _ _. unchanged 2 state work image;
        feeds = λ _ _ s. absurd (n s);
      }

  pub feed-so : (chunk stateAfter workAfter : List ℕ) (r : Fed) (number line : ℕ) → length work ≡ work_size image_size → length image ≡ image_size → is_state state ≡ true → FeedCall image_size (state_of state) chunk work workAfter image r → (stateAfter ≡ packed r.state) × (state_of stateAfter ≡ r.state) × (length stateAfter ≡ 550) → number ≡ number_of r.told → line ≡ line_of r.told → FeedBytes image_size state stateAfter chunk work workAfter image number line
  feed-so chunk stateAfter workAfter r number line w i s c p n l =
      record {
        short_work = λ m. absurd (m w);
        short_image = λ _ m. absurd (m i);
        no_state = λ _ _ m. absurd (m s);
        feeds = λ _ _ _. record { answer = r; call = c; given = record { number_of_lem = n; line_of_lem = l; size = p.2; bytes = p.0; state = p.1 } };
      }

  end-47 : (length work ≡ work_size image_size → ⊥) → EndBytes image_size state state work work image image 47 0
  end-47 n =
      record {
        short_work = λ _. unchanged 47 state work image;
        short_image = λ w. absurd (n w);
        no_state = λ w. absurd (n w);
        ends = λ w. absurd (n w);
      }

  end-1 : length work ≡ work_size image_size → (length image ≡ image_size → ⊥) → EndBytes image_size state state work work image image 1 0
  end-1 w n =
      record {
        short_work = λ m. absurd (m w);
        short_image = λ _ _. unchanged 1 state work image;
        no_state = λ _ i. absurd (n i);
        ends = λ _ i. absurd (n i);
      }

  end_by : (x : Refusal) → Sized image_size work image (Err x) → Dec (length work ≡ work_size image_size) → Dec (length image ≡ image_size) → EndBytes image_size state state work work image image (refusal_number x) 0
  end_by x z (no w) i = let q : x ≡ WorkBufferIsNot9216Bytes = let p = z.short_work w in cc in rw q (end-47 w)
  end_by x z (yes w) (no i) = let q : x ≡ ImageOfAnotherSize = let p = z.short_image w i in cc in rw q (end-1 w i)
  end_by x z (yes w) (yes i) = let p = z.both_right w i in cc

  pub end_refused : (x : Refusal) → Sized image_size work image (Err x) → EndBytes image_size state state work work image image (refusal_number x) 0
  end_refused x z = end_by x z (ℕ_discrete (length work) (work_size image_size)) (ℕ_discrete (length image) image_size)

  pub end-2 : length work ≡ work_size image_size → length image ≡ image_size → (is_state state ≡ true → ⊥) → EndBytes image_size state state work work image image 2 0
  end-2 w i n =
      record {
        short_work = λ m. absurd (m w);
        short_image = λ _ m. absurd (m i);
        no_state = λ _ _ _. unchanged 2 state work image;
        ends = λ _ _ s. absurd (n s);
      }

  pub end-so : (stateAfter workAfter imageAfter : List ℕ) (r : Fed) (number line : ℕ) → length work ≡ work_size image_size → length image ≡ image_size → is_state state ≡ true → EndCall image_size (state_of state) work workAfter image imageAfter r → (stateAfter ≡ packed r.state) × (state_of stateAfter ≡ r.state) × (length stateAfter ≡ 550) → number ≡ number_of r.told → line ≡ line_of r.told → EndBytes image_size state stateAfter work workAfter image imageAfter number line
  end-so stateAfter workAfter imageAfter r number line w i s c p n l =
      record {
        short_work = λ m. absurd (m w);
        short_image = λ _ m. absurd (m i);
        no_state = λ _ _ m. absurd (m s);
        ends = λ _ _ _. record { answer = r; call = c; given = record { number_of_lem = n; line_of_lem = l; size = p.2; bytes = p.0; state = p.1 } };
      }
