-- Frames that have the characters of the one before them, 24 characters at a time.
use Prim.Native.Nat.{ℕ, zero, suc, ◌+◌, ◌-◌, ◌/◌, ◌<◌, ◌≤◌}
use mathlib.Core.Bool.{true}
use mathlib.Core.List.{List}
use mathlib.Core.Path.{◌≡◌, ap, sym, subst, ◌∙◌}
use native.Mathlib.Omega.{arith}
use lib.ListN.{length, get_or, take, drop, length-take, length-drop}
use lib.Seq.{get_or-take, get_or-drop, ext_get_or}
use Rattle.device.specs.Device.{digits_of, frame_size}
use Rattle.device.specs.declared.Device.{Device}
use Rattle.frame.specs.Judged.{AfterFrame, byte, Between}
use Rattle.frame.specs.Frame.{is_frame, chars_at, is_frame_at, are_frames}
use Rattle.frame.proofs.Sizes.{some, times, in_24}
use Rattle.frame.proofs.Sequence.{frame-good}

module _ (s : List ℕ) (n at : ℕ) where
  -- k bytes are those n bytes earlier
  abbrev pub Same : ℕ → ℕ → Type 0
  Same from k = (i : ℕ) → i < k → byte s (from + i + n) ≡ byte s (from + i)

  -- where the parts of the buffer are equal
  pub same_parts : (k : ℕ) → take k (drop (at + n) s) ≡ take k (drop at s) → Same at k
  same_parts k e i h =
      let c : (from : ℕ) → get_or (take k (drop from s)) i 0 ≡ byte s (from + i) = λ from. get_or-take k (drop from s) i 0 h ∙ get_or-drop from s i 0 in
      let p : at + i + n ≡ at + n + i = omega arith in
      ap (byte s) p ∙ sym (c (at + n)) ∙ ap (λ (l : List ℕ). get_or l i 0) e ∙ c at

  -- a frame again
  next-frame : at + n + n ≤ length s → Same at n → chars_at n s (at + n) ≡ chars_at n s at
  next-frame h f =
      let l : (from : ℕ) → from + n ≤ length s → length (chars_at n s from) ≡ n = λ from k. simp (length-take, length-drop) (omega arith) in
      let c : (from i : ℕ) → i < n → get_or (chars_at n s from) i 0 ≡ byte s (from + i) = λ from i k. get_or-take n (drop from s) i 0 k ∙ get_or-drop from s i 0 in
      let same : (i : ℕ) → i < n → get_or (chars_at n s (at + n)) i 0 ≡ get_or (chars_at n s at) i 0 = λ i k. c (at + n) i k ∙ ap (byte s) (omega arith) ∙ f i k ∙ sym (c at i k) in
      ext_get_or 0 (chars_at n s (at + n)) (chars_at n s at) (l (at + n) h ∙ sym (l at (omega arith))) (λ i k. same i (omega (arith, l (at + n) h)))

module _ (d : Device) where
  record Run (s : List ℕ) (at m : ℕ) : Type 0 where
    all : are_frames d (drop (at + frame_size d) s) ≡ are_frames d (drop (at + frame_size d + m) s)
    last : is_frame_at d s (at + m) ≡ true

  -- and k of them
  frames-again : (k : ℕ) (s : List ℕ) (at : ℕ) → at + frame_size d + times k (frame_size d) ≤ length s → is_frame_at d s at ≡ true → Same s (frame_size d) at at (times k (frame_size d)) → Run s at (times k (frame_size d))
  frames-again zero s at h e f =
      let p : at + frame_size d ≡ at + frame_size d + 0 = omega arith in
      let q : at ≡ at + 0 = omega arith in
      record {
        all = ap (λ (j : ℕ). are_frames d (drop j s)) p;
        last = subst (λ (j : ℕ). is_frame_at d s j ≡ true) q e;
      }
  frames-again (suc k) s at h e f =
      let n : ℕ = frame_size d in
      let z = some d in
      let g : is_frame_at d s (at + n) ≡ true = ap (is_frame (digits_of d)) (next-frame s n at (omega arith) (λ i l. f i (omega arith))) ∙ e in
      let r : Run s (at + n) (times k n) = frames-again k s (at + n) (omega arith) g (λ i l. let t : at + (i + n) ≡ at + n + i = omega arith in subst (λ (j : ℕ). byte s (j + n) ≡ byte s j) t (f (i + n) (omega arith))) in
      let p : at + n + n + times k n ≡ at + n + (n + times k n) = omega arith in
      let q : at + n + times k n ≡ at + (n + times k n) = omega arith in
      record {
        all = frame-good d s (at + n) (omega arith) g ∙ r.all ∙ ap (λ (j : ℕ). are_frames d (drop j s)) p;
        last = subst (λ (j : ℕ). is_frame_at d s j ≡ true) q r.last;
      }

  pub all-again : (s : List ℕ) (at : ℕ) → at + frame_size d + 24 ≤ length s → AfterFrame d s (at + frame_size d) → Same s (frame_size d) at at 24 → Between d s (at + frame_size d) (at + frame_size d + 24) true
  all-again s at h a f =
      let z : at + frame_size d - frame_size d ≡ at = omega arith in
      let q : at + 24 ≡ at + frame_size d + 24 - frame_size d = omega arith in
      let e : is_frame_at d s at ≡ true = subst (λ (j : ℕ). is_frame_at d s j ≡ true) z (a.shown (omega arith)) in
      let r : Run s at 24 = subst (λ (m : ℕ). at + frame_size d + m ≤ length s → Same s (frame_size d) at at m → Run s at m) (in_24 d) (λ l g. frames-again (24 / frame_size d) s at l e g) h f in
      record {
        judged = r.all;
        last = λ _ _. subst (λ (j : ℕ). is_frame_at d s j ≡ true) q r.last;
      }
