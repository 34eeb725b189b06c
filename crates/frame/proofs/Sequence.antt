-- Laws of a sequence of frames: one more frame at a place, and the frame of each number.
use mathlib.Core.Path.{◌≡◌, refl, ap, ◌∙◌}
use mathlib.Core.Bool.{Bool, true, false}
use mathlib.Core.List.{List, [], ◌∷◌, map}
use Prim.Native.Nat.{ℕ, zero, suc, ◌+◌, ◌-◌, ◌*◌, ◌/◌, ◌%◌, ◌<◌, ◌≤◌}
use native.Mathlib.Nat.{mul-zero, mul-suc, add_comm, not-suc-le-zero, le_of_suc-le-suc}
use native.Mathlib.Omega.{arith}
use native.Mathlib.Decide.{ℕ_discrete}
use lib.ListN.{length, get_or, take, drop, length-take, length-drop, length-map}
use lib.Dec.{eqb}
use lib.Seq.{drop-drop}
use borrow.Author.Tests.{eq-eqb, ne_eqb}
use Rattle.laws.specs.Choice.{both}
use Rattle.device.specs.Device.{digits_of, frame_size}
use Rattle.device.specs.declared.Device.{Device}
use Rattle.frame.specs.Frame.{is_frame, pins_of, is_frame_at, frame_at, chars_at, cut, pieces, every, are_frames, frames_of, PinsInRange}
use Rattle.frame.specs.declared.Pins.{Pins}
use Rattle.std.proofs.Common.{Some}
use Rattle.frame.proofs.Characters.{both_first, both_second, no_frame, in_range, seen}
use Rattle.frame.proofs.Sizes.{pieces_count, pieces_none, piece_start, last_start, last_short, whole_count}

module _ (d : Device) (s : List ℕ) (at : ℕ) where
  -- a piece more
  pieces-next : at < length s → pieces (frame_size d) (drop at s) ≡ chars_at (frame_size d) s at ∷ pieces (frame_size d) (drop (at + frame_size d) s)
  pieces-next h =
      let l : length (drop (at + frame_size d) s) ≡ length (drop at s) - frame_size d = simp length-drop (omega arith) in
      let p : 0 < length (drop at s) = simp length-drop (omega arith) in
      rw (pieces_count d (length (drop at s)) p, l, drop-drop)

  pieces_end : length s ≤ at → pieces (frame_size d) (drop at s) ≡ []
  pieces_end h =
      let l : length (drop at s) ≡ 0 = simp length-drop (omega arith) in
      rw (pieces_none d (length (drop at s)) l)

  pub are-next : at < length s → are_frames d (drop at s) ≡ both (is_frame_at d s at) (are_frames d (drop (at + frame_size d) s))
  unfolding are_frames
  are-next h = ap (every (is_frame (digits_of d))) (pieces-next h)

  pub are-end : length s ≤ at → are_frames d (drop at s) ≡ true
  unfolding are_frames
  are-end h = ap (every (is_frame (digits_of d))) (pieces_end h)

  -- whether all are frames, by the characters at a place
  pub frame-good : at < length s → is_frame_at d s at ≡ true → are_frames d (drop at s) ≡ are_frames d (drop (at + frame_size d) s)
  frame-good h e = rw (are-next h, e)

  pub frame-bad : at < length s → is_frame_at d s at ≡ false → are_frames d (drop at s) ≡ false
  frame-bad h e = rw (are-next h, e)

  rest? : at ≤ length s → length s < at + frame_size d → Dec (at ≡ length s) → are_frames d (drop at s) ≡ eqb at (length s)
  rest? h l (yes e) = rw (eq-eqb at (length s) e) (are-end (omega arith))
  rest? h l (no ne) =
      let g : at < length s = omega arith in
      rw (ne_eqb at (length s) ne, are-next g, no_frame (digits_of d) (chars_at (frame_size d) s at) (simp (length-take, length-drop) (omega arith)))

  pub frames-rest : at ≤ length s → length s < at + frame_size d → are_frames d (drop at s) ≡ eqb at (length s)
  frames-rest h l = rest? h l (ℕ_discrete at (length s))

  pub frames-next : at < length s → frames_of d (drop at s) ≡ pins_of (chars_at (frame_size d) s at) ∷ frames_of d (drop (at + frame_size d) s)
  unfolding frames_of
  frames-next h = ap (map pins_of) (pieces-next h)

  pub frames-end : length s ≤ at → frames_of d (drop at s) ≡ []
  unfolding frames_of
  frames-end h = ap (map pins_of) (pieces_end h)

length_cut : (k n : ℕ) (s : List ℕ) → length (cut k n s) ≡ k
length_cut zero n s = refl
length_cut (suc k) n s = ap suc (length_cut k n (drop n s))

-- the piece of each number, and what holds of every piece
piece_at : (k n i : ℕ) (s : List ℕ) (p : Pins) → i < k → get_or (map pins_of (cut k n s)) i p ≡ pins_of (take n (drop (n * i) s))
piece_at zero n i s p h = absurd (not-suc-le-zero h)
piece_at (suc k) n zero s p h = rw mul-zero
piece_at (suc k) n (suc i) s p h = rw (mul-suc, add_comm (n * i) n, ← drop-drop) (piece_at k n i (drop n s) p (le_of_suc-le-suc h))

every_at : (f : List ℕ → Bool) (k n i : ℕ) (s : List ℕ) → every f (cut k n s) ≡ true → i < k → f (take n (drop (n * i) s)) ≡ true
every_at f zero n i s e h = absurd (not-suc-le-zero h)
every_at f (suc k) n zero s e h = rw mul-zero (both_first (f (take n s)) (every f (cut k n (drop n s))) e)
every_at f (suc k) n (suc i) s e h =
    rw (mul-suc, add_comm (n * i) n, ← drop-drop)
    (every_at f k n i (drop n s) (both_second (f (take n s)) (every f (cut k n (drop n s))) e) (le_of_suc-le-suc h))

module _ (d : Device) (s : List ℕ) (e : are_frames d s ≡ true) where
  piece-good : (k : ℕ) → k < (length s + (frame_size d - 1)) / frame_size d → is_frame_at d s (frame_size d * k) ≡ true
  unfolding are_frames
  piece-good k h = every_at (is_frame (digits_of d)) ((length s + (frame_size d - 1)) / frame_size d) (frame_size d) k s e h

  -- no frame is cut short
  whole? : Dec (length s % frame_size d ≡ 0) → length s % frame_size d ≡ 0
  whole? (yes h) = h
  whole? (no ne) =
      let i : ℕ = length s / frame_size d in
      let q = last_short d (length s) in
      let l : length (chars_at (frame_size d) s (frame_size d * i)) ≡ frame_size d → ⊥ = simp (length-take, length-drop) (omega arith) in
      let f = no_frame (digits_of d) (chars_at (frame_size d) s (frame_size d * i)) l in
      let t = piece-good i (last_start d (length s) ne) in
      let z : ◌≡◌ {A = ℕ} 0 1 = cc in absurd (omega arith)

  pub whole : length s % frame_size d ≡ 0
  whole = whole? (ℕ_discrete (length s % frame_size d) 0)

  pub length-frames : length (frames_of d s) ≡ length s / frame_size d
  unfolding frames_of
  length-frames =
      length-map (pieces (frame_size d) s) pins_of
      ∙ length_cut ((length s + (frame_size d - 1)) / frame_size d) (frame_size d) s
      ∙ whole_count d (length s) whole

  -- the frame of each number
  module _ (k : ℕ) (p : Pins) (h : k < length s / frame_size d) where
    number_is : get_or (frames_of d s) k p ≡ pins_of (chars_at (frame_size d) s (frame_size d * k))
    unfolding frames_of
    number_is = piece_at ((length s + (frame_size d - 1)) / frame_size d) (frame_size d) k s p (piece_start d (length s) k h)

    number-good : is_frame_at d s (frame_size d * k) ≡ true
    number-good = piece-good k (piece_start d (length s) k h)

    pub frame-number : frame_at d s (frame_size d * k) ≡ Some (get_or (frames_of d s) k p)
    frame-number = seen d (chars_at (frame_size d) s (frame_size d * k)) number-good ∙ rw number_is

    pub number-in-range : PinsInRange d (get_or (frames_of d s) k p)
    number-in-range = rw number_is (in_range d (chars_at (frame_size d) s (frame_size d * k)) number-good)
