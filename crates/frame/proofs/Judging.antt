-- Frames judged one after another, and how far the whole was judged.
use Prim.Native.Nat.{ℕ, ◌+◌, ◌-◌, ◌%◌, ◌<◌, ◌≤◌}
use mathlib.Core.Bool.{Bool, true, false, ◌&&◌}
use mathlib.Core.List.{List}
use mathlib.Core.Path.{◌≡◌, refl, ap, sym, subst, ◌∙◌}
use native.Mathlib.Decide.{dec_lt}
use native.Mathlib.Omega.{arith}
use lib.ListN.{length, drop}
use Rattle.laws.specs.Choice.{both}
use Rattle.device.specs.Device.{frame_size}
use Rattle.device.specs.declared.Device.{Device}
use Rattle.frame.specs.Judged.{AfterFrame, Between}
use Rattle.frame.specs.Frame.{is_frame_at, are_frames}
use Rattle.frame.proofs.Characters.{both_second}
use Rattle.frame.proofs.Sizes.{some, whole_fits, whole_less, whole_less_24}
use Rattle.frame.proofs.Sequence.{are-next, are-end, frame-good, frame-bad, whole}

-- one frame more, judged or not
both_assoc : (a b c : Bool) → both a (both b c) ≡ both (both a b) c
both_assoc true b c = refl
both_assoc false b c = refl

not-true→false : (b : Bool) → (b ≡ true → ⊥) → b ≡ false
not-true→false true h = absurd (h refl)
not-true→false false h = refl

and_both : (a b : Bool) → (a && b) ≡ both a b
and_both true b = refl
and_both false b = refl

both_with_true : (a : Bool) → both a true ≡ a
both_with_true true = refl
both_with_true false = refl

-- frames judged from one place on, with whole ones left up to another
pub record Along (d : Device) (s : List ℕ) (from to at : ℕ) (ok : Bool) : Type 0 where
  pub after : from ≤ at
  pub before : at ≤ to
  pub left : (to - at) % frame_size d ≡ 0
  pub done : Between d s from at ok

-- how far frames were judged
pub record Good (d : Device) (s : List ℕ) (at : ℕ) : Type 0 where
  pub within : at + frame_size d ≤ length s
  pub whole : (length s - at) % frame_size d ≡ 0
  pub same : are_frames d s ≡ are_frames d (drop (at + frame_size d) s)
  pub after : AfterFrame d s (at + frame_size d)

module _ (d : Device) (s : List ℕ) where
  one_more : (from to : ℕ) (ok r : Bool) → to < length s → Between d s from to ok → r ≡ is_frame_at d s to → Between d s from (to + frame_size d) (both ok r)
  one_more from to ok r h b e =
      let q : to ≡ to + frame_size d - frame_size d = omega arith in
      record {
        judged = b.judged ∙ ap (both ok) (are-next d s to h ∙ rw e) ∙ both_assoc ok r (are_frames d (drop (to + frame_size d) s));
        last = λ t _. subst (λ (j : ℕ). is_frame_at d s j ≡ true) q (sym e ∙ both_second ok r t);
      }

  module _ (from to at : ℕ) (ok : Bool) (a : Along d s from to at ok) where
    pub along-fits : at < to → at + frame_size d ≤ to
    along-fits h = let f = whole_fits d (to - at) a.left (omega arith) in omega (arith, a.before)

    pub along-next : (r : Bool) → to ≤ length s → at < to → r ≡ is_frame_at d s at → Along d s from to (at + frame_size d) (ok && r)
    along-next r l h e =
        let p : to - at - frame_size d ≡ to - (at + frame_size d) = omega arith in
        record {
          after = omega (arith, a.after);
          before = along-fits h;
          left = subst (λ (x : ℕ). x % frame_size d ≡ 0) p (whole_less d (to - at) a.left);
          done = rw and_both (one_more from at ok r (omega arith) a.done e);
        }

    pub along_end : to ≤ at → Between d s from to ok
    along_end h = let e : at ≡ to = omega (arith, a.before) in subst (λ (j : ℕ). Between d s from j ok) e a.done

  -- a last frame cut short, no frame at all, and a first one that is none
  pub cut_short : (length s % frame_size d ≡ 0 → ⊥) → are_frames d s ≡ false
  cut_short h = not-true→false (are_frames d s) (λ e. h (whole d s e))

  none? : length s % frame_size d ≡ 0 → length s < frame_size d → Dec (0 < length s) → are_frames d s ≡ true
  none? h l (yes p) = absurd (let f = whole_fits d (length s) h p in omega arith)
  none? h l (no p) = are-end d s 0 (omega arith)

  pub no_frames : length s % frame_size d ≡ 0 → length s < frame_size d → are_frames d s ≡ true
  no_frames h l = none? h l (dec_lt 0 (length s))

  module _ (r : Bool) (h : frame_size d ≤ length s) (e : r ≡ is_frame_at d s 0) where
    first_some : 0 < length s
    first_some = let n = some d in omega arith

    pub first-bad : r ≡ false → are_frames d s ≡ false
    first-bad f = frame-bad d s 0 first_some (sym e ∙ f)

    pub first_good : length s % frame_size d ≡ 0 → r ≡ true → Good d s 0
    first_good w t =
        let q : frame_size d ≡ 0 + frame_size d = omega arith in
        let z : 0 ≡ 0 + frame_size d - frame_size d = omega arith in
        let l : length s ≡ length s - 0 = omega arith in
        record {
          within = omega arith;
          whole = subst (λ (x : ℕ). x % frame_size d ≡ 0) l w;
          same = frame-good d s 0 first_some (sym e ∙ t);
          after = record { shown = λ _. subst (λ (j : ℕ). is_frame_at d s j ≡ true) z (sym e ∙ t) };
        }

  module _ (at : ℕ) (r : Bool) (g : Good d s at) where
    module _ (b : Between d s (at + frame_size d) (at + frame_size d + 24) r) where
      pub more-bad : r ≡ false → are_frames d s ≡ false
      more-bad f = g.same ∙ b.judged ∙ rw f

      pub more-good : at + frame_size d + 24 ≤ length s → r ≡ true → Good d s (at + 24)
      more-good h t =
          let p : at + frame_size d + 24 ≡ at + 24 + frame_size d = omega arith in
          let l : length s - at - 24 ≡ length s - (at + 24) = omega arith in
          record {
            within = omega arith;
            whole = subst (λ (x : ℕ). x % frame_size d ≡ 0) l (whole_less_24 d (length s - at) g.whole);
            same = g.same ∙ b.judged ∙ ap (λ (x : Bool). both x (are_frames d (drop (at + frame_size d + 24) s))) t ∙ ap (λ (j : ℕ). are_frames d (drop j s)) p;
            after = record { shown = λ _. subst (λ (j : ℕ). is_frame_at d s (j - frame_size d) ≡ true) p (b.last t (omega arith)) };
          }

    pub rest-judged : Between d s (at + frame_size d) (length s) r → r ≡ are_frames d s
    rest-judged b = sym (g.same ∙ b.judged ∙ ap (both r) (are-end d s (length s) (omega arith)) ∙ both_with_true r)
