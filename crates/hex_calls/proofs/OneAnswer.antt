-- Each call has one answer: any two that meet its promise give the same numbers and leave the same bytes.
use mathlib.Core.Path.{◌≡◌, refl, sym, ap, ◌∙◌}
use mathlib.Core.List.{List}
use Prim.Native.Nat.{ℕ}
use native.Mathlib.Decide.{ℕ_discrete}
use native.Mathlib.Omega.{arith}
use lib.ListN.{length}
use mathlib.Core.Bool.{Bool, true, false}
use Rattle.hex_reader.specs.Work.{work_size}
use Rattle.hex_reader.specs.Reader.{Result}
use Rattle.hex_writer.specs.Writer.{Result as Written}
use Rattle.hex_chunks.specs.Cut.{Session}
use Rattle.hex_chunks.specs.Carries.{Carries, Fits}
use Rattle.hex_chunks.specs.declared.Told.{Told}
use Rattle.hex_reader.specs.declared.fault.HexRefusal.{HexRefusal}
use Rattle.std.specs.Prelude as std
use Rattle.hex_chunks.proofs.OneAnswer.{one-feed, one_end}
use Rattle.hex_calls.specs.Layout.{state_of, is_state}
use Rattle.hex_calls.specs.Calls.{ReadCall, WriteCall}
use Rattle.hex_calls.specs.Chunks.{number_of, line_of, StartCall, Unchanged, FeedBytes, EndBytes}

pub one_read : (image_size : ℕ) (text before after other : List ℕ) (r q line place : ℕ) → ReadCall image_size text before r line after → ReadCall image_size text before q place other → (r ≡ q) × (line ≡ place) × (after ≡ other)
one_read image_size text before after other r q line place f g =
    let e = f ∙ sym g in
    (ap (λ (x : Result). x.number) e, ap (λ (x : Result). x.line) e, ap (λ (x : Result). x.image) e)

pub one_write : (image_size : ℕ) (image before after other : List ℕ) (r q : ℕ) → WriteCall image_size image before r after → WriteCall image_size image before q other → (r ≡ q) × (after ≡ other)
one_write image_size image before after other r q f g =
    let e = f ∙ sym g in (ap (λ (x : Written). x.number) e, ap (λ (x : Written). x.text) e)

start_by : {image_size : ℕ} {before a b : List ℕ} {r q : ℕ} → StartCall image_size before a r → StartCall image_size before b q → Dec (length before ≡ 550) → r ≡ q
start_by f g (yes e) = (f.new e).0 ∙ sym (g.new e).0
start_by f g (no n) = (f.no_state n).0 ∙ sym (g.no_state n).0

pub one_start : {image_size : ℕ} {before a b : List ℕ} {r q : ℕ} → StartCall image_size before a r → StartCall image_size before b q → r ≡ q
one_start {before = before} f g = start_by f g (ℕ_discrete (length before) 550)

-- two refusals of one number leave the same; two answers that tell the same have one number and one line
unchanged_one : {refusal n l m k : ℕ} {state a b work u v image i j : List ℕ} → Unchanged refusal n l state a work u image i → Unchanged refusal m k state b work v image j → (n ≡ m) × (l ≡ k) × (i ≡ j)
unchanged_one f g = (f.answer ∙ sym g.answer, f.no_line ∙ sym g.no_line, f.image_kept ∙ sym g.image_kept)

-- what is told
abbrev Answered : Type 0
Answered = std.Result Told HexRefusal

told_one : {t u : Answered} {n l m k : ℕ} → t ≡ u → n ≡ number_of t → l ≡ line_of t → m ≡ number_of u → k ≡ line_of u → (n ≡ m) × (l ≡ k)
told_one e p q r s = (p ∙ (ap number_of e ∙ sym r), q ∙ (ap line_of e ∙ sym s))

is_it : (b : Bool) → Dec (b ≡ true)
is_it true = yes refl
is_it false = no (λ e. let z : ◌≡◌ {A = ℕ} 0 1 = cc in omega arith)

module _ (image_size : ℕ) {state work image : List ℕ} (session : Session) (c : Carries image_size (state_of state) work session) where
  module _ {chunk a b u v : List ℕ} {n l m k : ℕ} (f : FeedBytes image_size state a chunk work u image n l) (g : FeedBytes image_size state b chunk work v image m k) (fits : Fits session chunk) where
    feed-by : Dec (length work ≡ work_size image_size) → Dec (length image ≡ image_size) → Dec (is_state state ≡ true) → (n ≡ m) × (l ≡ k)
    feed-by (no w) i s = let z = unchanged_one (f.short_work w) (g.short_work w) in (z.0, z.1)
    feed-by (yes w) (no i) s = let z = unchanged_one (f.short_image w i) (g.short_image w i) in (z.0, z.1)
    feed-by (yes w) (yes i) (no s) = let z = unchanged_one (f.no_state w i s) (g.no_state w i s) in (z.0, z.1)
    feed-by (yes w) (yes i) (yes s) =
        let x = f.feeds w i s in
        let y = g.feeds w i s in
        told_one (one-feed image_size x.call y.call session c fits) x.given.number_of_lem x.given.line_of_lem y.given.number_of_lem y.given.line_of_lem

    pub one-feed-call : (n ≡ m) × (l ≡ k)
    one-feed-call = feed-by (ℕ_discrete (length work) (work_size image_size)) (ℕ_discrete (length image) image_size) (is_it (is_state state))

  module _ {a b u v i j : List ℕ} {n l m k : ℕ} (f : EndBytes image_size state a work u image i n l) (g : EndBytes image_size state b work v image j m k) where
    end_by : Dec (length work ≡ work_size image_size) → Dec (length image ≡ image_size) → Dec (is_state state ≡ true) → (n ≡ m) × (l ≡ k) × (i ≡ j)
    end_by (no w) h s = unchanged_one (f.short_work w) (g.short_work w)
    end_by (yes w) (no h) s = unchanged_one (f.short_image w h) (g.short_image w h)
    end_by (yes w) (yes h) (no s) = unchanged_one (f.no_state w h s) (g.no_state w h s)
    end_by (yes w) (yes h) (yes s) =
        let x = f.ends w h s in
        let y = g.ends w h s in
        let z = one_end image_size x.call y.call session c in
        let t = told_one z.0 x.given.number_of_lem x.given.line_of_lem y.given.number_of_lem y.given.line_of_lem in
        (t.0, t.1, z.1)

    pub one-end-call : (n ≡ m) × (l ≡ k) × (i ≡ j)
    one-end-call = end_by (ℕ_discrete (length work) (work_size image_size)) (ℕ_discrete (length image) image_size) (is_it (is_state state))
