-- Each of the five calls has one answer: two answers to the same that conform are equal, numbers and buffers.
use Prim.Native.Nat.{ℕ, ◌<◌}
use mathlib.Core.List.{List}
use mathlib.Core.Path.{◌≡◌, sym, ap, ◌∙◌}
use Rattle.device.specs.Device.{rom_of}
use Rattle.device.specs.declared.Device.{Device}
use Rattle.numbers.specs.ComesBack.{Paper, value_at}
use Rattle.bound.specs.Answer.{paper_of as boundPaper}
use Rattle.bound.proofs.Unique.{one_answer as one-bounded}
use Rattle.image_calls.specs.Pane.{ReadCall, LengthCall, RowCall, NotationCall, BoundCall}

agree : {A : Type 0} {x a b : A} → a ≡ x → b ≡ x → a ≡ b
agree p q = p ∙ sym q

module _ {d : Device} {image : List ℕ} {p3 address n n' : ℕ} where
  pub one_read : {row row' a a' b b' : ℕ} → ReadCall d image p3 address n row a b → ReadCall d image p3 address n' row' a' b' → (n ≡ n') × (row ≡ row') × (a ≡ a') × (b ≡ b')
  one_read x y = (agree x.answer y.answer, agree x.which y.which, agree x.first y.first, agree x.second y.second)

  pub one-length : {b b' c c' : ℕ} → LengthCall d image p3 address n b c → LengthCall d image p3 address n' b' c' → (n ≡ n') × (b ≡ b') × (c ≡ c')
  one-length x y = (agree x.answer y.answer, agree x.long y.long, agree x.lasts y.lasts)

  pub one-row : {row row' f f' s s' g g' b b' c c' : ℕ} → RowCall d image p3 address n row f s g b c → RowCall d image p3 address n' row' f' s' g' b' c'
      → (n ≡ n') × (row ≡ row') × (f ≡ f') × (s ≡ s') × (g ≡ g') × (b ≡ b') × (c ≡ c')
  one-row x y =
      (agree x.answer y.answer, agree x.which y.which, agree x.one y.one, agree x.two y.two, agree x.to y.to, agree x.long y.long, agree x.lasts y.lasts)

  pub one-notation : {buffer z z' : List ℕ} {size size' : ℕ} → NotationCall d image p3 address buffer n size z → NotationCall d image p3 address buffer n' size' z' → (n ≡ n') × (size ≡ size') × (z ≡ z')
  one-notation x y = (agree x.answer y.answer, agree x.needed y.needed, agree x.left y.left)

  pub one-bound : ((p3 at : ℕ) → rom_of image p3 at < 256) → (path deep : List ℕ) {v v' k k' : ℕ} {p p' q q' : List ℕ} → BoundCall d image p3 address path deep n v k p q → BoundCall d image p3 address path deep n' v' k' p' q'
      → (n ≡ n') × (v ≡ v') × (k ≡ k') × (p ≡ p') × (q ≡ q')
  one-bound bytes path deep x y =
      let same = one-bounded bytes path deep x.r y.r x.bounds y.bounds in
      let e : boundPaper x.r ≡ boundPaper y.r = ap boundPaper same.0 in
      let at : (i : ℕ) → value_at (boundPaper x.r) i ≡ value_at (boundPaper y.r) i = λ i. ap (λ (p : Paper). value_at p i) e in
      (x.answer ∙ (ap (λ (p : Paper). p.number) e ∙ sym y.answer), x.given ∙ (at 0 ∙ sym y.given), x.deepest ∙ (at 1 ∙ sym y.deepest), same.1, same.2)
