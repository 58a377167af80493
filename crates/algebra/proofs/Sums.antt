-- Finite sums over a field.
use mathlib.Core.Path.{◌≡◌, refl, sym, ap, ap₂, ◌∙◌}
use Prim.Native.Nat.{ℕ, zero, suc, ◌+◌, ◌<◌}
use native.Mathlib.Nat.{add-suc}
use native.Mathlib.Nat
use native.Mathlib.Decide.{ℕ_discrete}
use native.Mathlib.Omega.{arith}
use Rattle.algebra.proofs.Field.{Field}
use Rattle.algebra.proofs.Ring.{ring}

module _ {F : Type 0} (K : Field F) where
  open K use {zero as 𝟘, one as 𝟙, add as ◌⊕◌, mul as ◌⊗◌}

  infixl 60 ◌⊕◌
  infixl 70 ◌⊗◌
  pub sum : ℕ → (ℕ → F) → F
  sum zero f = 𝟘
  sum (suc n) f = sum n f ⊕ f n

  pub sum_none : (f : ℕ → F) → sum 0 f ≡ 𝟘
  unfolding sum
  sum_none f = refl

  pub sum_more : (n : ℕ) (f : ℕ → F) → sum (suc n) f ≡ sum n f ⊕ f n
  unfolding sum
  sum_more n f = refl

  pub sum_cong : (n : ℕ) (f g : ℕ → F) → ((i : ℕ) → i < n → f i ≡ g i) → sum n f ≡ sum n g
  unfolding sum
  sum_cong zero f g h = refl
  sum_cong (suc n) f g h = ap₂ ◌⊕◌ (sum_cong n f g (λ i l. h i (omega arith))) (h n (omega arith))

  pub sum_zero : (n : ℕ) (f : ℕ → F) → ((i : ℕ) → i < n → f i ≡ 𝟘) → sum n f ≡ 𝟘
  unfolding sum
  sum_zero zero f h = refl
  sum_zero (suc n) f h = ap₂ ◌⊕◌ (sum_zero n f (λ i l. h i (omega arith))) (h n (omega arith)) ∙ simp ring

  pub sum_add : (n : ℕ) (f g : ℕ → F) → sum n (λ i. f i ⊕ g i) ≡ sum n f ⊕ sum n g
  unfolding sum
  sum_add zero f g = simp ring
  sum_add (suc n) f g = ap (λ t. t ⊕ (f n ⊕ g n)) (sum_add n f g) ∙ simp ring

  pub sum_scale : (n : ℕ) (c : F) (f : ℕ → F) → sum n (λ i. c ⊗ f i) ≡ c ⊗ sum n f
  unfolding sum
  sum_scale zero c f = simp ring
  sum_scale (suc n) c f = ap (λ t. t ⊕ c ⊗ f n) (sum_scale n c f) ∙ simp ring

  pub sum_swap : (m n : ℕ) (f : ℕ → ℕ → F) → sum m (λ i. sum n (λ j. f i j)) ≡ sum n (λ j. sum m (λ i. f i j))
  unfolding sum
  sum_swap zero n f = sym (sum_zero n (λ j. 𝟘) (λ i l. refl))
  sum_swap (suc m) n f = ap (λ t. t ⊕ sum n (λ j. f m j)) (sum_swap m n f) ∙ sym (sum_add n (λ j. sum m (λ i. f i j)) (λ j. f m j))

  pub sum_front : (n : ℕ) (f : ℕ → F) → sum (suc n) f ≡ f 0 ⊕ sum n (λ i. f (suc i))
  unfolding sum
  sum_front zero f = simp ring
  sum_front (suc n) f = ap (λ t. t ⊕ f (suc n)) (sum_front n f) ∙ simp ring

  pub sum_split : (n k : ℕ) (f : ℕ → F) → sum (n + k) f ≡ sum n f ⊕ sum k (λ i. f (n + i))
  unfolding sum
  sum_split n zero f = rw Nat.add-zero (simp ring)
  sum_split n (suc k) f = rw add-suc (ap (λ t. t ⊕ f (n + k)) (sum_split n k f) ∙ simp ring)

  pub sum_single : (n j : ℕ) (f : ℕ → F) → j < n → ((i : ℕ) → i < n → ¬ (i ≡ j) → f i ≡ 𝟘) → sum n f ≡ f j
  unfolding sum
  sum_single zero j f l h = absurd (omega arith)
  sum_single (suc n) j f l h = elim (ℕ_discrete n j) [
    | yes e ↦ ap₂ ◌⊕◌ (sum_zero n f (λ i l'. h i (omega arith) (omega arith))) (ap f e) ∙ simp ring
    | no ne ↦ ap₂ ◌⊕◌ (sum_single n j f (omega arith) (λ i l' d. h i (omega arith) d)) (h n (omega arith) ne) ∙ simp ring
  ]
