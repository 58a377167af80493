-- Polynomials over a field: values.
use mathlib.Core.Path.{◌≡◌, ap, ◌∙◌}
use Prim.Native.Nat.{ℕ, zero, suc, ◌<◌}
use Rattle.algebra.proofs.Field.{Field}
use Rattle.algebra.proofs.Ring.{ring}
use Rattle.algebra.proofs.Sums.{sum_none, sum_zero, sum_more, sum_cong, sum_add, sum_scale}
use Rattle.algebra.proofs.Places.{power, eval, eval_front}

module _ {F : Type 0} (K : Field F) where
  open K use {zero as 𝟘, one as 𝟙, add as ◌⊕◌, mul as ◌⊗◌}

  infixl 60 ◌⊕◌
  infixl 70 ◌⊗◌
  pub eval_none : (p : ℕ → F) (x : F) → eval K 0 p x ≡ 𝟘
  unfolding eval
  eval_none p x = sum_none K _

  pub eval_zero : (n : ℕ) (p : ℕ → F) (x : F) → ((i : ℕ) → i < n → p i ≡ 𝟘) → eval K n p x ≡ 𝟘
  unfolding eval
  eval_zero n p x h = sum_zero K n _ (λ i l. simp (h i l, ring))

  pub eval_more : (n : ℕ) (p : ℕ → F) (x : F) → eval K (suc n) p x ≡ eval K n p x ⊕ p n ⊗ power K x n
  unfolding eval
  eval_more n p x = sum_more K n _

  pub eval_cong : (n : ℕ) (p q : ℕ → F) (x : F) → ((i : ℕ) → i < n → p i ≡ q i) → eval K n p x ≡ eval K n q x
  unfolding eval
  eval_cong n p q x h = sum_cong K n _ _ (λ i l. ap (λ t. t ⊗ power K x i) (h i l))

  pub eval_add : (n : ℕ) (p q : ℕ → F) (x : F) → eval K n (λ i. p i ⊕ q i) x ≡ eval K n p x ⊕ eval K n q x
  unfolding eval
  eval_add n p q x = sum_cong K n _ (λ i. p i ⊗ power K x i ⊕ q i ⊗ power K x i) (λ i l. simp ring) ∙ sum_add K n _ _

  pub eval_scale : (n : ℕ) (c : F) (p : ℕ → F) (x : F) → eval K n (λ i. c ⊗ p i) x ≡ c ⊗ eval K n p x
  unfolding eval
  eval_scale n c p x = sum_cong K n _ (λ i. c ⊗ (p i ⊗ power K x i)) (λ i l. simp ring) ∙ sum_scale K n c _

  -- x·p
  abbrev pub up : (ℕ → F) → ℕ → F
  up p zero = 𝟘
  up p (suc i) = p i

  pub eval_up : (n : ℕ) (q : ℕ → F) (x : F) → eval K (suc n) (up q) x ≡ x ⊗ eval K n q x
  eval_up n q x = eval_front K n (up q) x ∙ simp ring
