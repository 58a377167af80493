-- The check symbols: what a division by the generator leaves, said by values at its roots alone.
use mathlib.Core.Path.{◌≡◌, refl, sym, ap, ap₂, ◌∙◌}
use Prim.Native.Nat.{ℕ, zero, suc, ◌<◌}
use native.Mathlib.Omega.{arith}
use native.Mathlib.Decide.{ℕ_discrete}
use Rattle.algebra.proofs.Field.{Field}
use Rattle.algebra.proofs.Ring.{ring, same_of_sum}
use Rattle.algebra.proofs.Places.{power, power_more, eval}
use Rattle.algebra.proofs.Polynomials.{eval_more, eval_cong, eval_add, eval_scale, eval_up, up}

module _ {F : Type 0} (K : Field F) where
  open K use {zero as 𝟘, one as 𝟙, add as ◌⊕◌, mul as ◌⊗◌}

  infixl 60 ◌⊕◌
  infixl 70 ◌⊗◌
  -- the product of the x - R_i, of n + 1 coefficients
  unfoldable pub generator : (ℕ → F) → ℕ → ℕ → F
  generator R zero zero = 𝟙
  generator R zero (suc i) = 𝟘
  generator R (suc n) i = up K (generator R n) i ⊕ R n ⊗ generator R n i

  pub generator_more : (R : ℕ → F) (n i : ℕ) → generator R (suc n) i ≡ up K (generator R n) i ⊕ R n ⊗ generator R n i
  unfolding generator
  generator_more R n i = refl

  generator_top : (R : ℕ → F) (n i : ℕ) → n < i → generator R n i ≡ 𝟘
  unfolding generator
  generator_top R zero zero l = absurd (omega arith)
  generator_top R zero (suc i) l = refl
  generator_top R (suc n) zero l = absurd (omega arith)
  generator_top R (suc n) (suc i) l = ap₂ (λ a b. a ⊕ R n ⊗ b) (generator_top R n i (omega arith)) (generator_top R n (suc i) (omega arith)) ∙ simp ring

  pub generator_lead : (R : ℕ → F) (n : ℕ) → generator R n n ≡ 𝟙
  unfolding generator
  generator_lead R zero = refl
  generator_lead R (suc n) = ap₂ (λ a b. a ⊕ R n ⊗ b) (generator_lead R n) (generator_top R n (suc n) (omega arith)) ∙ simp ring

  generator_eval : (R : ℕ → F) (n : ℕ) (x : F) → eval K (suc (suc n)) (generator R (suc n)) x ≡ (x ⊕ R n) ⊗ eval K (suc n) (generator R n) x
  generator_eval R n x =
      let g = generator R n in
      let E = eval K (suc n) g x in
      eval_cong K (suc (suc n)) _ (λ i. up K g i ⊕ R n ⊗ g i) x (λ i l. generator_more R n i) ∙
      eval_add K (suc (suc n)) (up K g) (λ i. R n ⊗ g i) x ∙
      ap₂ ◌⊕◌ (eval_up K (suc n) g x)
      (eval_scale K (suc (suc n)) (R n) g x ∙ ap (λ t. R n ⊗ t) (eval_more K (suc n) g x ∙ ap (λ t. E ⊕ t ⊗ power K x (suc n)) (generator_top R n (suc n) (omega arith)))) ∙ simp ring

  pub generator_root : (R : ℕ → F) (n i : ℕ) → i < n → eval K (suc n) (generator R n) (R i) ≡ 𝟘
  generator_root R zero i l = absurd (omega arith)
  generator_root R (suc n) i l = generator_eval R n (R i) ∙ elim (ℕ_discrete i n) [
    | yes e ↦ ap (λ t. (R i ⊕ R t) ⊗ eval K (suc n) (generator R n) (R i)) (sym e) ∙ simp ring
    | no ne ↦ ap (λ t. (R i ⊕ R n) ⊗ t) (generator_root R n i (omega arith)) ∙ simp ring
  ]

  -- one more symbol, into the register r of n + 1 symbols
  abbrev pub fed : ℕ → (ℕ → F) → (ℕ → F) → F → ℕ → F
  fed n g r c i = up K r i ⊕ (c ⊕ r n) ⊗ g i

  -- at a root z of the generator g, whose coefficient n + 1 is 1, the register is multiplied by z, and the symbol comes in at z^(n+1)
  pub fed_eval : (n : ℕ) (g r : ℕ → F) (c z : F) → g (suc n) ≡ 𝟙 → eval K (suc (suc n)) g z ≡ 𝟘 →
      eval K (suc n) (fed n g r c) z ≡ z ⊗ eval K (suc n) r z ⊕ c ⊗ power K z (suc n)
  fed_eval n g r c z lead root =
      let G = eval K (suc n) g z in
      let whole : G ≡ power K z (suc n) =
      same_of_sum K G (power K z (suc n)) (sym (eval_more K (suc n) g z ∙ ap (λ t. G ⊕ t ⊗ power K z (suc n)) lead ∙ simp ring) ∙ root) in
      eval_add K (suc n) (up K r) (λ i. (c ⊕ r n) ⊗ g i) z ∙
      ap₂ ◌⊕◌ (eval_up K n r z) (eval_scale K (suc n) (c ⊕ r n) g z ∙ ap (λ t. (c ⊕ r n) ⊗ t) (whole ∙ power_more K z n)) ∙
      sym (ap₂ (λ a b. z ⊗ a ⊕ c ⊗ b) (eval_more K n r z) (power_more K z n) ∙ simp ring)
