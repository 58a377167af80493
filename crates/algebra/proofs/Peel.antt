-- The weight at one place: the power sums with the other places' weights multiplied away.
use mathlib.Core.Path.{◌≡◌, refl, sym, ap, ◌∙◌}
use Prim.Native.Nat.{ℕ, zero, suc, ◌<◌, ◌≤◌}
use native.Mathlib.Decide.{ℕ_discrete}
use native.Mathlib.Omega.{arith}
use Rattle.algebra.proofs.Field.{Field}
use Rattle.algebra.proofs.Ring.{ring, mul_nonzero, same_of_sum, mul_zero, zero_mul}
use Rattle.algebra.proofs.Sums.{sum_cong, sum_single}
use Rattle.algebra.proofs.Places.{power, power_none, syndrome, syndrome_step, Distinct}

module _ {F : Type 0} (K : Field F) where
  open K use {zero as 𝟘, one as 𝟙, add as ◌⊕◌, mul as ◌⊗◌, inv, mul_inv, one_zero}

  infixl 60 ◌⊕◌
  infixl 70 ◌⊗◌
  -- what the weight at l has been multiplied by, after the first c places but j
  pub peeled : (ℕ → F) → ℕ → ℕ → ℕ → F
  peeled X j zero l = 𝟙
  peeled X j (suc c) l = elim (ℕ_discrete c j) [ yes e ↦ peeled X j c l | no ne ↦ peeled X j c l ⊗ (X l ⊕ X c) ]

  pub peeled_none : (X : ℕ → F) (j l : ℕ) → peeled X j 0 l ≡ 𝟙
  unfolding peeled
  peeled_none X j l = refl

  pub peeled_skip : (X : ℕ → F) (j c l : ℕ) → c ≡ j → peeled X j (suc c) l ≡ peeled X j c l
  unfolding peeled
  peeled_skip X j c l e = elim (ℕ_discrete c j) as (λ d. elim d [ yes e ↦ peeled X j c l | no ne ↦ peeled X j c l ⊗ (X l ⊕ X c) ] ≡ peeled X j c l) [ yes e' ↦ refl | no ne ↦ absurd (ne e) ]

  pub peeled_more : (X : ℕ → F) (j c l : ℕ) → ¬ (c ≡ j) → peeled X j (suc c) l ≡ peeled X j c l ⊗ (X l ⊕ X c)
  unfolding peeled
  peeled_more X j c l ne = elim (ℕ_discrete c j) as (λ d. elim d [ yes e ↦ peeled X j c l | no ne ↦ peeled X j c l ⊗ (X l ⊕ X c) ] ≡ peeled X j c l ⊗ (X l ⊕ X c)) [ yes e ↦ absurd (ne e) | no ne' ↦ refl ]

  -- the sums of the weights so far
  unfoldable pub left : (w : ℕ) (X Y : ℕ → F) (j c k : ℕ) → F
  left w X Y j c k = syndrome K w X (λ l. Y l ⊗ peeled X j c l) k

  pub left_none : (w : ℕ) (X Y : ℕ → F) (j k : ℕ) → syndrome K w X Y k ≡ left w X Y j 0 k
  unfolding left syndrome
  left_none w X Y j k = sum_cong K w _ _ (λ l h. ap (λ a. a ⊗ power K (X l) k) (sym (ap (λ a. Y l ⊗ a) (peeled_none X j l) ∙ K.mul_one _)))

  pub left_skip : (w : ℕ) (X Y : ℕ → F) (j c k : ℕ) → c ≡ j → left w X Y j c k ≡ left w X Y j (suc c) k
  unfolding left syndrome
  left_skip w X Y j c k e = sum_cong K w _ _ (λ l h. ap (λ a. Y l ⊗ a ⊗ power K (X l) k) (sym (peeled_skip X j c l e)))

  pub left_more : (w : ℕ) (X Y : ℕ → F) (j c k : ℕ) → ¬ (c ≡ j) → left w X Y j c (suc k) ⊕ X c ⊗ left w X Y j c k ≡ left w X Y j (suc c) k
  unfolding left
  left_more w X Y j c k ne = sym (syndrome_step K w X (λ l. Y l ⊗ peeled X j c l) (X c) k) ∙ same
    where
      same : syndrome K w X (λ l. Y l ⊗ peeled X j c l ⊗ (X l ⊕ X c)) k ≡ syndrome K w X (λ l. Y l ⊗ peeled X j (suc c) l) k
      same = unfold syndrome in sum_cong K w _ _ (λ l h. ap (λ a. a ⊗ power K (X l) k) (K.mul_assoc _ _ _ ∙ ap (λ a. Y l ⊗ a) (sym (peeled_more X j c l ne))))

  other : (X : ℕ → F) (j c l : ℕ) → l < c → ¬ (l ≡ j) → peeled X j c l ≡ 𝟘
  other X j zero l h ne = absurd (omega arith)
  other X j (suc c) l h ne = elim (ℕ_discrete c j) [
    | yes e ↦ peeled_skip X j c l e ∙ other X j c l (omega arith) ne
    | no nc ↦ peeled_more X j c l nc ∙ elim (ℕ_discrete l c) [
      | yes e ↦ ap (λ a. peeled X j c l ⊗ (X l ⊕ X a)) (sym e) ∙ ap (λ a. peeled X j c l ⊗ a) (K.add_self (X l)) ∙ mul_zero K _
      | no nl ↦ ap (λ a. a ⊗ (X l ⊕ X c)) (other X j c l (omega arith) ne) ∙ zero_mul K _
    ]
  ]

  pub own : (w : ℕ) (X : ℕ → F) (j c : ℕ) → Distinct K w X → j < w → c ≤ w → ¬ (peeled X j c j ≡ 𝟘)
  own w X j zero d lj lc = λ e. one_zero (sym (peeled_none X j j) ∙ e)
  own w X j (suc c) d lj lc = elim (ℕ_discrete c j) [
    | yes e ↦ (λ z. own w X j c d lj (omega arith) (sym (peeled_skip X j c j e) ∙ z))
    | no nc ↦ (λ z. mul_nonzero K (peeled X j c j) (X j ⊕ X c) (own w X j c d lj (omega arith))
        (λ s. let q : j ≡ c = unfold Distinct in d j c lj (omega arith) (same_of_sum K (X j) (X c) s) in nc (sym q)) (sym (peeled_more X j c j nc) ∙ z))
  ]

  pub left_all : (w : ℕ) (X Y : ℕ → F) (j : ℕ) → j < w → left w X Y j w 0 ≡ Y j ⊗ peeled X j w j
  unfolding left syndrome
  left_all w X Y j l =
      sum_single K w j (λ i. Y i ⊗ peeled X j w i ⊗ power K (X i) 0) l (λ i li ne. ap (λ a. Y i ⊗ a ⊗ power K (X i) 0) (other X j w i li ne) ∙ simp ring)
      ∙ ap (λ a. Y j ⊗ peeled X j w j ⊗ a) (power_none K (X j)) ∙ K.mul_one _

  regroup : (y d b z : F) → y ⊗ z ⊗ (d ⊗ b) ≡ y ⊗ d ⊗ (b ⊗ z)
  regroup y d b z = simp ring

  -- y d / (d b) = y / b
  pub shorten : (y d b : F) → ¬ (d ≡ 𝟘) → ¬ (b ≡ 𝟘) → y ⊗ d ⊗ inv (d ⊗ b) ≡ y ⊗ inv b
  shorten y d b hd hb =
      let z = inv b in
      let e : y ⊗ d ≡ y ⊗ z ⊗ (d ⊗ b) = sym (regroup y d b z ∙ ap (λ a. y ⊗ d ⊗ a) (mul_inv b hb) ∙ K.mul_one _) in
      ap (λ a. a ⊗ inv (d ⊗ b)) e ∙ K.mul_assoc _ _ _ ∙ ap (λ a. y ⊗ z ⊗ a) (mul_inv (d ⊗ b) (mul_nonzero K d b hd hb)) ∙ K.mul_one _
