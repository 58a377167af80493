-- The first root b, and the places of a line: powers of a generator.
use mathlib.Core.Path.{◌≡◌, refl, sym, ap, ◌∙◌}
use Prim.Native.Nat.{ℕ, zero, suc, ◌+◌, ◌*◌, ◌<◌, ◌≤◌}
use native.Mathlib.Nat.{zero-add, suc-add, zero-mul, suc-mul}
use native.Mathlib.Omega.{arith}
use Rattle.algebra.proofs.Field.{Field}
use Rattle.algebra.proofs.Ring.{cancel, zero_mul as nil_mul, one_mul}
use Rattle.algebra.proofs.Sums.{sum_cong}
use Rattle.algebra.proofs.Places.{power, power_none, power_more, syndrome, Distinct}
use Rattle.algebra.proofs.Locator.{power_nonzero}
use Rattle.algebra.proofs.Weights.{weight, weight_zero, weight_more, light}

module _ {F : Type 0} (K : Field F) where
  open K use {zero as 𝟘, one as 𝟙, add as ◌⊕◌, mul as ◌⊗◌, same}

  infixl 60 ◌⊕◌
  infixl 70 ◌⊗◌
  pub power_add : (x : F) (a b : ℕ) → power K x (a + b) ≡ power K x a ⊗ power K x b
  power_add x zero b = ap (power K x) (zero-add b) ∙ sym (ap (λ t. t ⊗ power K x b) (power_none K x) ∙ one_mul K _)
  power_add x (suc a) b =
      ap (power K x) (suc-add a b) ∙ power_more K x (a + b) ∙ ap (λ t. x ⊗ t) (power_add x a b)
      ∙ sym (ap (λ t. t ⊗ power K x b) (power_more K x a) ∙ K.mul_assoc x _ _)

  -- x^(i n) = (x^n)^i
  pub power_mul : (x : F) (i n : ℕ) → power K x (i * n) ≡ power K (power K x n) i
  power_mul x zero n = ap (power K x) (zero-mul n) ∙ power_none K x ∙ sym (power_none K _)
  power_mul x (suc i) n =
      ap (power K x) (let e : suc i * n ≡ n + i * n = rw suc-mul (omega arith) in e)
      ∙ power_add x n (i * n) ∙ ap (λ t. power K x n ⊗ t) (power_mul x i n) ∙ sym (power_more K (power K x n) i)

  -- the sums from b on, as those from 0 on of other weights
  pub from : ℕ → (P c : ℕ → F) → ℕ → F
  from b P c j = c j ⊗ power K (P j) b

  pub syndrome_from : (n : ℕ) (P c : ℕ → F) (b k : ℕ) → syndrome K n P c (b + k) ≡ syndrome K n P (from b P c) k
  unfolding syndrome from
  syndrome_from n P c b k =
      sum_cong K n _ _ (λ j l. ap (λ t. c j ⊗ t) (power_add (P j) b k) ∙ sym (K.mul_assoc _ _ _))

  pub weight_le : (n : ℕ) (e f : ℕ → F) → ((i : ℕ) → i < n → e i ≡ 𝟘 → f i ≡ 𝟘) → weight K n f ≤ weight K n e
  weight_le zero e f h = unfold weight in omega arith
  weight_le (suc n) e f h =
      let r = weight_le n e f (λ i l. h i (omega arith)) in
      elim (same (f n) 𝟘) [
        | yes zf ↦ elim (same (e n) 𝟘) [
          | yes ze ↦ omega (arith, weight_zero K n f zf, weight_zero K n e ze)
          | no ne ↦ omega (arith, weight_zero K n f zf, weight_more K n e ne)
        ]
        | no nf ↦ elim (same (e n) 𝟘) [
          | yes ze ↦ absurd (nf (h n (omega arith) ze))
          | no ne ↦ omega (arith, weight_more K n f nf, weight_more K n e ne)
        ]
      ]

  pub from_zero : (b : ℕ) (P c : ℕ → F) (i : ℕ) → c i ≡ 𝟘 → from b P c i ≡ 𝟘
  unfolding from
  from_zero b P c i z = ap (λ t. t ⊗ power K (P i) b) z ∙ nil_mul K _

  pub from_back : (b : ℕ) (P c : ℕ → F) (i : ℕ) → ¬ (P i ≡ 𝟘) → from b P c i ≡ 𝟘 → c i ≡ 𝟘
  unfolding from
  from_back b P c i h z = cancel K (power K (P i) b) (c i) (power_nonzero K (P i) b h) (K.mul_comm _ _ ∙ z)

  -- the minimum distance, for every first root: m sums from b on that are 0, and a weight of at most m
  pub light_from : (n m b : ℕ) (P c : ℕ → F) → Distinct K n P → ((i : ℕ) → i < n → ¬ (P i ≡ 𝟘)) → ((k : ℕ) → k < m → syndrome K n P c (b + k) ≡ 𝟘) →
      weight K n c ≤ m → (i : ℕ) → i < n → c i ≡ 𝟘
  light_from n m b P c d nz code few i li =
      let w = weight_le n c (from b P c) (λ i l. from_zero b P c i) in
      from_back b P c i (nz i li) (light K n m P (from b P c) d (λ k l. sym (syndrome_from n P c b k) ∙ code k l) (omega arith) i li)

  -- the weight, from the front
  pub weight_front_zero : (n : ℕ) (e : ℕ → F) → e 0 ≡ 𝟘 → weight K (suc n) e ≡ weight K n (λ i. e (suc i))
  weight_front_zero zero e z = weight_zero K 0 e z ∙ unfold weight in refl
  weight_front_zero (suc n) e z =
      let r = weight_front_zero n e z in
      elim (same (e (suc n)) 𝟘) [
        | yes ze ↦ omega (arith, weight_zero K (suc n) e ze, weight_zero K n (λ i. e (suc i)) ze)
        | no ne ↦ omega (arith, weight_more K (suc n) e ne, weight_more K n (λ i. e (suc i)) ne)
      ]

  pub weight_front_more : (n : ℕ) (e : ℕ → F) → ¬ (e 0 ≡ 𝟘) → weight K (suc n) e ≡ suc (weight K n (λ i. e (suc i)))
  weight_front_more zero e z = weight_more K 0 e z ∙ unfold weight in refl
  weight_front_more (suc n) e z =
      let r = weight_front_more n e z in
      elim (same (e (suc n)) 𝟘) [
        | yes ze ↦ omega (arith, weight_zero K (suc n) e ze, weight_zero K n (λ i. e (suc i)) ze)
        | no ne ↦ omega (arith, weight_more K (suc n) e ne, weight_more K n (λ i. e (suc i)) ne)
      ]

  pub from_is : (b : ℕ) (P c : ℕ → F) (i : ℕ) → from b P c i ≡ c i ⊗ power K (P i) b
  unfolding from
  from_is b P c i = refl
