-- The product of two power series, (a·b)_k = Σ_(i+j=k) a_i b_j: its laws.
use mathlib.Core.Path.{◌≡◌, refl, sym, ap, ap₂, ◌∙◌}
use Prim.Native.Nat.{ℕ, zero, suc, ◌+◌, ◌-◌, ◌≤◌}
use native.Mathlib.Nat.{sub-zero}
use native.Mathlib.Omega.{arith}
use Rattle.algebra.proofs.Field.{Field}
use Rattle.algebra.proofs.Ring.{ring}
use Rattle.algebra.proofs.Sums.{sum, sum_front, sum_more, sum_none, sum_cong}

-- the series without its first coefficient
abbrev pub rest : {F : Type 0} → (ℕ → F) → ℕ → F
rest a i = a (suc i)

module _ {F : Type 0} (K : Field F) where
  open K use {zero as 𝟘, one as 𝟙, add as ◌⊕◌, mul as ◌⊗◌}

  infixl 60 ◌⊕◌
  infixl 70 ◌⊗◌
  pub product : (ℕ → F) → (ℕ → F) → ℕ → F
  product a b zero = a 0 ⊗ b 0
  product a b (suc k) = a 0 ⊗ b (suc k) ⊕ product (rest a) b k

  pub product_none : (a b : ℕ → F) → product a b 0 ≡ a 0 ⊗ b 0
  unfolding product
  product_none a b = refl

  pub product_more : (a b : ℕ → F) (k : ℕ) → product a b (suc k) ≡ a 0 ⊗ b (suc k) ⊕ product (rest a) b k
  unfolding product
  product_more a b k = refl

  -- the other way round
  pub product_last : (a b : ℕ → F) (k : ℕ) → product a b (suc k) ≡ product a (rest b) k ⊕ a (suc k) ⊗ b 0
  product_last a b zero = simp (product_more a b 0, product_none, rest)
  product_last a b (suc k) =
      let next : product (rest a) b (suc k) ≡ product (rest a) (rest b) k ⊕ a (suc (suc k)) ⊗ b 0 = product_last (rest a) b k in
      let first : product a (rest b) (suc k) ≡ a 0 ⊗ b (suc (suc k)) ⊕ product (rest a) (rest b) k = product_more a (rest b) k in
      product_more a b (suc k) ∙ ap (λ t. a 0 ⊗ b (suc (suc k)) ⊕ t) next ∙ sym (K.add_assoc _ _ _) ∙ ap (λ t. t ⊕ a (suc (suc k)) ⊗ b 0) (sym first)

  pub product_comm : (a b : ℕ → F) (k : ℕ) → product a b k ≡ product b a k
  product_comm a b zero = simp (product_none, ring)
  product_comm a b (suc k) =
      product_more a b k ∙ ap (λ t. a 0 ⊗ b (suc k) ⊕ t) (product_comm (rest a) b k) ∙ simp (product_last b a k, ring)

  -- the coefficients up to k alone count
  pub product_cong : (a a' b b' : ℕ → F) (k : ℕ) → ((i : ℕ) → i ≤ k → a i ≡ a' i) → ((i : ℕ) → i ≤ k → b i ≡ b' i) → product a b k ≡ product a' b' k
  unfolding product
  product_cong a a' b b' zero h g = ap₂ ◌⊗◌ (h 0 (omega arith)) (g 0 (omega arith))
  product_cong a a' b b' (suc k) h g =
      ap₂ ◌⊕◌ (ap₂ ◌⊗◌ (h 0 (omega arith)) (g (suc k) (omega arith)))
      (product_cong (rest a) (rest a') b b' k (λ i l. h (suc i) (omega arith)) (λ i l. g i (omega arith)))

  pub product_add : (a a' b : ℕ → F) (k : ℕ) → product (λ i. a i ⊕ a' i) b k ≡ product a b k ⊕ product a' b k
  unfolding product
  product_add a a' b zero = simp ring
  product_add a a' b (suc k) = ap (λ t. (a 0 ⊕ a' 0) ⊗ b (suc k) ⊕ t) (product_add (rest a) (rest a') b k) ∙ simp ring

  pub product_scale : (c : F) (a b : ℕ → F) (k : ℕ) → product (λ i. c ⊗ a i) b k ≡ c ⊗ product a b k
  unfolding product
  product_scale c a b zero = simp ring
  product_scale c a b (suc k) = ap (λ t. c ⊗ a 0 ⊗ b (suc k) ⊕ t) (product_scale c (rest a) b k) ∙ simp ring

  pub product_assoc : (a b c : ℕ → F) (k : ℕ) → product (product a b) c k ≡ product a (product b c) k
  product_assoc a b c zero = simp (product_none, ring)
  product_assoc a b c (suc k) =
      product_more (product a b) c k ∙
      ap₂ (λ s t. s ⊗ c (suc k) ⊕ t) (product_none a b)
      (product_cong (rest (product a b)) (λ i. a 0 ⊗ b (suc i) ⊕ product (rest a) b i) c c k (λ i l. product_more a b i) (λ i l. refl) ∙
      product_add (λ i. a 0 ⊗ b (suc i)) (product (rest a) b) c k ∙
      ap₂ ◌⊕◌ (product_scale (a 0) (rest b) c k) (product_assoc (rest a) b c k)) ∙
      simp (product_more, ring)

  -- a coefficient of which each term is 0
  pub product_zero : (a b : ℕ → F) (k : ℕ) → ((i j : ℕ) → i + j ≡ k → a i ⊗ b j ≡ 𝟘) → product a b k ≡ 𝟘
  unfolding product
  product_zero a b zero h = h 0 0 refl
  product_zero a b (suc k) h =
      ap₂ ◌⊕◌ (h 0 (suc k) (omega arith)) (product_zero (rest a) b k (λ i j e. h (suc i) j (omega arith))) ∙ simp ring

  -- a coefficient of which each term but the first is 0
  pub product_first : (a b : ℕ → F) (k : ℕ) → ((i j : ℕ) → suc i + j ≡ k → a (suc i) ⊗ b j ≡ 𝟘) → product a b k ≡ a 0 ⊗ b k
  product_first a b zero h = product_none a b
  product_first a b (suc k) h =
      product_more a b k ∙ ap (λ t. a 0 ⊗ b (suc k) ⊕ t) (product_zero (rest a) b k (λ i j e. h i j (omega arith))) ∙ simp ring

  -- as a sum
  pub product_sum : (a b : ℕ → F) (k : ℕ) → product a b k ≡ sum K (suc k) (λ i. a i ⊗ b (k - i))
  product_sum a b zero = product_none a b ∙ sym (sum_more K 0 (λ i. a i ⊗ b (0 - i)) ∙ simp (sum_none, ring))
  product_sum a b (suc k) =
      product_more a b k ∙
      ap (λ t. a 0 ⊗ b (suc k) ⊕ t)
      (product_sum (rest a) b k ∙ sum_cong K (suc k) _ (λ i. a (suc i) ⊗ b (suc k - suc i)) (λ i l. let e : k - i ≡ suc k - suc i = omega arith in ap (λ n. a (suc i) ⊗ b n) e)) ∙
      sym (sum_front K (suc k) (λ i. a i ⊗ b (suc k - i)) ∙ rw sub-zero)
