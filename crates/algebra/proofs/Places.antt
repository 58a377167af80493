-- Weighted power sums S_i = Σ_j Y_j X_j^i at different places X_j, and what they say of the weights Y_j.
use mathlib.Core.Path.{◌≡◌, refl, sym, ap, ap₂, ◌∙◌}
use Prim.Native.Nat.{ℕ, zero, suc, ◌<◌, ◌≤◌}
use native.Mathlib.Decide.{ℕ_discrete}
use native.Mathlib.Omega.{arith}
use Rattle.algebra.proofs.Field.{Field}
use Rattle.algebra.proofs.Ring.{ring, cancel, same_of_sum}
use Rattle.algebra.proofs.Sums.{sum, sum_more, sum_cong, sum_zero, sum_add, sum_scale, sum_swap, sum_front}

module _ {F : Type 0} (K : Field F) where
  open K use {zero as 𝟘, one as 𝟙, add as ◌⊕◌, mul as ◌⊗◌}

  infixl 60 ◌⊕◌
  infixl 70 ◌⊗◌
  pub power : F → ℕ → F
  power x zero = 𝟙
  power x (suc n) = x ⊗ power x n

  pub power_none : (x : F) → power x 0 ≡ 𝟙
  unfolding power
  power_none x = refl

  pub power_more : (x : F) (n : ℕ) → power x (suc n) ≡ x ⊗ power x n
  unfolding power
  power_more x n = refl

  -- p(x), of the n coefficients p 0 .. p (n - 1)
  unfoldable pub eval : ℕ → (ℕ → F) → F → F
  eval n p x = sum K n (λ i. p i ⊗ power x i)

  -- by Horner's rule
  pub eval_front : (n : ℕ) (p : ℕ → F) (x : F) → eval (suc n) p x ≡ p 0 ⊕ x ⊗ eval n (λ i. p (suc i)) x
  unfolding eval power
  eval_front n p x =
      sum_front K n (λ i. p i ⊗ power x i) ∙
      ap₂ ◌⊕◌ (simp ring) (sum_cong K n _ (λ i. x ⊗ (p (suc i) ⊗ power x i)) (λ i l. simp ring) ∙ sum_scale K n x (λ i. p (suc i) ⊗ power x i))

  -- S_i
  unfoldable pub syndrome : ℕ → (ℕ → F) → (ℕ → F) → ℕ → F
  syndrome w X Y i = sum K w (λ j. Y j ⊗ power (X j) i)

  -- a linear form of the power sums is the weighted sum of the polynomial's values
  pub functional : (w m : ℕ) (X Y p : ℕ → F) → sum K m (λ i. p i ⊗ syndrome w X Y i) ≡ sum K w (λ j. Y j ⊗ eval m p (X j))
  unfolding eval syndrome
  functional w m X Y p =
      sum_cong K m _ (λ i. sum K w (λ j. p i ⊗ (Y j ⊗ power (X j) i))) (λ i l. sym (sum_scale K w (p i) (λ j. Y j ⊗ power (X j) i))) ∙
      sum_swap K m w (λ i j. p i ⊗ (Y j ⊗ power (X j) i)) ∙
      sum_cong K w _ _ (λ j l.
      sum_cong K m _ (λ i. Y j ⊗ (p i ⊗ power (X j) i)) (λ i l'. simp ring) ∙ sum_scale K m (Y j) (λ i. p i ⊗ power (X j) i))

  unfoldable pub Distinct : ℕ → (ℕ → F) → Type 0
  Distinct w X = (i j : ℕ) → i < w → j < w → X i ≡ X j → i ≡ j

  -- S_(i+1) - x S_i is the power sum of the weights Y_j (X_j - x)
  pub syndrome_step : (w : ℕ) (X Y : ℕ → F) (x : F) (i : ℕ) → syndrome w X (λ j. Y j ⊗ (X j ⊕ x)) i ≡ syndrome w X Y (suc i) ⊕ x ⊗ syndrome w X Y i
  unfolding syndrome power
  syndrome_step w X Y x i =
      sum_cong K w _ (λ j. Y j ⊗ power (X j) (suc i) ⊕ x ⊗ (Y j ⊗ power (X j) i)) (λ j l. simp ring) ∙
      sum_add K w (λ j. Y j ⊗ power (X j) (suc i)) (λ j. x ⊗ (Y j ⊗ power (X j) i)) ∙
      ap (λ t. syndrome w X Y (suc i) ⊕ t) (sum_scale K w x (λ j. Y j ⊗ power (X j) i))

  -- the last place drops out where its weight is 0
  syndrome_last : (w : ℕ) (X Y : ℕ → F) (i : ℕ) → Y w ≡ 𝟘 → syndrome (suc w) X Y i ≡ syndrome w X Y i
  unfolding syndrome
  syndrome_last w X Y i e = simp (sum_more, e, ring)

  -- with the last place's weight multiplied away, one power sum fewer
  before_last : (w m : ℕ) (X Y : ℕ → F) → ((i : ℕ) → i < suc m → syndrome (suc w) X Y i ≡ 𝟘) → (i : ℕ) → i < m → syndrome w X (λ j. Y j ⊗ (X j ⊕ X w)) i ≡ 𝟘
  before_last w m X Y s i h =
      sym (syndrome_last w X (λ j. Y j ⊗ (X j ⊕ X w)) i (simp ring)) ∙ syndrome_step (suc w) X Y (X w) i ∙
      ap₂ (λ a b. a ⊕ X w ⊗ b) (s (suc i) (omega arith)) (s i (omega arith)) ∙ simp ring

  last_weight : (w : ℕ) (X Y : ℕ → F) → ((j : ℕ) → j < w → Y j ≡ 𝟘) → syndrome (suc w) X Y 0 ≡ Y w
  unfolding syndrome
  last_weight w X Y h =
      sum_more K w (λ j. Y j ⊗ power (X j) 0) ∙
      ap (λ t. t ⊕ Y w ⊗ power (X w) 0) (sum_zero K w (λ j. Y j ⊗ power (X j) 0) (λ j l. simp (h j l, ring))) ∙ simp (power_none, ring)

  -- the minimum distance. At most m different places, and m power sums that are 0: every weight is 0
  pub distance : (w m : ℕ) (X Y : ℕ → F) → Distinct w X → w ≤ m → ((i : ℕ) → i < m → syndrome w X Y i ≡ 𝟘) → (j : ℕ) → j < w → Y j ≡ 𝟘
  unfolding Distinct
  distance zero m X Y d l s j h = absurd (omega arith)
  distance (suc w) zero X Y d l s j h = absurd (omega arith)
  distance (suc w) (suc m) X Y d l s j h =
      let scaled = distance w m X (λ k. Y k ⊗ (X k ⊕ X w)) (λ a b la lb. d a b (omega arith) (omega arith)) (omega arith) (before_last w m X Y s) in
      let front : (k : ℕ) → k < w → Y k ≡ 𝟘 = λ k lk.
      cancel K (X k ⊕ X w) (Y k)
      (λ e. let same : k ≡ w = d k w (omega arith) (omega arith) (same_of_sum K (X k) (X w) e) in omega arith)
      (K.mul_comm (X k ⊕ X w) (Y k) ∙ scaled k lk) in
      elim (ℕ_discrete j w) [
        | yes e ↦ ap Y e ∙ sym (last_weight w X Y front) ∙ s 0 (omega arith)
        | no ne ↦ front j (omega arith)
      ]
