-- The error locator: it generates the power sums, and a shortest generator has its roots.
use mathlib.Core.Path.{◌≡◌, refl, sym, ap, ap₂, ◌∙◌}
use mathlib.Core.Logic.{◌⊎◌, inl, inr}
use Prim.Native.Nat.{ℕ, zero, suc, ◌+◌, ◌<◌, ◌≤◌}
use native.Mathlib.Nat.{add-zero, add-suc}
use native.Mathlib.Decide.{ℕ_discrete, dec_lt}
use native.Mathlib.Omega.{arith}
use Rattle.algebra.proofs.Field.{Field}
use Rattle.algebra.proofs.Ring.{ring, cancel, mul_left_comm, zero_mul, mul_zero}
use Rattle.algebra.proofs.Sums.{sum_none, sum_more}
use Rattle.algebra.proofs.Places.{power, power_none, power_more, eval, syndrome, Distinct, distance}
use Rattle.algebra.proofs.Product.{product, rest, product_none, product_last, product_add, product_scale, product_cong, product_comm, product_zero}
use Rattle.algebra.proofs.Massey.{Generates}
use Rattle.algebra.proofs.Polynomials.{up}
use Rattle.algebra.proofs.Berlekamp.{unit, mix, product_up, product_mix}
use Rattle.algebra.proofs.Roots.{no_more_roots}

module _ {F : Type 0} (K : Field F) where
  open K use {zero as 𝟘, one as 𝟙, add as ◌⊕◌, mul as ◌⊗◌, inv, same, mul_inv, one_zero}

  infixl 60 ◌⊕◌
  infixl 70 ◌⊗◌
  product_add_right : (a b c : ℕ → F) (k : ℕ) → product K a (λ i. b i ⊕ c i) k ≡ product K a b k ⊕ product K a c k
  product_add_right a b c k =
      product_comm K a (λ i. b i ⊕ c i) k ∙ product_add K b c a k ∙ ap₂ ◌⊕◌ (product_comm K b a k) (product_comm K c a k)

  product_scale_right : (c : F) (a b : ℕ → F) (k : ℕ) → product K a (λ i. c ⊗ b i) k ≡ c ⊗ product K a b k
  product_scale_right c a b k = product_comm K a (λ i. c ⊗ b i) k ∙ product_scale K c b a k ∙ ap (λ t. c ⊗ t) (product_comm K b a k)

  -- a product with the powers of x: x^k p(1/x), cut at k
  pub powers_more : (p : ℕ → F) (x : F) (k : ℕ) → product K p (power K x) (suc k) ≡ x ⊗ product K p (power K x) k ⊕ p (suc k)
  powers_more p x k =
      product_last K p (power K x) k ∙
      ap₂ ◌⊕◌ (product_cong K p p (rest (power K x)) (λ i. x ⊗ power K x i) k (λ i l. refl) (λ i l. power_more K x i) ∙ product_scale_right x p (power K x) k)
      (ap (λ t. p (suc k) ⊗ t) (power_none K x) ∙ K.mul_one _)

  pub product_place : (p : ℕ → F) (w : ℕ) (X Y : ℕ → F) (k : ℕ) →
      product K p (syndrome K (suc w) X Y) k ≡ product K p (syndrome K w X Y) k ⊕ Y w ⊗ product K p (power K (X w)) k
  unfolding syndrome
  product_place p w X Y k =
      product_cong K p p _ (λ i. syndrome K w X Y i ⊕ Y w ⊗ power K (X w) i) k (λ i l. refl) (λ i l. sum_more K w _) ∙
      product_add_right p (syndrome K w X Y) (λ i. Y w ⊗ power K (X w) i) k ∙
      ap (λ t. product K p (syndrome K w X Y) k ⊕ t) (product_scale_right (Y w) p (power K (X w)) k)

  pub product_nowhere : (p : ℕ → F) (X Y : ℕ → F) (k : ℕ) → product K p (syndrome K 0 X Y) k ≡ 𝟘
  unfolding syndrome
  product_nowhere p X Y k = product_zero K p _ k (λ i j e. ap (λ t. p i ⊗ t) (sum_none K _) ∙ mul_zero K _)

  -- Λ, the product of the 1 - X_j x
  pub locator : (ℕ → F) → ℕ → ℕ → F
  locator X zero = unit K
  locator X (suc n) = mix K 𝟙 (locator X n) (X n) (up K (locator X n))

  locator_degree : (X : ℕ → F) (n i : ℕ) → n < i → locator X n i ≡ 𝟘
  unfolding locator
  locator_degree X zero zero l = absurd (omega arith)
  locator_degree X zero (suc i) l = refl
  locator_degree X (suc n) zero l = absurd (omega arith)
  locator_degree X (suc n) (suc i) l = ap₂ (λ s t. 𝟙 ⊗ s ⊕ X n ⊗ t) (locator_degree X n (suc i) (omega arith)) (locator_degree X n i (omega arith)) ∙ simp ring

  locator_start : (X : ℕ → F) (n : ℕ) → locator X n 0 ≡ 𝟙
  unfolding locator
  locator_start X zero = refl
  locator_start X (suc n) = ap (λ t. 𝟙 ⊗ t ⊕ X n ⊗ 𝟘) (locator_start X n) ∙ simp ring

  pub locator_zeros : (X Y : ℕ → F) (n k : ℕ) → n ≤ k → product K (locator X n) (syndrome K n X Y) k ≡ 𝟘
  unfolding locator
  locator_zeros X Y zero k l = product_nowhere (locator X 0) X Y k
  locator_zeros X Y (suc n) zero l = absurd (omega arith)
  locator_zeros X Y (suc n) (suc k) l =
      let Λ = locator X n in
      let P = product K Λ (power K (X n)) k in
      let one_more : product K Λ (syndrome K (suc n) X Y) (suc k) ≡ Y n ⊗ (X n ⊗ P) =
      product_place Λ n X Y (suc k) ∙
      ap₂ (λ s t. s ⊕ Y n ⊗ t) (locator_zeros X Y n (suc k) (omega arith)) (powers_more Λ (X n) k ∙ ap (λ t. X n ⊗ P ⊕ t) (locator_degree X n (suc k) (omega arith))) ∙ simp ring in
      let one_less : product K Λ (syndrome K (suc n) X Y) k ≡ Y n ⊗ P =
      product_place Λ n X Y k ∙ ap (λ t. t ⊕ Y n ⊗ P) (locator_zeros X Y n k (omega arith)) ∙ simp ring in
      product_mix K 𝟙 (X n) Λ (up K Λ) (syndrome K (suc n) X Y) (suc k) ∙
      ap₂ (λ s t. 𝟙 ⊗ s ⊕ X n ⊗ t) one_more (product_up K Λ (syndrome K (suc n) X Y) k ∙ one_less) ∙ simp ring

  -- G, the first half: the locator generates
  pub locator_generates : (X Y : ℕ → F) (n m : ℕ) → Generates K (syndrome K n X Y) (locator X n) n m
  locator_generates X Y n m = record {
    known = record { degree = locator_degree X n; zeros = λ k l l'. locator_zeros X Y n k l };
    starts = λ e. one_zero (sym (locator_start X n) ∙ e);
  }

  -- past the degree L the products with the powers of x are a multiple of the one at L
  pub powers_past : (p : ℕ → F) (x : F) (L d : ℕ) → ((i : ℕ) → L < i → p i ≡ 𝟘) → product K p (power K x) (L + d) ≡ product K p (power K x) L ⊗ power K x d
  powers_past p x L zero h = rw (add-zero, power_none K x, K.mul_one)
  powers_past p x L (suc d) h =
      rw add-suc (powers_more p x (L + d) ∙ ap₂ (λ s t. x ⊗ s ⊕ t) (powers_past p x L d h) (h (suc (L + d)) (omega arith)) ∙ simp (power_more K x d, ring))

  product_places : (p : ℕ → F) (w : ℕ) (X Y : ℕ → F) (L d : ℕ) → ((i : ℕ) → L < i → p i ≡ 𝟘) →
      product K p (syndrome K w X Y) (L + d) ≡ syndrome K w X (λ j. Y j ⊗ product K p (power K (X j)) L) d
  unfolding syndrome
  product_places p zero X Y L d h = product_nowhere p X Y (L + d) ∙ sym (sum_none K _)
  product_places p (suc w) X Y L d h =
      product_place p w X Y (L + d) ∙
      ap₂ (λ s t. s ⊕ Y w ⊗ t) (product_places p w X Y L d h) (powers_past p (X w) L d h) ∙
      ap (λ t. syndrome K w X (λ j. Y j ⊗ product K p (power K (X j)) L) d ⊕ t) (sym (K.mul_assoc _ _ _)) ∙ sym (sum_more K w _)

  -- G, the second half: a generator that is no longer than the terms allow vanishes at each place
  pub vanishes : (w m L : ℕ) (X Y p : ℕ → F) → Distinct K w X → ((j : ℕ) → j < w → ¬ (Y j ≡ 𝟘)) → w + L ≤ m → Generates K (syndrome K w X Y) p L m →
      (j : ℕ) → j < w → product K p (power K (X j)) L ≡ 𝟘
  vanishes w m L X Y p d ne l g j lj =
      cancel K (Y j) _ (ne j lj)
      (distance K w w X (λ i. Y i ⊗ product K p (power K (X i)) L) d (omega arith)
      (λ i li. sym (product_places p w X Y L i g.known.degree) ∙ g.known.zeros (L + i) (omega arith) (omega arith)) j lj)

  four : (a b c d : F) → a ⊗ b ⊗ (c ⊗ d) ≡ a ⊗ c ⊗ (b ⊗ d)
  four a b c d = simp ring

  -- x^k x^-k
  powers_cancel : (x : F) (k : ℕ) → ¬ (x ≡ 𝟘) → power K x k ⊗ power K (inv x) k ≡ 𝟙
  powers_cancel x zero h = simp (power_none, ring)
  powers_cancel x (suc k) h =
      ap₂ ◌⊗◌ (power_more K x k) (power_more K (inv x) k) ∙ four x (power K x k) (inv x) (power K (inv x) k) ∙ ap₂ ◌⊗◌ (mul_inv x h) (powers_cancel x k h) ∙ simp ring

  absorb : (n e c i : F) → n ⊗ i ≡ 𝟙 → n ⊗ (e ⊕ c ⊗ i) ≡ n ⊗ e ⊕ c
  absorb n e c i h = K.distrib n e (c ⊗ i) ∙ ap (λ t. n ⊗ e ⊕ t) (mul_left_comm K n c i ∙ ap (λ t. c ⊗ t) h ∙ K.mul_one c)

  -- x^k p(1/x)
  pub powers_eval : (p : ℕ → F) (x : F) (k : ℕ) → ¬ (x ≡ 𝟘) → product K p (power K x) k ≡ power K x k ⊗ eval K (suc k) p (inv x)
  unfolding eval
  powers_eval p x zero h = product_none K p (power K x) ∙ simp (sum_more K 0 (λ i. p i ⊗ power K (inv x) i), sum_none, power_none, ring)
  powers_eval p x (suc k) h =
      let E = eval K (suc k) p (inv x) in
      powers_more p x k ∙ ap (λ t. x ⊗ t ⊕ p (suc k)) (powers_eval p x k h) ∙
      sym (ap (λ t. power K x (suc k) ⊗ t) (sum_more K (suc k) _) ∙
      absorb (power K x (suc k)) E (p (suc k)) (power K (inv x) (suc k)) (powers_cancel x (suc k) h) ∙
      ap (λ t. t ⊗ E ⊕ p (suc k)) (power_more K x k) ∙ ap (λ t. t ⊕ p (suc k)) (K.mul_assoc x _ E))

  pub power_nonzero : (x : F) (k : ℕ) → ¬ (x ≡ 𝟘) → ¬ (power K x k ≡ 𝟘)
  power_nonzero x k h e = one_zero (sym (powers_cancel x k h) ∙ ap (λ t. t ⊗ power K (inv x) k) e ∙ zero_mul K _)

  pub inv_same : (a b : F) → ¬ (a ≡ 𝟘) → ¬ (b ≡ 𝟘) → inv a ≡ inv b → a ≡ b
  inv_same a b ha hb e =
      sym (K.mul_one a) ∙ ap (λ t. a ⊗ t) (sym (mul_inv b hb) ∙ ap (λ t. b ⊗ t) (sym e)) ∙ mul_left_comm K a b (inv a) ∙ ap (λ t. b ⊗ t) (mul_inv a ha) ∙ K.mul_one b

  -- one of the places, or none
  find : (w : ℕ) (Z : ℕ → F) (z : F) → ((j : ℕ) × (j < w) × (z ≡ Z j)) ⊎ ((j : ℕ) → j < w → ¬ (z ≡ Z j))
  find zero Z z = inr (λ j l. absurd (omega arith))
  find (suc w) Z z = elim (same z (Z w)) [
    | yes e ↦ inl (w, omega arith, e)
    | no ne ↦ elim (find w Z z) [
      | inl f ↦ inl (f.0, omega (arith, f.1), f.2)
      | inr none ↦ inr (λ j l e. elim (ℕ_discrete j w) [ yes q ↦ ne (e ∙ ap Z q) | no nq ↦ none j (omega arith) e ])
    ]
  ]

  -- what the decoder's polynomial is: the length is the number of errors, and its roots are the inverses of their places, and no others
  pub record Locates (w : ℕ) (X : ℕ → F) (p : ℕ → F) (L : ℕ) : Type 0 where
    pub count : L ≡ w
    pub root : (j : ℕ) → j < w → eval K (suc L) p (inv (X j)) ≡ 𝟘
    pub only : (z : F) → eval K (suc L) p z ≡ 𝟘 → (j : ℕ) × (j < w) × (z ≡ inv (X j))

  pub record Errors (w : ℕ) (X Y : ℕ → F) : Type 0 where
    pub apart : Distinct K w X
    pub places : (j : ℕ) → j < w → ¬ (X j ≡ 𝟘)
    pub values : (j : ℕ) → j < w → ¬ (Y j ≡ 𝟘)

  abbrev before : F → (ℕ → F) → ℕ → F
  before z Z zero = z
  before z Z (suc j) = Z j

  apart_before : (n : ℕ) (z : F) (Z : ℕ → F) → ((i j : ℕ) → i < n → j < n → Z i ≡ Z j → i ≡ j) → ((j : ℕ) → j < n → ¬ (z ≡ Z j)) →
      (i j : ℕ) → i < suc n → j < suc n → before z Z i ≡ before z Z j → i ≡ j
  apart_before n z Z d none zero zero li lj e = refl
  apart_before n z Z d none zero (suc j) li lj e = absurd (none j (omega arith) e)
  apart_before n z Z d none (suc i) zero li lj e = absurd (none i (omega arith) (sym e))
  apart_before n z Z d none (suc i) (suc j) li lj e = ap suc (d i j (omega arith) (omega arith) e)

  -- a generator no longer than the number w of errors, of at least 2 w terms
  pub located : (w m L : ℕ) (X Y p : ℕ → F) → Errors w X Y → w + w ≤ m → L ≤ w → Generates K (syndrome K w X Y) p L m → Locates w X p L
  located w m L X Y p er l lw g = record { count = counted; root = root; only = only }
    where
      root : (j : ℕ) → j < w → eval K (suc L) p (inv (X j)) ≡ 𝟘
      root j lj =
          cancel K (power K (X j) L) _ (power_nonzero (X j) L (er.places j lj))
          (sym (powers_eval p (X j) L (er.places j lj)) ∙ vanishes w m L X Y p er.apart er.values (omega arith) g j lj)

      apart : (i j : ℕ) → i < w → j < w → inv (X i) ≡ inv (X j) → i ≡ j
      apart i j li lj e = unfold Distinct in er.apart i j li lj (inv_same (X i) (X j) (er.places i li) (er.places j lj) e)

      counted : L ≡ w
      counted = elim (dec_lt L w) [
        | yes lt ↦ absurd (g.starts (no_more_roots K (suc L) p (λ j. inv (X j)) (unfold Distinct in λ i j li lj e. apart i j (omega arith) (omega arith) e) (λ j lj. root j (omega arith)) 0 (omega arith)))
        | no nlt ↦ omega arith
      ]

      only : (z : F) → eval K (suc L) p z ≡ 𝟘 → (j : ℕ) × (j < w) × (z ≡ inv (X j))
      only z ez = elim (find w (λ j. inv (X j)) z) [ inl f ↦ f | inr none ↦ absurd (g.starts (no_more_roots K (suc L) p (before z (λ j. inv (X j))) (unfold Distinct in apart_before L z (λ j. inv (X j)) (λ i j li lj e. apart i j (omega arith) (omega arith) e) (λ j lj. none j (omega arith))) (elim [ zero ↦ λ lj. ez | suc j ↦ λ lj. root j (omega arith) ]) 0 (omega arith))) ]
