-- Shortest generators of a sequence: Massey's lemma.
use mathlib.Core.Path.{◌≡◌, refl, sym, ap, ◌∙◌}
use Prim.Native.Nat.{ℕ, suc, ◌+◌, ◌<◌, ◌≤◌}
use native.Mathlib.Decide.{dec_lt}
use native.Mathlib.Omega.{arith}
use Rattle.algebra.proofs.Field.{Field}
use Rattle.algebra.proofs.Ring.{mul_nonzero, zero_mul, mul_zero}
use Rattle.algebra.proofs.Product.{product, product_comm, product_assoc, product_zero, product_first, product_cong}

module _ {F : Type 0} (K : Field F) (S : ℕ → F) where
  open K use {zero as 𝟘, one as 𝟙, add as ◌⊕◌, mul as ◌⊗◌}

  infixl 60 ◌⊕◌
  infixl 70 ◌⊗◌
  -- the coefficients past d are 0, and (p·S)_k is 0 from d on, below r
  pub record Annihilates (p : ℕ → F) (d r : ℕ) : Type 0 where
    pub degree : (i : ℕ) → d < i → p i ≡ 𝟘
    pub zeros : (k : ℕ) → d ≤ k → k < r → product K p S k ≡ 𝟘

  pub record Generates (p : ℕ → F) (d r : ℕ) : Type 0 where
    pub known : Annihilates p d r
    pub starts : ¬ (p 0 ≡ 𝟘)

  swap : (a b : ℕ → F) (k : ℕ) → product K a (product K b S) k ≡ product K b (product K a S) k
  swap a b k =
      sym (product_assoc K a b S k) ∙ product_cong K (product K a b) (product K b a) S S k (λ i l. product_comm K a b i) (λ i l. refl) ∙ product_assoc K b a S k

  -- a term of the product of p with q·S: one of its factors is 0
  part_zero : (p q : ℕ → F) (d e i j : ℕ) → ((i : ℕ) → d < i → p i ≡ 𝟘) → (e ≤ j → product K q S j ≡ 𝟘) → d + e ≤ i + j → p i ⊗ product K q S j ≡ 𝟘
  part_zero p q d e i j degree zeros l = elim (dec_lt d i) [
    | yes h ↦ ap (λ t. t ⊗ product K q S j) (degree i h) ∙ zero_mul K _
    | no h ↦ ap (λ t. p i ⊗ t) (zeros (omega arith)) ∙ mul_zero K _
  ]

  -- a generator of the first r terms that fails at the next one, and a generator of that one too
  pub massey : (p q : ℕ → F) (d e r : ℕ) → Generates p d r → ¬ (product K p S r ≡ 𝟘) → Generates q e (suc r) → r < d + e
  massey p q d e r g fails h = elim (dec_lt r (d + e)) [
    | yes l ↦ l
    | no nl ↦ absurd (mul_nonzero K (q 0) (product K p S r) h.starts fails
        (sym (product_first K q (product K p S) r (λ i j s. part_zero q p e d (suc i) j h.known.degree (λ l. g.known.zeros j l (omega arith)) (omega arith))) ∙
        swap q p r ∙
        product_zero K p (product K q S) r (λ i j s. part_zero p q d e i j g.known.degree (λ l. h.known.zeros j l (omega arith)) (omega arith))))
  ]

module _ {F : Type 0} (K : Field F) where
  open K use {zero as 𝟘}

  pub generates_cong : (S T p : ℕ → F) (d m : ℕ) → ((k : ℕ) → k < m → S k ≡ T k) → Generates K S p d m → Generates K T p d m
  generates_cong S T p d m h g = record {
    known = record {
      degree = g.known.degree;
      zeros = λ k l l'. product_cong K p p T S k (λ i li. refl) (λ i li. sym (h i (omega arith))) ∙ g.known.zeros k l l';
    };
    starts = g.starts;
  }
