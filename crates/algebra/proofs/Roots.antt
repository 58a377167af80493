-- A polynomial of n coefficients with n different roots is zero, by synthetic division.
use mathlib.Core.Path.{◌≡◌, sym, ap, ap₂, ◌∙◌}
use Prim.Native.Nat.{ℕ, zero, suc, ◌<◌}
use native.Mathlib.Omega.{arith}
use Rattle.algebra.proofs.Field.{Field}
use Rattle.algebra.proofs.Ring.{ring, cancel, same_of_sum}
use Rattle.algebra.proofs.Places.{eval, eval_front, Distinct}
use Rattle.algebra.proofs.Polynomials.{eval_none, eval_zero}
use Rattle.algebra.proofs.Product.{rest}

module _ {F : Type 0} (K : Field F) where
  open K use {zero as 𝟘, one as 𝟙, add as ◌⊕◌, mul as ◌⊗◌}

  infixl 60 ◌⊕◌
  infixl 70 ◌⊗◌
  -- the quotient of p, of suc n coefficients, by x - a
  quotient : ℕ → F → (ℕ → F) → ℕ → F
  quotient zero a p i = 𝟘
  quotient (suc n) a p zero = eval K (suc n) (rest p) a
  quotient (suc n) a p (suc i) = quotient n a (rest p) i

  divided : (n : ℕ) (a : F) (p : ℕ → F) (x : F) → eval K (suc n) p x ≡ eval K (suc n) p a ⊕ (x ⊕ a) ⊗ eval K n (quotient n a p) x
  unfolding quotient
  divided zero a p x = simp (eval_front K 0 p x, eval_front K 0 p a, eval_none, ring)
  divided (suc n) a p x =
      let A = eval K (suc n) (rest p) x in
      let B = eval K (suc n) (rest p) a in
      let E = eval K n (quotient n a (rest p)) x in
      let more : A ≡ B ⊕ (x ⊕ a) ⊗ E = divided n a (rest p) x in
      let whole : eval K (suc n) (quotient (suc n) a p) x ≡ B ⊕ x ⊗ E = eval_front K n (quotient (suc n) a p) x in
      eval_front K (suc n) p x ∙ ap (λ t. p 0 ⊕ x ⊗ t) more ∙
      sym (ap₂ (λ s t. s ⊕ (x ⊕ a) ⊗ t) (eval_front K (suc n) p a) whole ∙ simp ring)

  constant : (n : ℕ) (a : F) (p : ℕ → F) → ((i : ℕ) → i < n → p (suc i) ≡ 𝟘) → eval K (suc n) p a ≡ p 0
  constant n a p h = eval_front K n p a ∙ ap (λ t. p 0 ⊕ a ⊗ t) (eval_zero K n (rest p) a h) ∙ simp ring

  quotient_zero : (n : ℕ) (a : F) (p : ℕ → F) → ((i : ℕ) → i < n → quotient n a p i ≡ 𝟘) → (i : ℕ) → i < n → p (suc i) ≡ 𝟘
  unfolding quotient
  quotient_zero zero a p h = λ i l. absurd (omega arith)
  quotient_zero (suc n) a p h =
      let later = quotient_zero n a (rest p) (λ i l. h (suc i) (omega arith)) in
      elim [ zero ↦ λ l. sym (constant n a (rest p) later) ∙ h 0 (omega arith) | suc i ↦ λ l. later i (omega arith) ]

  pub no_more_roots : (n : ℕ) (p Z : ℕ → F) → Distinct K n Z → ((j : ℕ) → j < n → eval K n p (Z j) ≡ 𝟘) → (i : ℕ) → i < n → p i ≡ 𝟘
  no_more_roots zero p Z d r = λ i l. absurd (omega arith)
  no_more_roots (suc n) p Z d r =
      let a = Z n in
      let divides : (j : ℕ) → j < n → eval K n (quotient n a p) (Z j) ≡ 𝟘 = λ j l.
      cancel K (Z j ⊕ a) (eval K n (quotient n a p) (Z j))
      (λ e. let same : j ≡ n = unfold Distinct in d j n (omega arith) (omega arith) (same_of_sum K (Z j) a e) in omega arith)
      (sym (divided n a p (Z j) ∙ ap (λ t. t ⊕ (Z j ⊕ a) ⊗ eval K n (quotient n a p) (Z j)) (r n (omega arith)) ∙ simp ring) ∙ r j (omega arith)) in
      let later = quotient_zero n a p (no_more_roots n (quotient n a p) Z (unfold Distinct in λ i j li lj. d i j (omega arith) (omega arith)) divides) in
      elim [ zero ↦ λ l. sym (constant n a p later) ∙ r n (omega arith) | suc i ↦ λ l. later i (omega arith) ]
