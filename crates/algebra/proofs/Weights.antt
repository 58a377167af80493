-- The weight of a word: how many of its symbols are not 0, and where they stand.
use mathlib.Core.Path.{◌≡◌, refl, sym, ap, ap₂, ◌∙◌}
use Prim.Native.Nat.{ℕ, zero, suc, ◌<◌, ◌≤◌}
use native.Mathlib.Decide.{ℕ_discrete}
use native.Mathlib.Omega.{arith}
use Rattle.algebra.proofs.Field.{Field}
use Rattle.algebra.proofs.Ring.{ring, zero_mul}
use Rattle.algebra.proofs.Sums.{sum, sum_none, sum_more, sum_cong, sum_add, sum_front}
use Rattle.algebra.proofs.Places.{power, syndrome, Distinct, distance}

abbrev ahead : ℕ → (ℕ → ℕ) → ℕ → ℕ
ahead n f zero = n
ahead n f (suc j) = f j

module _ {F : Type 0} (K : Field F) where
  open K use {zero as 𝟘, one as 𝟙, add as ◌⊕◌, mul as ◌⊗◌, inv, same, mul_inv, one_zero}

  infixl 60 ◌⊕◌
  infixl 70 ◌⊗◌
  -- how many of the first n are not 0
  unfoldable pub weight : ℕ → (ℕ → F) → ℕ
  weight zero e = 0
  weight (suc n) e = elim (same (e n) 𝟘) [ yes z ↦ weight n e | no nz ↦ suc (weight n e) ]

  -- the w places below n where e is not 0
  pub record Sparse (n : ℕ) (e : ℕ → F) (w : ℕ) (pos : ℕ → ℕ) : Type 0 where
    pub inside : (j : ℕ) → j < w → pos j < n
    pub apart : (i j : ℕ) → i < w → j < w → pos i ≡ pos j → i ≡ j
    pub nonzero : (j : ℕ) → j < w → ¬ (e (pos j) ≡ 𝟘)
    pub covers : (i : ℕ) → i < n → ¬ (e i ≡ 𝟘) → (j : ℕ) × (j < w) × (i ≡ pos j)
    pub sums : (f : ℕ → F) → ((i : ℕ) → i < n → e i ≡ 𝟘 → f i ≡ 𝟘) → sum K n f ≡ sum K w (λ j. f (pos j))

  sparse_none : (e : ℕ → F) → Sparse 0 e 0 (λ j. j)
  sparse_none e = record {
    inside = λ j l. l;
    apart = λ i j li lj q. q;
    nonzero = λ j l. absurd (omega arith);
    covers = λ i l. absurd (omega arith);
    sums = λ f h. sum_none K _ ∙ sym (sum_none K _);
  }

  sparse_skip : (n : ℕ) (e : ℕ → F) (w : ℕ) (pos : ℕ → ℕ) → Sparse n e w pos → e n ≡ 𝟘 → Sparse (suc n) e w pos
  sparse_skip n e w pos s z = record {
    inside = λ j l. let h : pos j < n = s.inside j l in omega arith;
    apart = s.apart;
    nonzero = s.nonzero;
    covers = λ i l nz. elim (ℕ_discrete i n) [ yes q ↦ absurd (nz (ap e q ∙ z)) | no nq ↦ s.covers i (omega arith) nz ];
    sums = λ f h. sum_more K n f ∙ ap₂ ◌⊕◌ (s.sums f (λ i l. h i (omega arith))) (h n (omega arith) z) ∙ K.add_zero _;
  }

  sparse_take : (n : ℕ) (e : ℕ → F) (w : ℕ) (pos : ℕ → ℕ) → Sparse n e w pos → ¬ (e n ≡ 𝟘) → Sparse (suc n) e (suc w) (ahead n pos)
  sparse_take n e w pos s nz = record {
    inside = elim [ zero ↦ λ l. omega arith | suc j ↦ λ l. let h : pos j < n = s.inside j (omega arith) in omega arith ];
    apart = apart';
    nonzero = elim [ zero ↦ λ l. nz | suc j ↦ λ l. s.nonzero j (omega arith) ];
    covers = λ i l ne. elim (ℕ_discrete i n) [ yes q ↦ (0, omega arith, q) | no nq ↦ let c = s.covers i (omega arith) ne in (suc c.0, omega (arith, c.1), c.2) ];
    sums = λ f h. sum_more K n f ∙ ap (λ t. t ⊕ f n) (s.sums f (λ i l. h i (omega arith))) ∙ K.add_comm _ _ ∙ sym (sum_front K w (λ j. f (ahead n pos j)));
  }
    where
      apart' : (i j : ℕ) → i < suc w → j < suc w → ahead n pos i ≡ ahead n pos j → i ≡ j
      apart' zero zero li lj q = refl
      apart' zero (suc j) li lj q = let h : pos j < n = s.inside j (omega arith) in omega arith
      apart' (suc i) zero li lj q = let h : pos i < n = s.inside i (omega arith) in omega arith
      apart' (suc i) (suc j) li lj q = ap suc (s.apart i j (omega arith) (omega arith) q)

  pub sparse : (n : ℕ) (e : ℕ → F) → (pos : ℕ → ℕ) × Sparse n e (weight n e) pos
  unfolding weight
  sparse zero e = (λ j. j, sparse_none e)
  sparse (suc n) e =
      let r = sparse n e in
      elim (same (e n) 𝟘) as (λ d. (pos : ℕ → ℕ) × Sparse (suc n) e (elim d [ yes z ↦ weight n e | no nz ↦ suc (weight n e) ]) pos) [
        | yes z ↦ (r.0, sparse_skip n e (weight n e) r.0 r.1 z)
        | no nz ↦ (ahead n r.0, sparse_take n e (weight n e) r.0 r.1 nz)
      ]

  -- the sums of a word with an error on a codeword are those of the error
  pub sums_of_error : (n : ℕ) (P c e : ℕ → F) (k : ℕ) → syndrome K n P c k ≡ 𝟘 → syndrome K n P (λ i. c i ⊕ e i) k ≡ syndrome K n P e k
  unfolding syndrome
  sums_of_error n P c e k h =
      sum_cong K n _ (λ i. c i ⊗ power K (P i) k ⊕ e i ⊗ power K (P i) k) (λ i l. simp ring) ∙ sum_add K n _ _ ∙ ap (λ t. t ⊕ syndrome K n P e k) h ∙ simp ring

  -- the minimum distance: a codeword of weight at most m is 0
  pub light : (n m : ℕ) (P c : ℕ → F) → Distinct K n P → ((k : ℕ) → k < m → syndrome K n P c k ≡ 𝟘) → weight n c ≤ m → (i : ℕ) → i < n → c i ≡ 𝟘
  light n m P c d code few i li =
      let sp = sparse n c in
      let pos = sp.0 in
      let s = sp.1 in
      let zeros : (k : ℕ) → k < m → syndrome K (weight n c) (λ j. P (pos j)) (λ j. c (pos j)) k ≡ 𝟘 =
      λ k l. unfold syndrome in sym (s.sums (λ i. c i ⊗ power K (P i) k) (λ i li z. ap (λ t. t ⊗ power K (P i) k) z ∙ zero_mul K _)) ∙ code k l in
      elim (same (c i) 𝟘) [
        | yes z ↦ z
        | no ne ↦
            (let o = s.covers i li ne in
            absurd (s.nonzero o.0 o.1 (distance K (weight n c) m (λ j. P (pos j)) (λ j. c (pos j))
            (unfold Distinct in λ a b la lb q. s.apart a b la lb (d (pos a) (pos b) (s.inside a la) (s.inside b lb) q)) few zeros o.0 o.1)))
      ]

  pub weight_zero : (n : ℕ) (e : ℕ → F) → e n ≡ 𝟘 → weight (suc n) e ≡ weight n e
  unfolding weight
  weight_zero n e z = elim (same (e n) 𝟘) as (λ d. elim d [ yes z ↦ weight n e | no nz ↦ suc (weight n e) ] ≡ weight n e) [ yes z' ↦ refl | no nz ↦ absurd (nz z) ]

  pub weight_more : (n : ℕ) (e : ℕ → F) → ¬ (e n ≡ 𝟘) → weight (suc n) e ≡ suc (weight n e)
  unfolding weight
  weight_more n e h = elim (same (e n) 𝟘) as (λ d. elim d [ yes z ↦ weight n e | no nz ↦ suc (weight n e) ] ≡ suc (weight n e)) [ yes z ↦ absurd (h z) | no nz ↦ refl ]
