-- The Berlekamp–Massey algorithm, without inversions, finds a shortest generator.
use mathlib.Core.Path.{◌≡◌, refl, sym, ap, ap₂, ◌∙◌}
use mathlib.Core.Logic.{◌⊎◌, inl, inr}
use Prim.Native.Nat.{ℕ, zero, suc, ◌+◌, ◌<◌, ◌≤◌}
use native.Mathlib.Decide.{ℕ_discrete}
use native.Mathlib.Omega.{arith}
use Rattle.algebra.proofs.Field.{Field}
use Rattle.algebra.proofs.Ring.{ring, mul_nonzero, zero_mul, mul_zero}
use Rattle.algebra.proofs.Product.{product, product_more, product_add, product_scale}
use Rattle.algebra.proofs.Polynomials.{up}
use Rattle.algebra.proofs.Massey.{Annihilates, Generates, massey}

module _ {F : Type 0} (K : Field F) where
  open K use {zero as 𝟘, one as 𝟙, add as ◌⊕◌, mul as ◌⊗◌, same, one_zero}

  infixl 60 ◌⊕◌
  infixl 70 ◌⊗◌
  -- 1
  abbrev pub unit : ℕ → F
  unit zero = 𝟙
  unit (suc i) = 𝟘

  -- c·p + d·q
  abbrev pub mix : F → (ℕ → F) → F → (ℕ → F) → ℕ → F
  mix c p d q i = c ⊗ p i ⊕ d ⊗ q i

  pub product_up : (p s : ℕ → F) (k : ℕ) → product K (up K p) s (suc k) ≡ product K p s k
  product_up p s k = product_more K (up K p) s k ∙ simp ring

  pub product_mix : (c d : F) (p q s : ℕ → F) (k : ℕ) → product K (mix c p d q) s k ≡ c ⊗ product K p s k ⊕ d ⊗ product K q s k
  product_mix c d p q s k = product_add K (λ i. c ⊗ p i) (λ i. d ⊗ q i) s k ∙ ap₂ ◌⊕◌ (product_scale K c p s k) (product_scale K d q s k)

  pub record State : Type 0 where
    pub poly : ℕ → F
    pub size : ℕ
    pub partner : ℕ → F
    pub room : ℕ
    pub weight : F

  module _ (S : ℕ → F) where
    -- after r terms: a shortest generator, and a partner that is ready to mend it
    pub record Found (s : State) (r : ℕ) : Type 0 where
      pub sizes : s.size + s.room ≡ suc r
      pub generator : Generates K S s.poly s.size r
      pub ready : Annihilates K S s.partner s.room r
      pub no_start : s.partner 0 ≡ 𝟘
      pub weighs : 0 < s.size → product K s.partner S r ≡ s.weight
      pub counts : ¬ (s.weight ≡ 𝟘)
      pub shortest : (q : ℕ → F) (e : ℕ) → Generates K S q e r → s.size ≤ e

    up_annihilates : (p : ℕ → F) (d r : ℕ) → Annihilates K S p d r → Annihilates K S (up K p) (suc d) (suc r)
    up_annihilates p d r a = record {
      degree = elim [ zero ↦ λ l. refl | suc i ↦ λ l. a.degree i (omega arith) ];
      zeros = elim [ zero ↦ λ l l'. absurd (omega arith) | suc k ↦ λ l l'. product_up p S k ∙ a.zeros k (omega arith) (omega arith) ];
    }

    fewer : (q : ℕ → F) (e r : ℕ) → Generates K S q e (suc r) → Generates K S q e r
    fewer q e r g = record {
      known = record { degree = g.known.degree; zeros = λ k l l'. g.known.zeros k l (omega arith) };
      starts = g.starts;
    }

    abbrev pub wrong : State → ℕ → F
    wrong s r = product K s.poly S r

    abbrev pub mended : State → ℕ → ℕ → F
    mended s r = mix s.weight s.poly (wrong s r) s.partner

    abbrev pub kept : State → ℕ → State
    kept s r = record { poly = mended s r; size = s.size; partner = up K s.partner; room = suc s.room; weight = s.weight }

    abbrev pub grown : State → ℕ → State
    grown s r = record { poly = mended s r; size = s.room; partner = up K s.poly; room = suc s.size; weight = wrong s r }

    mended_starts : (s : State) (r : ℕ) → Found s r → ¬ (mended s r 0 ≡ 𝟘)
    mended_starts s r f e =
        mul_nonzero K s.weight (s.poly 0) f.counts f.generator.starts
        (sym (ap (λ t. s.weight ⊗ s.poly 0 ⊕ wrong s r ⊗ t) f.no_start ∙ simp ring) ∙ e)

    -- the mended polynomial from the length n on, if n is long enough for both parts, or the second part is 0
    mended_annihilates : (s : State) (r n : ℕ) → Found s r → s.size ≤ n → ((s.room ≤ n) ⊎ (wrong s r ≡ 𝟘)) → Annihilates K S (mended s r) n (suc r)
    mended_annihilates s r n f l either = record { degree = deg; zeros = zer }
      where
        part : (x : F) → (s.room ≤ n → x ≡ 𝟘) → wrong s r ⊗ x ≡ 𝟘
        part x h = elim either [ inl m ↦ ap (λ t. wrong s r ⊗ t) (h m) ∙ mul_zero K _ | inr z ↦ ap (λ t. t ⊗ x) z ∙ zero_mul K _ ]

        deg : (i : ℕ) → n < i → mended s r i ≡ 𝟘
        deg i h = ap₂ (λ a b. s.weight ⊗ a ⊕ b) (f.generator.known.degree i (omega arith)) (part (s.partner i) (λ m. f.ready.degree i (omega arith))) ∙ simp ring

        here : n ≤ r → product K (mended s r) S r ≡ 𝟘
        here h = product_mix s.weight (wrong s r) s.poly s.partner S r ∙ elim either [
          | inl m ↦ ap (λ t. s.weight ⊗ wrong s r ⊕ wrong s r ⊗ t) (f.weighs (omega (arith, f.sizes))) ∙ simp ring
          | inr z ↦ ap (λ t. s.weight ⊗ t ⊕ t ⊗ product K s.partner S r) z ∙ simp ring
        ]

        before : (k : ℕ) → n ≤ k → k < r → product K (mended s r) S k ≡ 𝟘
        before k h g =
            product_mix s.weight (wrong s r) s.poly s.partner S k ∙
            ap₂ (λ a b. s.weight ⊗ a ⊕ b) (f.generator.known.zeros k (omega arith) g) (part (product K s.partner S k) (λ m. f.ready.zeros k (omega arith) g)) ∙ simp ring

        zer : (k : ℕ) → n ≤ k → k < suc r → product K (mended s r) S k ≡ 𝟘
        zer k h g = elim (ℕ_discrete k r) [ yes e ↦ ap (product K (mended s r) S) e ∙ here (omega arith) | no ne ↦ before k h (omega arith) ]

    pub step_kept : (s : State) (r : ℕ) → Found s r → ((s.room ≤ s.size) ⊎ (wrong s r ≡ 𝟘)) → Found (kept s r) (suc r)
    step_kept s r f either = record {
      sizes = omega (arith, f.sizes);
      generator = record { known = mended_annihilates s r s.size f (omega arith) either; starts = mended_starts s r f };
      ready = up_annihilates s.partner s.room r f.ready;
      no_start = refl;
      weighs = λ l. product_up s.partner S r ∙ f.weighs l;
      counts = f.counts;
      shortest = λ q e g. f.shortest q e (fewer q e r g);
    }

    pub step_grown : (s : State) (r : ℕ) → Found s r → s.size < s.room → ¬ (wrong s r ≡ 𝟘) → Found (grown s r) (suc r)
    step_grown s r f l ne = record {
      sizes = omega (arith, f.sizes);
      generator = record { known = mended_annihilates s r s.room f (omega arith) (inl (omega arith)); starts = mended_starts s r f };
      ready = up_annihilates s.poly s.size r f.generator.known;
      no_start = refl;
      weighs = λ l. product_up s.poly S r;
      counts = ne;
      shortest = λ q e g. let far : r < s.size + e = massey K S s.poly q s.size e r f.generator ne g in omega (arith, f.sizes);
    }

    unfoldable pub start : State
    start = record { poly = unit; size = 0; partner = up K unit; room = 1; weight = 𝟙 }

    pub start_found : Found start 0
    unfolding start
    start_found = record {
      sizes = refl;
      generator = record { known = record { degree = elim [ zero ↦ λ l. absurd (omega arith) | suc i ↦ λ l. refl ]; zeros = λ k l l'. absurd (omega arith) }; starts = one_zero };
      ready = record { degree = elim [ zero ↦ λ l. refl | suc zero ↦ λ l. absurd (omega arith) | suc (suc i) ↦ λ l. refl ]; zeros = λ k l l'. absurd (omega arith) };
      no_start = refl;
      weighs = λ l. absurd (omega arith);
      counts = one_zero;
      shortest = λ q e g. omega arith;
    }
