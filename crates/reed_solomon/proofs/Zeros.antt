-- The test that all of some numbers are 0.
use Rattle.std.proofs.Common.{◌≡◌, ℕ, zero, suc, ◌<◌, Bool, true, false, cond, eqb, sym, refl, ap, ◌∙◌, arith, eq-eqb, eqb-true}
use native.Mathlib.Decide.{ℕ_discrete}
use Rattle.reed_solomon.specs.Words.{zeros}

-- all are 0, one by one
pub zeros_each : (f : ℕ → ℕ) (n : ℕ) → zeros f n ≡ true → (i : ℕ) → i < n → f i ≡ 0
unfolding zeros
zeros_each f zero h i l = absurd (omega arith)
zeros_each f (suc n) h i l = case (eqb (f n) 0) refl (λ g l'. zeros_each f n g i l') h
  where
    case : (b : Bool) → eqb (f n) 0 ≡ b → (zeros f n ≡ true → i < n → f i ≡ 0) → cond b (zeros f n) false ≡ true → f i ≡ 0
    case true e r g = elim (ℕ_discrete i n) [ yes q ↦ ap f q ∙ eqb-true (f n) 0 e | no ne ↦ r g (omega arith) ]
    case false e r g = let z : ◌≡◌ {A = ℕ} 0 1 = cc in absurd (omega arith)

pub zeros_all : (f : ℕ → ℕ) (n : ℕ) → ((i : ℕ) → i < n → f i ≡ 0) → zeros f n ≡ true
unfolding zeros
zeros_all f zero h = refl
zeros_all f (suc n) h = ap (λ b. cond b (zeros f n) false) (eq-eqb (f n) 0 (h n (omega arith))) ∙ zeros_all f n (λ i l. h i (omega arith))

-- the test, from one that says where it fails
pub zeros_is : (r : Bool) (f : ℕ → ℕ) (n : ℕ) → (r ≡ true → (k : ℕ) → k < n → f k ≡ 0) → (r ≡ false → (k : ℕ) × (k < n) × (f k ≡ 0 → ⊥)) → r ≡ zeros f n
zeros_is true f n y z = sym (zeros_all f n (y refl))
zeros_is false f n y z = sym (none (zeros f n) (λ h. let o = z refl in o.2 (zeros_each f n h o.0 o.1)))
  where
    none : (b : Bool) → (b ≡ true → ⊥) → b ≡ false
    none true h = absurd (h refl)
    none false h = refl
