-- A test at each number below n that the checker computes, and what it says of each.
use Rattle.std.specs.Prelude.{Bool, true, false, ℕ, zero, suc, ◌<◌, ◌≡◌, refl, ◌⊎◌, T, eqb, ltb}
use Rattle.std.proofs.Common.{not-suc-le-zero, le_of_suc-le-suc, arith, sym, subst, ap, inl, inr, eqb→eq, ltb→lt}

abbrev pub both : Bool → Bool → Bool
both true b = b
both false b = false

both_left : (a b : Bool) → T (both a b) → T a
both_left true b t = tt
both_left false b t = t

both_right : (a b : Bool) → T (both a b) → T b
both_right true b t = t
both_right false b t = absurd t

abbrev pub each : (ℕ → Bool) → ℕ → Bool
each f zero = true
each f (suc n) = both (f n) (each f n)

here_or : (k n : ℕ) → k < suc n → (k ≡ n) ⊎ (k < n)
here_or zero zero h = inl refl
here_or zero (suc n) h = inr (omega arith)
here_or (suc k) zero h = absurd (omega arith)
here_or (suc k) (suc n) h = elim (here_or k n (le_of_suc-le-suc h)) [ inl e ↦ inl (ap suc e) | inr l ↦ inr (omega arith) ]

pub at : (f : ℕ → Bool) (n : ℕ) → T (each f n) → (k : ℕ) → k < n → T (f k)
at f zero t k h = absurd (not-suc-le-zero h)
at f (suc n) t k h =
    elim (here_or k n h) [
      | inl e ↦ subst (λ (j : ℕ). T (f j)) (sym e) (both_left (f n) (each f n) t)
      | inr l ↦ at f n (both_right (f n) (each f n) t) k l
    ]

pub same : (f g : ℕ → ℕ) (n : ℕ) → T (each (λ a. eqb (f a) (g a)) n) → (a : ℕ) → a < n → f a ≡ g a
same f g n t a h = eqb→eq (f a) (g a) (at (λ a. eqb (f a) (g a)) n t a h)

pub less : (f : ℕ → ℕ) (m n : ℕ) → T (each (λ a. ltb (f a) m) n) → (a : ℕ) → a < n → f a < m
less f m n t a h = ltb→lt (f a) m (at (λ a. ltb (f a) m) n t a h)
