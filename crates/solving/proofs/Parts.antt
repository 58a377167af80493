-- The front of a room that a list was copied into, and of the room of a polynomial's coefficients.
use Rattle.std.proofs.Common.{◌≡◌, ℕ, zero, suc, ◌+◌, ◌<◌, List, [], ◌∷◌, ◌++◌, length, get_or, take, sym, ap, ◌∙◌, arith, length-take-le}
use Rattle.solving.specs.Sequences.{coefficients}
use Rattle.solving.specs.declared.polynomial.Polynomial.{Polynomial}
use lib.Seq.{take-append_seam}

pub front : (put xs rest : List ℕ) (n : ℕ) → put ≡ xs → n ≡ length xs → take n (put ++ rest) ≡ xs
front put xs rest n e l =
    ap (λ k. take k (put ++ rest)) (l ∙ ap length (sym e)) ∙ take-append_seam put rest ∙ e

-- past the end every coefficient is 0
pub inside : (xs : List ℕ) (i : ℕ) → 0 < get_or xs i 0 → i < length xs
inside [] i h = absurd (omega (arith, h))
inside (x ∷ xs) zero h = omega arith
inside (x ∷ xs) (suc i) h = let r = inside xs i h in omega arith

-- a polynomial has one coefficient more than its degree
pub coefficients_long : (p : Polynomial) → length (coefficients p) ≡ p.degree + 1
coefficients_long p = let i = inside p.coefficients p.degree p.leading in length-take-le (p.degree + 1) p.coefficients (omega arith)
