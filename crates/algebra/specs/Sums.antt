-- Sums and polynomials in a field, on numbers.
use Rattle.std.specs.Prelude.{List, ℕ, zero, suc, ◌-◌, get_or}
use Rattle.fields.specs.Laws.{Meaning, power}

-- f 0 + .. + f (n - 1)
unfoldable pub sums : Meaning → (ℕ → ℕ) → ℕ → ℕ
sums m f zero = 0
sums m f (suc n) = m.add (sums m f n) (f n)

-- the value at x of the polynomial with the first n coefficients of p, the lowest first
unfoldable pub value : Meaning → List ℕ → ℕ → ℕ → ℕ
value m p n x = sums m (λ i. m.mul (get_or p i 0) (power m.mul x i)) n

-- coefficient k of the product of p and s, as power series
unfoldable pub coefficient : Meaning → (p s : List ℕ) → ℕ → ℕ
coefficient m p s k = sums m (λ i. m.mul (get_or p i 0) (get_or s (k - i) 0)) (suc k)
