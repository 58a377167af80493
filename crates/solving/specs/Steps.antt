-- The steps of the Berlekamp–Massey method, on lists of coefficients.
use Rattle.std.specs.Prelude.{◌≡◌, ℕ, zero, suc, ◌-◌, ◌<◌, List, length, slice_index}
use Rattle.fields.specs.Laws.{Meaning}
use Rattle.algebra.specs.Sums.{sums}

-- a list moved up by one place
abbrev pub shifted : List ℕ → ℕ → ℕ
shifted l zero = 0
shifted l (suc k) = slice_index l k

-- coefficient k of the product of p and s
unfoldable pub coefficient : Meaning → (p s : List ℕ) → ℕ → ℕ
coefficient m p s k = sums m (λ i. m.mul (slice_index p i) (slice_index s (k - i))) (suc k)

-- w·p + d·q, at k
abbrev pub mixed : Meaning → ℕ → List ℕ → ℕ → List ℕ → ℕ → ℕ
mixed m w p d q k = m.add (m.mul w (slice_index p k)) (m.mul d (slice_index q k))

-- every coefficient is 0
abbrev pub Cleared : List ℕ → Type 0
Cleared p = (k : ℕ) → k < length p → slice_index p k ≡ 0

-- the coefficients of `after` are those of `before`, moved up by one place
abbrev pub MovesUp : (before after : List ℕ) → Type 0
MovesUp before after = (k : ℕ) → k < length before → slice_index after k ≡ shifted before k

-- the coefficients of `after` are those of w·p + d·q
abbrev pub Mixes : Meaning → (w : ℕ) → (p : List ℕ) → (d : ℕ) → (q after : List ℕ) → Type 0
Mixes m w p d q after = (k : ℕ) → k < length p → slice_index after k ≡ mixed m w p d q k
