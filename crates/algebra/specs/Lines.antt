-- The syndromes of a line of symbols.
use Rattle.std.specs.Prelude.{List, ℕ, ◌-◌, ◌*◌, ◌<◌, length, get_or}
use Rattle.fields.specs.Laws.{Meaning, power}
use Rattle.algebra.specs.Sums.{sums}

-- every number of a list is an element of the field
abbrev pub Elements : Meaning → List ℕ → Type 0
Elements m line = (k : ℕ) → k < length line → get_or line k 0 < m.q

-- the locator of place p in a line of n: the symbol there is the coefficient of x^(n - 1 - p)
abbrev pub locator : Meaning → (n p : ℕ) → ℕ
locator m n p = power m.mul m.g (n - 1 - p)

-- what the symbol at place p adds to syndrome i: the symbol times α^(i (n - 1 - p))
abbrev pub term : Meaning → List ℕ → (i p : ℕ) → ℕ
term m line i p = m.mul (get_or line p 0) (power m.mul m.g (i * (length line - 1 - p)))

-- syndrome i: the sum over all places
unfoldable pub syndrome : Meaning → List ℕ → ℕ → ℕ
syndrome m line i = sums m (term m line i) (length line)
