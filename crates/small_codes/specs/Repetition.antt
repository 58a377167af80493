-- The repetition code.
use Rattle.std.specs.Prelude.{ℕ, ◌+◌, ◌-◌, ◌*◌, ◌/◌, ◌<◌, ◌≤◌, Bool, true, false, cond, List, [], ◌∷◌, length, Some, None, Option, ◌==◌}
use Rattle.codes.specs.Meaning.{Meaning}

-- how many numbers of a line are not x
unfoldable pub unlike : ℕ → List ℕ → ℕ
unlike x [] = 0
unlike x (y ∷ ys) = cond (y == x) 0 1 + unlike x ys

-- all numbers of the line are x
unfoldable pub each : ℕ → List ℕ → Bool
each x [] = true
each x (y ∷ ys) = cond (y == x) (each x ys) false

-- all numbers of the line are equal
abbrev pub alike : List ℕ → Bool
alike [] = true
alike (x ∷ xs) = each x xs

-- n equal bytes; more than half of them decide
abbrev pub repetition : ℕ → Meaning
repetition n = record { size = n; reach = (n - 1) / 2; alphabet = 256; word = alike }

-- the byte that more than half of the line are, or that there is none
abbrev pub Majority : List ℕ → Option ℕ → Type 0
Majority line (Some x) = (x < 256) × (2 * unlike x line < length line)
Majority line None = (x : ℕ) → length line ≤ 2 * unlike x line
