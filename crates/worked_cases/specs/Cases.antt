-- The lines of the worked cases.
use Rattle.std.specs.Prelude.{List, [], ◌∷◌, ℕ}

-- six symbols
abbrev pub line : (a b c d e f : ℕ) → List ℕ
line a b c d e f = a ∷ b ∷ c ∷ d ∷ e ∷ f ∷ []
