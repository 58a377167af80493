-- How far codewords lie from each other.
use Rattle.std.specs.Prelude.{◌≡◌, ℕ, ◌-◌, ◌≤◌, List}
use Rattle.fields.specs.Laws.{Meaning, FieldLaws}
use Rattle.codes.specs.Meaning.{Word, differ}
use Rattle.reed_solomon.specs.Numbers.{Within}
use Rattle.reed_solomon.specs.Words.{reed_solomon_code}

-- codewords that differ at no more than n - k places are equal
abbrev pub Distance : Type 0
Distance =
    (m : Meaning) → FieldLaws m → (n k b q : ℕ) → Within n k b q → (v w : List ℕ)
    → Word (reed_solomon_code m n k b q) v → Word (reed_solomon_code m n k b q) w → differ v w ≤ n - k → v ≡ w
