-- What making a Reed–Solomon line answers.
use Rattle.std.specs.Prelude.{◌≡◌, ℕ, Some, None, Ok, Err, Option, Result, ◌≢◌, List, codes}
use Rattle.fields.specs.Laws.{Meaning}
use Rattle.reed_solomon.specs.declared.numbers.CodeNumbers.{CodeNumbers}
use Rattle.decoder.specs.declared.line.Unmade.{Unmade}
use Rattle.decoder.specs.declared.line.Unmade.TheVariants.{CodeNumbers as OtherField, Memory}

-- the numbers of the refusals; want of memory has none
abbrev pub number_of : Unmade → Option ℕ
number_of (OtherField c) = Some 6
number_of (Memory c) = None

-- what they print
abbrev pub sentence : Unmade → List ℕ
sentence (OtherField c) = codes "the code numbers are for another field"
sentence (Memory c) = codes "there is no memory for the line's tables"

-- a line is made exactly of numbers for its field, and has not decoded yet; else the numbers are handed back.
-- No table is allocated today, so memory is never wanting
abbrev pub Makes : {X : Type 0} → Meaning → CodeNumbers → (numbers : X → CodeNumbers) → (count : X → ℕ) → Result X Unmade → Type 0
Makes m c numbers count (Ok x) = (c.order ≡ m.q) × (numbers x ≡ c) × (count x ≡ 0)
Makes m c numbers count (Err (OtherField back)) = (number_of (OtherField back) ≡ Some 6) × (c.order ≢ m.q) × (back ≡ c)
Makes m c numbers count (Err (Memory back)) = ⊥
