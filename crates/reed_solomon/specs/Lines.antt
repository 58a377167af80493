-- What checking a line rests on.
use Rattle.std.specs.Prelude.{◌≡◌, ℕ, ◌+◌, ◌<◌, List, length, Ok, Err, Result, ◌≢◌, slice_index}
use Rattle.fields.specs.Laws.{Meaning}
use Rattle.algebra.specs.Lines.{locator, syndrome}
use Rattle.codes.specs.Meaning.{Meaning as Code}
use Rattle.reed_solomon.specs.declared.numbers.CodeNumbers.{CodeNumbers}
use Rattle.reed_solomon.specs.declared.limits.Refusal.{Refusal}
use Rattle.reed_solomon.specs.Numbers.{number}
use Rattle.reed_solomon.specs.Words.{reed_solomon_code}

-- a table of the locators of a line as long as it
abbrev pub Locators : Meaning → List ℕ → Type 0
Locators m table = (p : ℕ) → p < length table → slice_index table p ≡ locator m (length table) p

-- s holds syndromes of a line, from b on
abbrev pub Syndromes : Meaning → List ℕ → ℕ → List ℕ → Type 0
Syndromes m line b s = (k : ℕ) → k < length s → slice_index s k ≡ syndrome m line (b + k)

-- the code of these numbers over a field
abbrev pub code_of : Meaning → CodeNumbers → Code
code_of m c = reed_solomon_code m c.length c.dimension c.root c.order

-- what is made from code numbers holds them, and is refused exactly when they are for another field
abbrev pub Fits : {X : Type 0} → Meaning → CodeNumbers → (X → CodeNumbers) → Result X Refusal → Type 0
Fits m c numbers (Ok x) = (numbers x ≡ c) × (c.order ≡ m.q)
Fits m c numbers (Err why) = (number why ≡ 6) × (c.order ≢ m.q)
