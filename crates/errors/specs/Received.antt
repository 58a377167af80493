-- What is known of a received line when it is corrected.
use Rattle.std.specs.Prelude.{◌≡◌, ℕ, ◌-◌, List, length}
use Rattle.fields.specs.Laws.{Meaning}
use Rattle.algebra.specs.Lines.{Elements}
use Rattle.reed_solomon.specs.Lines.{Locators, Syndromes}
use Rattle.reed_solomon.specs.declared.numbers.CodeNumbers.{CodeNumbers}

-- a line of elements as long as the code, the locators of its places, and its N - K syndromes
pub record Received (m : Meaning) (c : CodeNumbers) (line table s : List ℕ) : Type 0 where
  pub order : c.order ≡ m.q
  pub long : length line ≡ c.length
  pub elements : Elements m line
  pub wide : length table ≡ length line
  pub located : Locators m table
  pub count : length s ≡ c.length - c.dimension
  pub sums : Syndromes m line c.root s
