-- The division by the generator polynomial.
use Rattle.std.specs.Prelude.{◌≡◌, ℕ, zero, suc, ◌+◌, ◌-◌, ◌<◌, true, List, length, slice_index, slice_index_or}
use Rattle.fields.specs.Laws.{Meaning, power}
use Rattle.algebra.specs.Sums.{sums, value}
use Rattle.algebra.specs.Lines.{syndrome}
use Rattle.codes.specs.Meaning.{Below}
use Rattle.reed_solomon.specs.Words.{zeros}
use Rattle.coding.specs.Coding.{SameMessage}

-- every number is 0
abbrev pub Zero : List ℕ → Type 0
Zero xs = (k : ℕ) → k < length xs → slice_index xs k ≡ 0

-- coefficient k of x times a polynomial
abbrev pub shifted : List ℕ → ℕ → ℕ
shifted p zero = 0
shifted p (suc k) = slice_index p k

-- after is x times before, plus f times g, as far as before has places
abbrev pub Shifts : Meaning → (before : List ℕ) (f : ℕ) (g after : List ℕ) → Type 0
Shifts m before f g after =
    (k : ℕ) → k < length before → slice_index after k ≡ m.add (shifted before k) (m.mul f (slice_index g k))

-- the root j of the generator polynomial: α^(b+j)
abbrev pub root : Meaning → (b j : ℕ) → ℕ
root m b j = power m.mul m.g (b + j)

-- g is a polynomial of one degree less than it has places, with leading coefficient 1, that is 0 at as many roots
pub record Generator (m : Meaning) (b : ℕ) (g : List ℕ) : Type 0 where
  pub lead : slice_index_or g (length g - 1) 0 ≡ 1
  pub zero : (j : ℕ) → j < length g - 1 → value m g (length g) (root m b j) ≡ 0

-- at each root z the register r has the value of the message: the sum of its symbols, each times the power of z of its
-- place in a line with the register behind it
abbrev pub Remains : Meaning → (b : ℕ) (message r : List ℕ) → Type 0
Remains m b message r =
    (i : ℕ) → i < length r
    → value m r (length r) (root m b i)
    ≡ sums m (λ p. m.mul (slice_index message p) (power m.mul (root m b i) (length message + length r - 1 - p))) (length message)

-- the message stays, and the last c symbols are the only ones with which c syndromes from b on are 0
pub record Completed (m : Meaning) (b c : ℕ) (before after : List ℕ) : Type 0 where
  pub long : length after ≡ length before
  pub below : Below m.q after
  pub stays : SameMessage (length before - c) after before
  pub zero : zeros (λ i. syndrome m after (b + i)) c ≡ true
  pub only :
      (v : List ℕ) → length v ≡ length before → Below m.q v → zeros (λ i. syndrome m v (b + i)) c ≡ true
      → SameMessage (length before - c) v before → v ≡ after
