-- What a solver promises.
use Rattle.std.specs.Prelude.{◌≡◌, ℕ, suc, ◌+◌, ◌<◌, ◌≤◌, List, length, Some, None, Option, slice_index}
use Rattle.fields.specs.Laws.{Meaning, power}
use Rattle.algebra.specs.Lines.{Elements}
use Rattle.algebra.specs.Sums.{sums, value}
use Rattle.solving.specs.Sequences.{coefficients, degree}
use Rattle.solving.specs.declared.polynomial.Polynomial.{Polynomial}

-- Y 0 (X 0)^k + .. + Y (w - 1) (X (w - 1))^k
unfoldable pub power_sum : Meaning → ℕ → (X Y : ℕ → ℕ) → ℕ → ℕ
power_sum m w X Y k = sums m (λ j. m.mul (Y j) (power m.mul (X j) k)) w

-- w terms explain the sequence s: w different locators X with weights Y, none of them 0, have s as their power sums
pub record Explains (m : Meaning) (s : List ℕ) (w : ℕ) (X Y : ℕ → ℕ) : Type 0 where
  pub apart : (i j : ℕ) → i < w → j < w → X i ≡ X j → i ≡ j
  pub locators : (j : ℕ) → j < w → (0 < X j) × (X j < m.q)
  pub weights : (j : ℕ) → j < w → (0 < Y j) × (Y j < m.q)
  pub sums : (k : ℕ) → k < length s → slice_index s k ≡ power_sum m w X Y k

-- the polynomial with the coefficients c has the degree w, and its roots are the inverses of the locators and no others
pub record Locates (m : Meaning) (w : ℕ) (X : ℕ → ℕ) (c : List ℕ) : Type 0 where
  pub degree : length c ≡ suc w
  pub leading : 0 < slice_index c w
  pub root : (j : ℕ) → j < w → value m c (suc w) (m.inv (X j)) ≡ 0
  pub only : (z : ℕ) → z < m.q → value m c (suc w) z ≡ 0 → (j : ℕ) × (j < w) × (z ≡ m.inv (X j))

-- whatever explains the sequence by at most half as many terms as it has is located
abbrev pub LocatesAll : Meaning → (s c : List ℕ) → Type 0
LocatesAll m s c = (w : ℕ) (X Y : ℕ → ℕ) → Explains m s w X Y → w + w ≤ length s → Locates m w X c

-- the solver's promise, by its answer: the polynomial locates; nothing is answered only where nothing so short explains the sequence
abbrev pub Solves : Meaning → List ℕ → Option Polynomial → Type 0
Solves m s (Some p) = LocatesAll m s (coefficients p)
Solves m s None = (w : ℕ) (X Y : ℕ → ℕ) → Explains m s w X Y → w + w ≤ length s → ⊥

-- a polynomial that a solver may choose: of elements, of a degree that is at most half the number of syndromes
pub record Choosable (m : Meaning) (s : List ℕ) (p : Polynomial) : Type 0 where
  pub elements : Elements m (coefficients p)
  pub half : degree p + degree p ≤ length s

-- what holds of every answer, and is all that holds on a sequence that nothing so short explains: there the solver has its
-- free choice between nothing and any choosable polynomial
abbrev pub FreeChoice : Meaning → List ℕ → Option Polynomial → Type 0
FreeChoice m s (Some p) = Choosable m s p
FreeChoice m s None = Unit {0}
