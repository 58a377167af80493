-- The wrong places of a line, and the values there.
use Rattle.std.specs.Prelude.{◌≡◌, ℕ, zero, suc, ◌+◌, ◌<◌, Bool, true, cond, List, length, ◌==◌, slice_index, slice_set}
use Rattle.fields.specs.Laws.{Meaning, power}
use Rattle.algebra.specs.Sums.{value}
use Rattle.solving.specs.Solving.{power_sum}

-- the polynomial with the coefficients c is 0 at the inverse of the locator of place p
unfoldable pub root_at : Meaning → (c table : List ℕ) → ℕ → Bool
root_at m c table p = value m c (length c) (m.inv (slice_index table p)) == 0

-- how many numbers below n have f
unfoldable pub count : (ℕ → Bool) → ℕ → ℕ
count f zero = 0
count f (suc n) = cond (f n) 1 0 + count f n

-- the first c of xs are the numbers below n that have f, each once
pub record Lists (f : ℕ → Bool) (n : ℕ) (xs : List ℕ) (c : ℕ) : Type 0 where
  pub inside : (i : ℕ) → i < c → slice_index xs i < n
  pub holds : (i : ℕ) → i < c → f (slice_index xs i) ≡ true
  pub once : (i j : ℕ) → i < c → j < c → slice_index xs i ≡ slice_index xs j → i ≡ j
  pub all : (k : ℕ) → k < n → f k ≡ true → (i : ℕ) × (i < c) × (slice_index xs i ≡ k)

-- the first c of xs rise
abbrev pub Rises : List ℕ → ℕ → Type 0
Rises xs c = (i j : ℕ) → i < j → j < c → slice_index xs i < slice_index xs j

-- xs are the places of the line at whose locator's inverse the polynomial is 0
abbrev pub FindsPlaces : Meaning → (c table xs : List ℕ) → Type 0
FindsPlaces m c table xs = Lists (root_at m c table) (length table) xs (length xs)

-- the locator of the j-th place found
abbrev pub located_at : (table found : List ℕ) → ℕ → ℕ
located_at table found j = slice_index table (slice_index found j)

-- at w different places, the weights Y have the sums s
pub record Weighs (m : Meaning) (s : List ℕ) (w : ℕ) (X Y : ℕ → ℕ) : Type 0 where
  pub apart : (i j : ℕ) → i < w → j < w → X i ≡ X j → i ≡ j
  pub some : (j : ℕ) → j < w → 0 < X j
  pub elements : (j : ℕ) → j < w → Y j < m.q
  pub terms : (k : ℕ) → k < length s → slice_index s k ≡ power_sum m w X Y k

-- the error value at the j-th place found, from the weight there: a place of locator x that is wrong by e has the weight e x^b
abbrev pub value_of_error : Meaning → (b : ℕ) → (X Y : ℕ → ℕ) → ℕ → ℕ
value_of_error m b X Y j = m.mul (Y j) (m.inv (power m.mul (X j) b))

-- v is the error value at the j-th place found, whatever weights at the places found have the sums s
abbrev pub IsErrorValue : Meaning → (b : ℕ) → (table s found : List ℕ) → (j v : ℕ) → Type 0
IsErrorValue m b table s found j v =
    (Y : ℕ → ℕ) → Weighs m s (length found) (located_at table found) Y → v ≡ value_of_error m b (located_at table found) Y j

-- v is the corrected byte there: the line's, plus the error value
abbrev pub IsCorrected : Meaning → (b : ℕ) → (line table s found : List ℕ) → (j v : ℕ) → Type 0
IsCorrected m b line table s found j v =
    (Y : ℕ → ℕ) → Weighs m s (length found) (located_at table found) Y
    → v ≡ m.add (slice_index line (slice_index found j)) (value_of_error m b (located_at table found) Y j)

-- the corrected bytes at all the places found
abbrev pub Fixes : Meaning → (b : ℕ) → (line table s found fixed : List ℕ) → Type 0
Fixes m b line table s found fixed = (j : ℕ) → j < length found → IsCorrected m b line table s found j (slice_index fixed j)

-- the line with the first c of the found places set to their corrected bytes
unfoldable pub patched : (line found fixed : List ℕ) → ℕ → List ℕ
patched line found fixed zero = line
patched line found fixed (suc c) = slice_set (patched line found fixed c) (slice_index found c) (slice_index fixed c)

-- all of them
abbrev pub corrected_line : (line found fixed : List ℕ) → List ℕ
corrected_line line found fixed = patched line found fixed (length found)
