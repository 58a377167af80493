-- The corrections of a line: what is to be written where.
use Rattle.std.specs.Prelude.{◌≡◌, ℕ, ◌+◌, ◌<◌, List, length, map, Option, Some, None, ◌≢◌, slice_index}
use Rattle.arrayvec.specs.ArrayVec.{ArrayVec}
use Rattle.fields.specs.Laws.{Meaning}
use Rattle.codes.specs.Meaning.{Word}
use Rattle.codes.specs.Meaning.{Meaning as Code}
use Rattle.codes.specs.Answers.{Mends, Sticks}
use Rattle.errors.specs.Places.{root_at, count, FindsPlaces, Rises, corrected_line}
use Rattle.correcting.specs.declared.correction.Correction.{Correction}

-- the places, and the bytes there
abbrev pub places_of : List Correction → List ℕ
places_of cs = map (λ (c : Correction). c.place) cs

abbrev pub values_of : List Correction → List ℕ
values_of cs = map (λ (c : Correction). c.value) cs

-- all these are places of the line
abbrev pub Inside : (line places : List ℕ) → Type 0
Inside line places = (i : ℕ) → i < length places → slice_index places i < length line

-- the line with all the bytes written
abbrev pub written : List ℕ → List Correction → List ℕ
written line cs = corrected_line line (places_of cs) (values_of cs)

-- the places are those at whose locator's inverse the polynomial is 0, rising; nothing where they are not as many as its degree
abbrev pub Finds : Meaning → (c table : List ℕ) → Option (ArrayVec ℕ) → Type 0
Finds m c table (Some v) = (length v.items + 1 ≡ length c) × FindsPlaces m c table v.items × Rises v.items (length v.items)
Finds m c table None = count (root_at m c table) (length table) + 1 ≢ length c

-- what writing these corrections makes of the line: where that is a codeword, it is the one in reach, and where it is not, none is
pub record Tells (m : Code) (line : List ℕ) (cs : List Correction) : Type 0 where
  pub inside : Inside line (places_of cs)
  pub mends : Word m (written line cs) → Mends m line (written line cs) (length cs)
  pub sticks : (Word m (written line cs) → ⊥) → Sticks m line line

-- corrections that tell, or nothing where no codeword is in reach
abbrev pub Offers : Code → List ℕ → Option (ArrayVec Correction) → Type 0
Offers m line (Some v) = Tells m line v.items
Offers m line None = Sticks m line line

-- the corrections stay where they make a codeword, and else the old bytes are back
abbrev pub Applies : Code → (before after : List ℕ) → List Correction → Option ℕ → Type 0
Applies m before after cs (Some k) = (k ≡ length cs) × Word m (written before cs) × (after ≡ written before cs)
Applies m before after cs None = (Word m (written before cs) → ⊥) × (after ≡ before)
