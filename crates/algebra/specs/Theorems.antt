-- The theorems that the layers above rest on, for every field.
use Rattle.std.specs.Prelude.{◌≡◌, cond, List, [], ◌∷◌, ℕ, ◌+◌, ◌<◌, ◌≤◌, eqb, length, get_or}
use Rattle.fields.specs.Laws.{Meaning, FieldLaws, power}
use Rattle.algebra.specs.Sums.{sums, value, coefficient}
use Rattle.algebra.specs.Lines.{Elements, locator, syndrome}

-- two sums may be taken in either order
abbrev pub ExchangeOfSums : Type 0
ExchangeOfSums =
    (m : Meaning) → FieldLaws m → (f : ℕ → ℕ → ℕ) (a b : ℕ)
    → sums m (λ i. sums m (λ j. f i j) b) a ≡ sums m (λ j. sums m (λ i. f i j) a) b

-- a polynomial of n coefficients, all elements, that is 0 at n different elements is 0
abbrev pub FewRoots : Type 0
FewRoots =
    (m : Meaning) → FieldLaws m → (p : List ℕ) → Elements m p → (z : ℕ → ℕ)
    → ((j : ℕ) → j < length p → z j < m.q)
    → ((i j : ℕ) → i < length p → j < length p → z i ≡ z j → i ≡ j)
    → ((j : ℕ) → j < length p → value m p (length p) (z j) ≡ 0)
    → (i : ℕ) → i < length p → get_or p i 0 ≡ 0

-- what c syndromes, from the first root b on, come to under a linear form with the coefficients of the polynomial g:
-- the sum over the places p of symbol × X_p^b × g(X_p), X_p being the locator
abbrev pub FunctionalOverSyndromes : Type 0
FunctionalOverSyndromes =
    (m : Meaning) → FieldLaws m → (line g : List ℕ) (b c : ℕ)
    → sums m (λ i. m.mul (get_or g i 0) (syndrome m line (b + i))) c
    ≡ sums m (λ p. m.mul (m.mul (get_or line p 0) (power m.mul (locator m (length line) p) b)) (value m g c (locator m (length line) p))) (length line)

-- how many symbols of a line are not 0
abbrev pub nonzero : List ℕ → ℕ
nonzero [] = 0
nonzero (x ∷ xs) = cond (eqb x 0) 0 1 + nonzero xs

-- few nonzero places and zero syndromes: all zero
abbrev pub MinimumDistance : Type 0
MinimumDistance =
    (m : Meaning) → FieldLaws m → (line : List ℕ) (b c : ℕ)
    → Elements m line → length line < m.q → nonzero line ≤ c → ((i : ℕ) → i < c → syndrome m line (b + i) ≡ 0)
    → (p : ℕ) → p < length line → get_or line p 0 ≡ 0

-- p, of degree at most d, is a recurrence of the first r terms of s: from term d on, the product of p and s is 0
pub record Generates (m : Meaning) (s p : List ℕ) (d r : ℕ) : Type 0 where
  pub elements : Elements m p
  pub starts : get_or p 0 0 ≡ 0 → ⊥
  pub degree : (i : ℕ) → d < i → get_or p i 0 ≡ 0
  pub zeros : (k : ℕ) → d ≤ k → k < r → coefficient m p s k ≡ 0

-- where a recurrence of r terms fails at the next one, every recurrence of that one too is so long that both have more than r
abbrev pub ShortestRecurrences : Type 0
ShortestRecurrences =
    (m : Meaning) → FieldLaws m → (s p p' : List ℕ) (d d' r : ℕ)
    → Generates m s p d r → (coefficient m p s r ≡ 0 → ⊥) → Generates m s p' d' (r + 1) → r < d + d'
