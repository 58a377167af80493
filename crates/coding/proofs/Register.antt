-- The generator polynomial and the register of a division, over the theory's field.
use Rattle.std.proofs.Common.{◌≡◌, ℕ, ◌+◌, ◌-◌, ◌<◌, List, length, get_or}
use Rattle.fields.specs.Laws.{Meaning, FieldLaws}
use Rattle.algebra.proofs.Sums.{sum}
use Rattle.algebra.proofs.Places.{power, eval}
use Rattle.algebra.proofs.Encoder.{generator}
use Rattle.algebra.proofs.Elements.{Element}
use Rattle.algebra.proofs.Numbers.{K, ⟨◌⟩, at}

-- the root j
abbrev pub at_root : (m : Meaning) (t : FieldLaws m) (b j : ℕ) → Element m
at_root m t b j = power (K m t) (⟨◌⟩ m t m.g) (b + j)

-- g has the coefficients of the product of x minus each of the first n roots
abbrev pub Multiplied : Meaning → ℕ → List ℕ → ℕ → Type 0
Multiplied m b g n =
    (t : FieldLaws m) (k : ℕ) → k < length g → ⟨◌⟩ m t (get_or g k 0) ≡ generator (K m t) (at_root m t b) n k

-- at each root z the register r, times z^(k - j), is the sum of the first j symbols of a message of k, each times its power of z
abbrev pub Fed : Meaning → (b n k : ℕ) → (line r : List ℕ) → ℕ → Type 0
Fed m b n k line r j =
    (t : FieldLaws m) (i : ℕ) → i < length r
    → (K m t).mul (eval (K m t) (length r) (at m t r) (at_root m t b i)) (power (K m t) (at_root m t b i) (k - j))
    ≡ sum (K m t) j (λ p. (K m t).mul (at m t line p) (power (K m t) (at_root m t b i) (n - 1 - p)))
