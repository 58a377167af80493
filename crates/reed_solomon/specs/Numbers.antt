-- The limits of code numbers.
use Rattle.std.specs.Prelude.{◌≡◌, ℕ, ◌+◌, ◌<◌, ◌≤◌, Ok, Err, Result}
use Rattle.reed_solomon.specs.declared.numbers.CodeNumbers.{CodeNumbers}
use Rattle.reed_solomon.specs.declared.limits.Refusal.{Refusal}
use Rattle.reed_solomon.specs.declared.limits.Refusal.TheVariants.{CodeNumbers as Unfit}

-- 1 ≤ K < N ≤ 255, N ≤ q - 1, N - K ≤ 32, b ≤ 254, 2 ≤ q ≤ 256
pub record Within (n k b q : ℕ) : Type 0 where
  pub some : 1 ≤ k
  pub less : k < n
  pub short : n ≤ 255
  pub fits : n < q
  pub checks : n ≤ k + 32
  pub first : b ≤ 254
  pub two : 2 ≤ q
  pub bytes : q ≤ 256

-- the numbers of the refusals
abbrev pub number : Refusal → ℕ
number Unfit = 6

-- the four numbers
pub record Holds (n k b q : ℕ) (c : CodeNumbers) : Type 0 where
  pub length : c.length ≡ n
  pub dimension : c.dimension ≡ k
  pub root : c.root ≡ b
  pub order : c.order ≡ q

-- made exactly when every limit holds
abbrev pub Made : (n k b q : ℕ) → Result CodeNumbers Refusal → Type 0
Made n k b q (Ok c) = Within n k b q × Holds n k b q c
Made n k b q (Err why) = (number why ≡ 6) × (Within n k b q → ⊥)
