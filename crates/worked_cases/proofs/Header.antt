-- The header code on given lines.
use mathlib.Core.Path.{◌≡◌, refl, sym, ap, subst, ◌∙◌}
use mathlib.Core.List.{List, [], ◌∷◌}
use mathlib.Core.Bool.{false}
use Prim.Native.Nat.{ℕ, zero, suc, ◌+◌, ◌-◌, ◌<◌, ◌≤◌}
use native.Mathlib.Omega.{arith}
use lib.Dec.{eqb, lit<}
use lib.ListN.{get_or}
use borrow.Author.Tests.{eq-eqb}
use Rattle.fields.specs.Binary.{disc, product}
use Rattle.fields.specs.Laws.{power, cap}
use Rattle.fields.specs.Fields.{disc_laws}
use Rattle.algebra.specs.Lines.{Elements, syndrome}
use Rattle.algebra.specs.Sums.{sums}
use Rattle.codes.specs.Answers.{Sticks}
use Rattle.reed_solomon.specs.declared.numbers.CodeNumbers.{CodeNumbers}
use Rattle.solving.specs.Solving.{Explains, power_sum}
use Rattle.errors.specs.Received.{Received}
use Rattle.errors.proofs.Decided.{wrong_places}
use Rattle.reed_solomon.specs.Disc.{disc_header_code}
use Rattle.worked_cases.specs.Cases.{line}

-- the code numbers (6, 4)
abbrev pub numbers : CodeNumbers
numbers = record {
  length = 6;
  dimension = 4;
  root = 0;
  order = 256;
  some = omega arith;
  less = omega arith;
  short = omega arith;
  fits = omega arith;
  checks = omega arith;
  first = omega arith;
  two = omega arith;
  bytes = omega arith;
}

-- the locators of six places
abbrev pub table : List ℕ
table = line 32 16 8 4 2 1

-- the six places one by one
six : (P : ℕ → Type 0) → P 0 → P 1 → P 2 → P 3 → P 4 → P 5 → (k : ℕ) → k < 6 → P k
six P a b c d e f zero l = a
six P a b c d e f (suc zero) l = b
six P a b c d e f (suc (suc zero)) l = c
six P a b c d e f (suc (suc (suc zero))) l = d
six P a b c d e f (suc (suc (suc (suc zero)))) l = e
six P a b c d e f (suc (suc (suc (suc (suc zero))))) l = f
six P a b c d e f (suc (suc (suc (suc (suc (suc k)))))) l = absurd (omega arith)

two : (P : ℕ → Type 0) → P 0 → P 1 → (k : ℕ) → k < 2 → P k
two P a b zero l = a
two P a b (suc zero) l = b
two P a b (suc (suc k)) l = absurd (omega arith)

located : (p : ℕ) → p < 6 → get_or table p 0 ≡ power disc.mul disc.g (6 - 1 - p)
unfolding cap product
located = six (λ p. get_or table p 0 ≡ power disc.mul disc.g (6 - 1 - p)) refl refl refl refl refl refl

-- a line of six bytes with its two syndromes
pub received : (a b c d e f s t : ℕ) → Elements disc (line a b c d e f) → s ≡ syndrome disc (line a b c d e f) 0 → t ≡ syndrome disc (line a b c d e f) 1
    → Received disc numbers (line a b c d e f) table (s ∷ t ∷ [])
received a b c d e f s t els first second = record {
  order = refl;
  long = refl;
  elements = els;
  wide = refl;
  located = located;
  count = refl;
  sums = two (λ k. get_or (s ∷ t ∷ []) k 0 ≡ syndrome disc (line a b c d e f) (0 + k)) first second;
}

module _ (s t : ℕ) (X Y : ℕ → ℕ) (e : Explains disc (s ∷ t ∷ []) 1 X Y) where
  one_sum : (x : ℕ) → disc.add 0 (disc.mul (Y 0) x) ≡ disc.mul (Y 0) x
  one_sum x = disc_laws.add_comm 0 (disc.mul (Y 0) x) ∙ disc_laws.add_zero (disc.mul (Y 0) x) (disc_laws.mul_below (Y 0) x)

  -- one wrong place: the first syndrome is its weight, and the second that times its locator
  pub weight_is : s ≡ Y 0
  unfolding power_sum sums
  weight_is = e.sums 0 (omega arith) ∙ one_sum 1 ∙ disc_laws.mul_one (Y 0) (e.weights 0 (omega arith)).1

  pub locator_is : t ≡ disc.mul s (X 0)
  unfolding power_sum sums
  locator_is =
      e.sums 1 (omega arith) ∙ one_sum (disc.mul (X 0) 1)
      ∙ ap (disc.mul (Y 0)) (disc_laws.mul_one (X 0) (e.locators 0 (omega arith)).1)
      ∙ ap (λ y. disc.mul y (X 0)) (sym weight_is)

-- no wrong place at all: the syndromes are 0
pub none_wrong : (s t : ℕ) (X Y : ℕ → ℕ) → Explains disc (s ∷ t ∷ []) 0 X Y → t ≡ 0
unfolding power_sum sums
none_wrong s t X Y e = e.sums 1 (omega arith)

-- stuck, where neither none nor one of the six places explains the syndromes
pub sticks : (a b c d e f s t : ℕ) → Received disc numbers (line a b c d e f) table (s ∷ t ∷ []) → (t ≡ 0 → ⊥)
    → (0 < s → (p : ℕ) → p < 6 → t ≡ disc.mul s (get_or table p 0) → ⊥) → Sticks disc_header_code (line a b c d e f) (line a b c d e f)
sticks a b c d e f s t r some far = record { long = refl; same = refl; far = λ near. wrong_places disc disc_laws numbers (line a b c d e f) table (s ∷ t ∷ []) r near cases }
  where
    cases : (w : ℕ) (pos Y : ℕ → ℕ) → ((j : ℕ) → j < w → pos j < 6) → Explains disc (s ∷ t ∷ []) w (λ j. get_or table (pos j) 0) Y → w + w ≤ 2 → ⊥
    cases zero pos Y inside e few = some (none_wrong s t (λ j. get_or table (pos j) 0) Y e)
    cases (suc zero) pos Y inside e few =
        far (subst (λ (n : ℕ). 0 < n) (sym (weight_is s t (λ j. get_or table (pos j) 0) Y e)) (e.weights 0 (omega arith)).0) (pos 0) (inside 0 (omega arith))
        (locator_is s t (λ j. get_or table (pos j) 0) Y e)
    cases (suc (suc w)) pos Y inside e few = omega arith

-- equal numerals that differ
differs : (a b : ℕ) → (eqb a b ≡ false) → a ≡ b → ⊥
differs a b h e = let t = eq-eqb a b e in let z : ◌≡◌ {A = ℕ} 0 1 = cc in omega arith

pub first_stuck : Sticks disc_header_code (line 0 0 0 0 1 1) (line 0 0 0 0 1 1)
unfolding cap product sums syndrome
first_stuck = sticks 0 0 0 0 1 1 0 3
    (received 0 0 0 0 1 1 0 3 (six (λ k. get_or (line 0 0 0 0 1 1) k 0 < 256) (lit< tt) (lit< tt) (lit< tt) (lit< tt) (lit< tt) (lit< tt)) refl refl)
    (λ h. omega arith)
    (λ h p l e. omega arith)

pub second_stuck : Sticks disc_header_code (line 0 0 0 0 63 62) (line 0 0 0 0 63 62)
unfolding cap product sums syndrome
second_stuck = sticks 0 0 0 0 63 62 1 64
    (received 0 0 0 0 63 62 1 64 (six (λ k. get_or (line 0 0 0 0 63 62) k 0 < 256) (lit< tt) (lit< tt) (lit< tt) (lit< tt) (lit< tt) (lit< tt)) refl refl)
    (λ h. omega arith)
    (λ h. six (λ p. 64 ≡ disc.mul 1 (get_or table p 0) → ⊥) (differs 64 32 refl) (differs 64 16 refl) (differs 64 8 refl) (differs 64 4 refl) (differs 64 2 refl) (differs 64 1 refl))
