-- A field of 2^m elements from tables of its powers and logarithms: the tests that the checker computes, and what they give.
use Rattle.std.specs.Prelude.{◌≡◌, Bool, true, false, List, [], ◌∷◌, T, eqb, ltb, length}
use Rattle.std.proofs.Math.Path.{sym, ap}
use Rattle.std.proofs.Common.{◌∙◌, not-suc-le-zero, mod-lt, ltb→lt}
use Prim.Native.Nat.{ℕ, zero, suc, ◌-◌, ◌%◌, ◌^◌, ◌<◌}
use Rattle.std.proofs.Math.Nat.{zero-div}
use native.Mathlib.Omega.{arith}
use Rattle.std.specs.Int.Bits.{bit_xor}
use Rattle.std.proofs.Math.ListN.{get_or}
use Rattle.fields.specs.Binary.{times, shift, keep, product, inverse}
use Rattle.fields.specs.Shifting.{Closed}
use Rattle.fields.specs.Laws.{Meaning, power}
use Rattle.fields.specs.OnElements.{LawsOnElements}
use Rattle.fields.specs.Each.{each, same, less}
use Rattle.fields.specs.Cyclic.{Cyclic, iter, shift_linear}
use Rattle.fields.specs.Cyclic as cyclic

abbrev row : (ℕ → ℕ) → ℕ → ℕ → List ℕ
row step zero a = []
row step (suc n) a = a ∷ row step n (step a)

abbrev choose : Bool → ℕ → ℕ → ℕ
choose true a b = a
choose false a b = b

abbrev place : ℕ → ℕ → List ℕ → ℕ
place a i [] = 0
place a i (x ∷ xs) = choose (eqb x a) i (place a (suc i) xs)

abbrev places : List ℕ → ℕ → ℕ → List ℕ
places xs a zero = []
places xs a (suc n) = place a 0 xs ∷ places xs (suc a) n

-- the operations on the elements
abbrev pub elements : (m p : ℕ) → Meaning
elements m p = record { q = 2 ^ m; g = 2; add = bit_xor; mul = product m p; inv = inverse m p }

-- the powers of x from 1 on, each once
abbrev pub exps : ℕ → ℕ → List ℕ
exps m p = row (shift m p) (2 ^ m - 1) 1

-- where each number stands among them
abbrev pub logs : ℕ → ℕ → List ℕ
logs m p = places (exps m p) 0 (2 ^ m)

-- what the checker computes of a field; tt and refl prove each
pub record Tests (m p : ℕ) : Type 0 where
  pub more : T (ltb 2 (2 ^ m))
  pub count : length (exps m p) ≡ 2 ^ m - 1
  pub first : shift m p 1 ≡ 2
  pub round : iter (shift m p) (2 ^ m - 1) 1 ≡ 1
  pub below : T (each (λ a. ltb (shift m p a) (2 ^ m)) (2 ^ m))
  pub one : T (each (λ b. eqb (times (shift m p) m 1 b) b) (2 ^ m))
  pub logs_below : T (each (λ a. ltb (get_or (logs m p) a 0) (2 ^ m - 1)) (2 ^ m))
  pub powers : T (each (λ i. eqb (get_or (exps m p) i 0) (iter (shift m p) i 1)) (2 ^ m - 1))
  pub back : T (each (λ i. eqb (get_or (logs m p) (get_or (exps m p) i 0) 0) i) (2 ^ m - 1))
  pub forth : T (each (λ a. eqb (get_or (exps m p) (get_or (logs m p) (suc a) 0) 0) (suc a)) (2 ^ m - 1))

module _ (m p : ℕ) (t : Tests m p) where
  pub log : ℕ → ℕ
  log a = get_or (logs m p) a 0

  pub more : 2 < 2 ^ m
  more = ltb→lt 2 (2 ^ m) t.more

  power_at : (i : ℕ) → i < 2 ^ m - 1 → get_or (exps m p) i 0 ≡ iter (shift m p) i 1
  power_at = same (λ i. get_or (exps m p) i 0) (λ i. iter (shift m p) i 1) (2 ^ m - 1) t.powers

  log_below : (a : ℕ) → a < 2 ^ m → log a < 2 ^ m - 1
  unfolding log
  log_below = less (λ a. get_or (logs m p) a 0) (2 ^ m - 1) (2 ^ m) t.logs_below

  log_of : (a : ℕ) → 0 < a → a < 2 ^ m → iter (shift m p) (log a) 1 ≡ a
  unfolding log
  log_of zero pa ha = absurd (not-suc-le-zero pa)
  log_of (suc a) pa ha =
      let h : a < 2 ^ m - 1 = omega arith in
      sym (power_at (log (suc a)) (log_below (suc a) ha))
      ∙ same (λ a. get_or (exps m p) (get_or (logs m p) (suc a) 0) 0) suc (2 ^ m - 1) t.forth a h

  of_log : (i : ℕ) → i < 2 ^ m - 1 → log (iter (shift m p) i 1) ≡ i
  unfolding log
  of_log i h = ap log (sym (power_at i h)) ∙ same (λ i. get_or (logs m p) (get_or (exps m p) i 0) 0) (λ i. i) (2 ^ m - 1) t.back i h

  pub closed : Closed m p
  closed = less (shift m p) (2 ^ m) (2 ^ m) t.below

  pub facts : Cyclic m 2 (shift m p) log
  facts = record {
    linear = shift_linear m p;
    below = closed;
    still = ap (λ n. keep n p) (zero-div (2 ^ m));
    one = same (times (shift m p) m 1) (λ b. b) (2 ^ m) t.one;
    first = t.first;
    two = (let h = more in omega arith);
    round = t.round;
    log_below = λ a _ ha. log_below a ha;
    log_of = log_of;
    of_log = of_log;
  }

  pub laws : LawsOnElements (elements m p)
  unfolding product inverse
  laws = cyclic.laws m 2 (shift m p) log facts more

  -- each entry of the table of powers, and a power beyond it
  pub power_read : (n : ℕ) → get_or (exps m p) (n % (2 ^ m - 1)) 0 ≡ power (product m p) 2 n
  unfolding product
  power_read n =
      let h = more in
      let some : 0 < 2 ^ m - 1 = omega arith in
      power_at (n % (2 ^ m - 1)) (mod-lt n some)
      ∙ cyclic.iter_mod m 2 (shift m p) log facts n
      ∙ sym (cyclic.power_iter m 2 (shift m p) log facts n)

  -- each entry of the table of logarithms
  pub log_read : (a : ℕ) → a < 2 ^ m → get_or (logs m p) a 0 < 2 ^ m - 1
  unfolding log
  log_read a ha = log_below a ha

  pub log_power : (a : ℕ) → 0 < a → a < 2 ^ m → power (product m p) 2 (get_or (logs m p) a 0) ≡ a
  unfolding log product
  log_power a pa ha = cyclic.power_iter m 2 (shift m p) log facts (log a) ∙ log_of a pa ha
