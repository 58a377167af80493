-- Products and inverses by powers of the generator.
use mathlib.Core.Path.{◌≡◌, sym, ap, ap₂, ◌∙◌}
use Prim.Native.Nat.{ℕ, zero, suc, ◌+◌, ◌-◌, ◌%◌, ◌^◌, ◌<◌}
use native.Mathlib.Nat.{zero-add, suc-add, mod-mod, mod_self}
use lib.ListN.{get_or}
use native.Mathlib.Omega.{arith}
use Rattle.fields.specs.Laws.{Meaning, FieldLaws, power}
use Rattle.fields.specs.Binary.{binary, product}
use Rattle.fields.specs.Capped.{powers}
use Rattle.fields.specs.Computed.{Tests, elements, laws, exps, power_read}

module _ (m : Meaning) (l : FieldLaws m) where
  pub power_below : (a k : ℕ) → power m.mul a k < m.q
  power_below a zero = l.two
  power_below a (suc k) = l.mul_below a (power m.mul a k)

  one_mul : (a : ℕ) → a < m.q → m.mul 1 a ≡ a
  one_mul a h = l.mul_comm 1 a ∙ l.mul_one a h

  pub power_add : (a i j : ℕ) → power m.mul a (i + j) ≡ m.mul (power m.mul a i) (power m.mul a j)
  power_add a zero j = ap (power m.mul a) (zero-add j) ∙ sym (one_mul _ (power_below a j))
  power_add a (suc i) j = ap (power m.mul a) (suc-add i j) ∙ ap (m.mul a) (power_add a i j) ∙ sym (l.mul_assoc a _ _)

  -- what gives 1 with a is its inverse
  pub inverse_is : (a x : ℕ) → 0 < a → a < m.q → x < m.q → m.mul a x ≡ 1 → x ≡ m.inv a
  inverse_is a x pa ha hx e =
      sym (l.mul_one x hx)
      ∙ ap (m.mul x) (sym (l.mul_inv a pa ha))
      ∙ sym (l.mul_assoc x a (m.inv a))
      ∙ ap (λ t. m.mul t (m.inv a)) (l.mul_comm x a ∙ e)
      ∙ one_mul (m.inv a) (l.inv_below a)

module _ (m p : ℕ) (t : Tests m p) (l : FieldLaws (binary m p)) where
  abbrev 2^ : ℕ → ℕ
  2^ = power (binary m p).mul 2

  -- on every number, powers are those of the elements
  pub power_is : (n : ℕ) → 2^ n ≡ power (product m p) 2 n
  power_is n = (powers (elements m p) (laws m p t) n).1

  -- the powers go round
  pub power_round : (n : ℕ) → 2^ (n % (2 ^ m - 1)) ≡ 2^ n
  power_round n =
      let k : ℕ = 2 ^ m - 1 in
      power_is (n % k) ∙ sym (power_read m p t (n % k)) ∙ ap (λ i. get_or (exps m p) i 0) (mod-mod n k) ∙ power_read m p t n ∙ sym (power_is n)

  -- a product by logarithms
  pub product_is : (a b i j : ℕ) → 2^ i ≡ a → 2^ j ≡ b → 2^ ((i + j) % (2 ^ m - 1)) ≡ (binary m p).mul a b
  product_is a b i j ha hb = power_round (i + j) ∙ power_add (binary m p) l 2 i j ∙ ap₂ (binary m p).mul ha hb

  -- an inverse by logarithms
  pub inverse_at : (a i : ℕ) → 0 < a → a < 2 ^ m → i < 2 ^ m - 1 → 2^ i ≡ a → 2^ (2 ^ m - 1 - i) ≡ (binary m p).inv a
  inverse_at a i pa ha hi e =
      let all : i + (2 ^ m - 1 - i) ≡ 2 ^ m - 1 = omega arith in
      inverse_is (binary m p) l a _ pa ha (power_below (binary m p) l 2 (2 ^ m - 1 - i))
      (ap (λ s. (binary m p).mul s (2^ (2 ^ m - 1 - i))) (sym e)
      ∙ sym (power_add (binary m p) l 2 i (2 ^ m - 1 - i))
      ∙ ap 2^ all ∙ sym (power_round (2 ^ m - 1)) ∙ ap 2^ (mod_self (2 ^ m - 1)))
