-- What a finite field is, on the numbers below q.
use Rattle.std.specs.Prelude.{◌≡◌, cond, ltb, ℕ, zero, suc, ◌-◌, ◌<◌, ◌≤◌}

-- the product of k factors g
abbrev pub power : (ℕ → ℕ → ℕ) → ℕ → ℕ → ℕ
power mul g zero = 1
power mul g (suc k) = mul g (power mul g k)

-- what a field's code computes: q elements, the generator g, sum, product and inverse
pub record Meaning : Type 0 where
  pub q : ℕ
  pub g : ℕ
  pub add : ℕ → ℕ → ℕ
  pub mul : ℕ → ℕ → ℕ
  pub inv : ℕ → ℕ

-- the laws of a field of q elements in which a + a = 0. The operations are defined on every number: one that
-- is no element counts as 0, so that only what has to be an element is asked to be one
pub record FieldLaws (m : Meaning) : Type 0 where
  pub two : 2 ≤ m.q
  pub bytes : m.q ≤ 256
  pub add_below : (a b : ℕ) → m.add a b < m.q
  pub add_assoc : (a b c : ℕ) → m.add (m.add a b) c ≡ m.add a (m.add b c)
  pub add_comm : (a b : ℕ) → m.add a b ≡ m.add b a
  pub add_zero : (a : ℕ) → a < m.q → m.add a 0 ≡ a
  pub add_self : (a : ℕ) → m.add a a ≡ 0
  pub mul_below : (a b : ℕ) → m.mul a b < m.q
  pub mul_assoc : (a b c : ℕ) → m.mul (m.mul a b) c ≡ m.mul a (m.mul b c)
  pub mul_comm : (a b : ℕ) → m.mul a b ≡ m.mul b a
  pub mul_one : (a : ℕ) → a < m.q → m.mul a 1 ≡ a
  pub mul_zero : (a : ℕ) → m.mul a 0 ≡ 0
  pub mul_add : (a b c : ℕ) → m.mul a (m.add b c) ≡ m.add (m.mul a b) (m.mul a c)
  pub mul_out : (a b : ℕ) → m.q ≤ a → m.mul a b ≡ 0
  pub inv_below : (a : ℕ) → m.inv a < m.q
  pub inv_zero : m.inv 0 ≡ 0
  pub inv_out : (a : ℕ) → m.q ≤ a → m.inv a ≡ 0
  pub mul_inv : (a : ℕ) → 0 < a → a < m.q → m.mul a (m.inv a) ≡ 1
  -- the first q - 1 powers of the generator are all the nonzero elements, each once
  pub g_below : m.g < m.q
  pub powers_differ : (i j : ℕ) → i < m.q - 1 → j < m.q - 1 → power m.mul m.g i ≡ power m.mul m.g j → i ≡ j
  pub powers_all : (a : ℕ) → 0 < a → a < m.q → (i : ℕ) × (i < m.q - 1) × (power m.mul m.g i ≡ a)

-- a where it is an element, and else 0
unfoldable pub cap : ℕ → ℕ → ℕ
cap q a = cond (ltb a q) a 0

-- operations on elements, carried to every number: one that is no element counts as 0
abbrev pub capped : Meaning → Meaning
capped m = record {
  q = m.q;
  g = m.g;
  add = λ a b. m.add (cap m.q a) (cap m.q b);
  mul = λ a b. m.mul (cap m.q a) (cap m.q b);
  inv = λ a. m.inv (cap m.q a);
}
