-- The bridge: the numbers below q, with a field's laws on numbers, are a field of the theory.
use mathlib.Core.Path.{◌≡◌, sym, ap, ap₂, ◌∙◌}
use mathlib.Core.HLevel.{Σ_prop_path, Σ_prop_discrete}
use Prim.Native.Nat.{ℕ, zero, suc, ◌<◌}
use native.Mathlib.Bridge.{le_prop}
use native.Mathlib.Decide.{ℕ_discrete, dec_lt}
use native.Mathlib.Omega.{arith}
use Rattle.fields.specs.Laws.{Meaning, FieldLaws}
use Rattle.fields.specs.Laws.{power as raised}
use Rattle.algebra.proofs.Field.{Field}
use Rattle.algebra.proofs.Places.{power, power_none, power_more}

abbrev pub Element : Meaning → Type 0
Element m = (n : ℕ) × (n < m.q)

pub element_path : (m : Meaning) (a b : Element m) → a.0 ≡ b.0 → a ≡ b
element_path m a b p = Σ_prop_path (λ n. le_prop) {u = a} {v = b} p

module _ (m : Meaning) (t : FieldLaws m) where
  pub some : 0 < m.q
  some = let h = t.two in omega arith

  pub nonzero : (a : Element m) → ¬ (a ≡ (0, some)) → 0 < a.0
  nonzero a h = elim (ℕ_discrete a.0 0) [ yes e ↦ absurd (h (element_path m a (0, some) e)) | no ne ↦ omega arith ]

  unfoldable pub field : Field (Element m)
  field = record {
    zero = (0, some);
    one = (1, t.two);
    add = λ a b. (m.add a.0 b.0, t.add_below a.0 b.0);
    mul = λ a b. (m.mul a.0 b.0, t.mul_below a.0 b.0);
    inv = λ a. (m.inv a.0, t.inv_below a.0);
    same = Σ_prop_discrete (λ n. le_prop) ℕ_discrete;
    add_assoc = λ x y z. element_path m _ _ (t.add_assoc x.0 y.0 z.0);
    add_comm = λ x y. element_path m _ _ (t.add_comm x.0 y.0);
    add_zero = λ x. element_path m _ _ (t.add_zero x.0 x.1);
    add_self = λ x. element_path m _ _ (t.add_self x.0);
    mul_assoc = λ x y z. element_path m _ _ (t.mul_assoc x.0 y.0 z.0);
    mul_comm = λ x y. element_path m _ _ (t.mul_comm x.0 y.0);
    mul_one = λ x. element_path m _ _ (t.mul_one x.0 x.1);
    distrib = λ x y z. element_path m _ _ (t.mul_add x.0 y.0 z.0);
    mul_inv = λ x h. element_path m _ _ (t.mul_inv x.0 (nonzero x h) x.1);
    one_zero = λ e. let z : ◌≡◌ {A = ℕ} 1 0 = ap (λ (b : Element m). b.0) e in omega arith;
  }

  -- a number as an element; one that is none counts as 0
  unfoldable pub el : ℕ → Element m
  el n = (m.mul n 1, t.mul_below n 1)

  pub el_number : (n : ℕ) → n < m.q → (el n).0 ≡ n
  unfolding el
  el_number n h = t.mul_one n h

  pub el_of : (a : Element m) → el a.0 ≡ a
  el_of a = element_path m _ _ (el_number a.0 a.1)

  pub el_zero : el 0 ≡ field.zero
  unfolding field
  el_zero = element_path m _ _ (el_number 0 some)

  pub el_one : el 1 ≡ field.one
  unfolding field
  el_one = element_path m _ _ (el_number 1 t.two)

  pub el_add : (a b : ℕ) → el (m.add a b) ≡ field.add (el a) (el b)
  unfolding field el
  el_add a b =
      element_path m _ _ (t.mul_comm (m.add a b) 1 ∙ t.mul_add 1 a b ∙ ap₂ m.add (t.mul_comm 1 a) (t.mul_comm 1 b))

  pub el_mul : (a b : ℕ) → el (m.mul a b) ≡ field.mul (el a) (el b)
  unfolding field el
  el_mul a b =
      element_path m _ _ (sym (
      t.mul_assoc a 1 (m.mul b 1)
      ∙ ap (m.mul a) (t.mul_comm 1 (m.mul b 1) ∙ t.mul_one (m.mul b 1) (t.mul_below b 1))
      ∙ sym (t.mul_assoc a b 1)))

  pub el_inv : (a : ℕ) → el (m.inv a) ≡ field.inv (el a)
  unfolding field el
  el_inv a = element_path m _ _ (t.mul_one (m.inv a) (t.inv_below a) ∙ elim (dec_lt a m.q) [
    | yes l ↦ ap m.inv (sym (t.mul_one a l))
    | no nl ↦ t.inv_out a (omega arith) ∙ sym (ap m.inv (t.mul_out a 1 (omega arith)) ∙ t.inv_zero)
  ])

  pub el_power : (a k : ℕ) → el (raised m.mul a k) ≡ power field (el a) k
  el_power a zero = el_one ∙ sym (power_none field (el a))
  el_power a (suc k) = el_mul a (raised m.mul a k) ∙ ap (field.mul (el a)) (el_power a k) ∙ sym (power_more field (el a) k)

  pub el_same : (a b : ℕ) → a < m.q → b < m.q → el a ≡ el b → a ≡ b
  el_same a b ha hb e = sym (el_number a ha) ∙ ap (λ (x : Element m). x.0) e ∙ el_number b hb

  pub el_none : (a : ℕ) → a < m.q → el a ≡ field.zero → a ≡ 0
  el_none a ha e = el_same a 0 ha some (e ∙ sym el_zero)

  pub el_some : (a : ℕ) → a < m.q → ¬ (a ≡ 0) → ¬ (el a ≡ field.zero)
  el_some a ha ne e = ne (el_none a ha e)
