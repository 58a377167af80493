-- A field in which x + x = 0, with equality that can be tested, over any type: what the theory is about.
use mathlib.Core.Path.{◌≡◌}

pub record Field (F : Type 0) : Type 0 where
  pub zero : F
  pub one : F
  pub add : F → F → F
  pub mul : F → F → F
  pub inv : F → F
  pub same : Discrete F
  pub add_assoc : (x y z : F) → add (add x y) z ≡ add x (add y z)
  pub add_comm : (x y : F) → add x y ≡ add y x
  pub add_zero : (x : F) → add x zero ≡ x
  pub add_self : (x : F) → add x x ≡ zero
  pub mul_assoc : (x y z : F) → mul (mul x y) z ≡ mul x (mul y z)
  pub mul_comm : (x y : F) → mul x y ≡ mul y x
  pub mul_one : (x : F) → mul x one ≡ x
  pub distrib : (x y z : F) → mul x (add y z) ≡ add (mul x y) (mul x z)
  pub mul_inv : (x : F) → ¬ (x ≡ zero) → mul x (inv x) ≡ one
  pub one_zero : ¬ (one ≡ zero)
