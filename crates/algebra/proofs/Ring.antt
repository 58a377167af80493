-- The laws of a field of characteristic 2.
use mathlib.Core.Path.{◌≡◌, sym, ap, ap₂, ◌∙◌}
use Rattle.algebra.proofs.Field.{Field}

module _ {F : Type 0} (K : Field F) where
  open K use {zero as 𝟘, one as 𝟙, add as ◌⊕◌, mul as ◌⊗◌, inv, mul_inv, one_zero}

  infixl 60 ◌⊕◌
  infixl 70 ◌⊗◌
  pub add_assoc : (x y z : F) → (x ⊕ y) ⊕ z ≡ x ⊕ (y ⊕ z)
  add_assoc = K.add_assoc

  pub add_comm : (x y : F) → x ⊕ y ≡ y ⊕ x
  add_comm = K.add_comm

  pub add_zero : (x : F) → x ⊕ 𝟘 ≡ x
  add_zero = K.add_zero

  pub add_self : (x : F) → x ⊕ x ≡ 𝟘
  add_self = K.add_self

  pub mul_assoc : (x y z : F) → (x ⊗ y) ⊗ z ≡ x ⊗ (y ⊗ z)
  mul_assoc = K.mul_assoc

  pub mul_comm : (x y : F) → x ⊗ y ≡ y ⊗ x
  mul_comm = K.mul_comm

  pub mul_one : (x : F) → x ⊗ 𝟙 ≡ x
  mul_one = K.mul_one

  pub distrib : (x y z : F) → x ⊗ (y ⊕ z) ≡ x ⊗ y ⊕ x ⊗ z
  distrib = K.distrib

  pub zero_add : (x : F) → 𝟘 ⊕ x ≡ x
  zero_add x = add_comm 𝟘 x ∙ add_zero x

  pub add_left_comm : (x y z : F) → x ⊕ (y ⊕ z) ≡ y ⊕ (x ⊕ z)
  add_left_comm x y z = sym (add_assoc x y z) ∙ ap (λ t. t ⊕ z) (add_comm x y) ∙ add_assoc y x z

  pub mul_left_comm : (x y z : F) → x ⊗ (y ⊗ z) ≡ y ⊗ (x ⊗ z)
  mul_left_comm x y z = sym (mul_assoc x y z) ∙ ap (λ t. t ⊗ z) (mul_comm x y) ∙ mul_assoc y x z

  pub one_mul : (x : F) → 𝟙 ⊗ x ≡ x
  one_mul x = mul_comm 𝟙 x ∙ mul_one x

  pub distrib_right : (x y z : F) → (x ⊕ y) ⊗ z ≡ x ⊗ z ⊕ y ⊗ z
  distrib_right x y z = mul_comm (x ⊕ y) z ∙ distrib z x y ∙ ap₂ ◌⊕◌ (mul_comm z x) (mul_comm z y)

  pub add_again : (x y : F) → x ⊕ (x ⊕ y) ≡ y
  add_again x y = sym (add_assoc x x y) ∙ ap (λ t. t ⊕ y) (add_self x) ∙ zero_add y

  pub mul_zero : (x : F) → x ⊗ 𝟘 ≡ 𝟘
  mul_zero x = ap (λ t. x ⊗ t) (sym (add_self 𝟘)) ∙ distrib x 𝟘 𝟘 ∙ add_self (x ⊗ 𝟘)

  pub zero_mul : (x : F) → 𝟘 ⊗ x ≡ 𝟘
  zero_mul x = mul_comm 𝟘 x ∙ mul_zero x

  -- sums of products in one order, with no term twice: `simp ring` proves an identity
  pub ruleset ring = (distrib, distrib_right, mul_assoc, mul_comm, mul_left_comm, add_assoc, add_comm, add_left_comm, add_self, add_again, mul_zero, zero_mul, zero_add, mul_one, one_mul, add_zero)

  -- no zero divisors
  pub cancel : (x y : F) → ¬ (x ≡ 𝟘) → x ⊗ y ≡ 𝟘 → y ≡ 𝟘
  cancel x y h e =
      sym (one_mul y) ∙ ap (λ t. t ⊗ y) (sym (mul_inv x h) ∙ mul_comm x (inv x)) ∙ mul_assoc (inv x) x y ∙ ap (λ t. inv x ⊗ t) e ∙ mul_zero (inv x)

  pub mul_nonzero : (x y : F) → ¬ (x ≡ 𝟘) → ¬ (y ≡ 𝟘) → ¬ (x ⊗ y ≡ 𝟘)
  mul_nonzero x y hx hy e = hy (cancel x y hx e)

  pub same_of_sum : (x y : F) → x ⊕ y ≡ 𝟘 → x ≡ y
  same_of_sum x y e = sym (zero_add x) ∙ ap (λ t. t ⊕ x) (sym e) ∙ simp ring
