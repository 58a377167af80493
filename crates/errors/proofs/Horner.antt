-- A polynomial's value at an inverse, by Horner's rule from the lowest coefficient on.
use Rattle.std.proofs.Common.{◌≡◌, ℕ, zero, suc, ◌<◌, Bool, true, false, eqb, List, get_or, sym, refl, ap, ◌∙◌, arith, eq-eqb, eqb-true}
use native.Mathlib.Decide.{ℕ_discrete}
use Rattle.fields.specs.Laws.{Meaning, FieldLaws}
use Rattle.algebra.proofs.Field.{Field}
use Rattle.algebra.proofs.Ring.{cancel, mul_zero}
use Rattle.algebra.proofs.Product.{product, product_none}
use Rattle.algebra.proofs.Places.{power, power_none, eval}
use Rattle.algebra.proofs.Locator.{powers_more, powers_eval, power_nonzero}
use Rattle.algebra.proofs.Elements.{Element, some, el_zero, el_add, el_mul, el_inv, el_none, el_some}
use Rattle.algebra.specs.Sums.{value}
use Rattle.algebra.proofs.Numbers.{K, ⟨◌⟩, at}
use Rattle.solving.proofs.Promise.{el_value, value_below}

unfoldable pub horner : Meaning → List ℕ → ℕ → ℕ → ℕ
horner m p x zero = 0
horner m p x (suc i) = m.add (get_or p i 0) (m.mul x (horner m p x i))

pub horner_none : (m : Meaning) (p : List ℕ) (x : ℕ) → 0 ≡ horner m p x 0
unfolding horner
horner_none m p x = refl

pub horner_more : (m : Meaning) (p : List ℕ) (x i : ℕ) → m.add (get_or p i 0) (m.mul x (horner m p x i)) ≡ horner m p x (suc i)
unfolding horner
horner_more m p x i = refl

pub eqb_same : (a b c d : ℕ) → (a ≡ b → c ≡ d) → (c ≡ d → a ≡ b) → eqb a b ≡ eqb c d
eqb_same a b c d f g = elim (ℕ_discrete a b) [
  | yes e ↦ eq-eqb a b e ∙ sym (eq-eqb c d (f e))
  | no ne ↦ two (eqb a b) (eqb c d) (λ h. ne (eqb-true a b h)) (λ h. ne (g (eqb-true c d h)))
]
  where
    two : (x y : Bool) → (x ≡ true → ⊥) → (y ≡ true → ⊥) → x ≡ y
    two true y p q = absurd (p refl)
    two false true p q = absurd (q refl)
    two false false p q = refl

module _ (m : Meaning) (t : FieldLaws m) where
  abbrev 𝕂 : Field (Element m)
  𝕂 = K m t

  abbrev el : ℕ → Element m
  el = ⟨◌⟩ m t

  pub horner_below : (p : List ℕ) (x i : ℕ) → horner m p x i < m.q
  unfolding horner
  horner_below p x zero = some m t
  horner_below p x (suc i) = t.add_below _ _

  el_horner : (p : List ℕ) (x i : ℕ) → el (horner m p x (suc i)) ≡ product 𝕂 (at m t p) (power 𝕂 (el x)) i
  unfolding horner at
  el_horner p x zero =
      el_add m t _ _ ∙ ap (𝕂.add (el (get_or p 0 0))) (el_mul m t _ _ ∙ ap (𝕂.mul (el x)) (el_zero m t) ∙ mul_zero 𝕂 (el x)) ∙ 𝕂.add_zero _
      ∙ sym (product_none 𝕂 (at m t p) (power 𝕂 (el x)) ∙ ap (𝕂.mul (el (get_or p 0 0))) (power_none 𝕂 (el x)) ∙ 𝕂.mul_one _)
  el_horner p x (suc i) =
      el_add m t _ _ ∙ 𝕂.add_comm _ _ ∙ ap (λ a. 𝕂.add a (el (get_or p (suc i) 0))) (el_mul m t _ _ ∙ ap (𝕂.mul (el x)) (el_horner p x i))
      ∙ sym (powers_more 𝕂 (at m t p) (el x) i)

  pub horner_value : (p : List ℕ) (x d : ℕ) → 0 < x → x < m.q → eqb (horner m p x (suc d)) 0 ≡ eqb (value m p (suc d) (m.inv x)) 0
  horner_value p x d h l =
      let nz = el_some m t x l (omega arith) in
      let whole = el_horner p x d ∙ powers_eval 𝕂 (at m t p) (el x) d nz in
      let there = el_value m t p (suc d) (m.inv x) ∙ ap (eval 𝕂 (suc d) (at m t p)) (el_inv m t x) in
      eqb_same _ 0 _ 0
      (λ e. el_none m t _ (value_below m t p (suc d) (m.inv x))
      (there ∙ cancel 𝕂 (power 𝕂 (el x) d) _ (power_nonzero 𝕂 (el x) d nz) (sym whole ∙ ap el e ∙ el_zero m t)))
      (λ e. el_none m t _ (horner_below p x (suc d))
      (whole ∙ ap (𝕂.mul (power 𝕂 (el x) d)) (sym there ∙ ap el e ∙ el_zero m t) ∙ mul_zero 𝕂 _))
