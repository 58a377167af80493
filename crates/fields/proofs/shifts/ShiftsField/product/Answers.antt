use Rattle.std.proofs.Common.{◌≡◌, ℕ, ◌<◌, ◌≤◌, ◌^◌, ◌⊎◌, inl, inr, refl, sym, ◌∙◌, rules}
use Rattle.fields.specs.Laws.{Meaning, FieldLaws}
use Rattle.fields.specs.Binary.{binary}
use Rattle.fields.specs.Capped.{mul_in}
use Rattle.fields.specs.Computed.{elements, laws}
use Rattle.fields.specs.Fields.{binary_laws}
use Rattle.fields.proofs.shifts.ShiftsField.product.Goals as goal
use Rattle.fields.proofs.shifts.ShiftsField.product.Goals.{then-is_outside-via-then-is_outside, then-is_outside-via-else-is_outside+then-is_outside-2}

outside : (m : Meaning) → FieldLaws m → (a b : ℕ) → (m.q ≤ a) ⊎ (m.q ≤ b) → 0 ≡ m.mul a b
outside m t a b (inl h) = sym (t.mul_out a b h)
outside m t a b (inr h) = sym (t.mul_comm a b ∙ t.mul_out b a h)

pub returns-clause-value : goal.returns-clause-value
returns-clause-value g c =
    let m = g.M.Modulus.DEGREE in
    let p = g.M.Modulus.POLYNOMIAL in
    let ha : c.args.a < 2 ^ m = search rules in
    let hb : c.args.b < 2 ^ m = search rules in
    c.shift_product.ensures ∙ sym (mul_in (elements m p) (laws m p g.M.Modulus.tests) c.args.a c.args.b ha hb)

pub returns-then-is_outside-clause-value : goal.returns-then-is_outside-clause-value
returns-then-is_outside-clause-value g c =
    let m = g.M.Modulus.DEGREE in
    let p = g.M.Modulus.POLYNOMIAL in
    let out : (2 ^ m ≤ c.args.a) ⊎ (2 ^ m ≤ c.args.b) =
    elim c.then-is_outside.branch [
      | then-is_outside-via-then-is_outside w ↦ inl (w.if-is_outside.ensures.0 refl)
      | then-is_outside-via-else-is_outside+then-is_outside-2 w ↦ inr (w.if-is_outside-2.ensures.0 refl)
    ] in
    outside (binary m p) (binary_laws m p g.M.Modulus.small g.M.Modulus.tests) c.args.a c.args.b out
