use Rattle.std.proofs.Common.{◌≡◌, ℕ, ◌<◌, ◌⊎◌, inl, inr, sym, ap, ◌∙◌, arith}
use Rattle.fields.specs.Binary.{disc}
use Rattle.fields.specs.Fields.{disc_tests, disc_laws}
use Rattle.fields.proofs.Powers.{product_is}
use Rattle.fields.proofs.tables.DiscTablesField.product.Goals as goal

zero_product : (a b : ℕ) → (a ≡ 0) ⊎ (b ≡ 0) → 0 ≡ disc.mul a b
zero_product a b (inl z) = sym (ap (λ n. disc.mul n b) z ∙ disc_laws.mul_comm 0 b ∙ disc_laws.mul_zero b)
zero_product a b (inr z) = sym (ap (disc.mul a) z ∙ disc_laws.mul_zero a)

pub returns-then-a-eq0-clause-value : goal.returns-then-a-eq0-clause-value
returns-then-a-eq0-clause-value c = zero_product c.args.a c.args.b (elim c.then-a-eq0.either [ inl z ↦ inl z | inr h ↦ inr h.1 ])

pub returns-clause-value : goal.returns-clause-value
returns-clause-value c =
    let some-a : 0 < c.args.a = omega arith in
    let some-b : 0 < c.args.b = omega arith in
    c.power.ensures ∙ product_is 8 285 disc_tests disc_laws c.args.a c.args.b _ _ (c.logarithm.ensures.value some-a) (c.logarithm-2.ensures.value some-b)
