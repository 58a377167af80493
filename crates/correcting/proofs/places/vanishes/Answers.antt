use Rattle.std.proofs.Common.{◌≡◌, ℕ, suc, ◌-◌, ◌<◌, eqb, length, get_or, sym, ap, ◌∙◌, subst, add-one, arith}
use Rattle.algebra.specs.Sums.{value}
use Rattle.errors.proofs.Horner.{horner, horner_none, horner_more, horner_value}
use Rattle.correcting.proofs.places.vanishes.Goals as goal

pub loop-coefficient-init : goal.loop-coefficient-init
loop-coefficient-init g c = horner_none g.F.Field.meaning _ _

pub loop-coefficient-preserved : goal.loop-coefficient-preserved
loop-coefficient-preserved g c =
    let m = g.F.Field.meaning in
    let t = g.met.F.Field.laws in
    let l = c.loop-coefficient in
    let i = l.coefficient-index in
    let p = c.args.polynomial.now in
    let hp : c.product.result < m.q = subst (λ (n : ℕ). n < m.q) (sym c.product.ensures.value) (t.mul_below _ _) in
    c.sum-v.ensures.value (c.requires.elements i (omega arith)) hp
    ∙ ap (m.add (get_or p i 0)) (c.product.ensures.value ∙ ap (m.mul c.args.x) l.invariant)
    ∙ horner_more m p c.args.x i ∙ ap (horner m p c.args.x) (sym (add-one i))

pub returns : goal.returns
returns g c =
    let m = g.F.Field.meaning in
    let t = g.met.F.Field.laws in
    let p = c.args.polynomial.now in
    let x = c.args.x in
    let d = length p - 1 in
    let e : c.loop-coefficient.coefficient-index ≡ suc d = omega (arith, c.requires.some) in
    let n : suc d ≡ length p = omega (arith, c.requires.some) in
    ap (λ v. eqb v 0) (c.loop-coefficient.invariant ∙ ap (horner m p x) e)
    ∙ horner_value m t p x d c.requires.nonzero c.requires.element
    ∙ ap (λ k. eqb (value m p k (m.inv x)) 0) n
