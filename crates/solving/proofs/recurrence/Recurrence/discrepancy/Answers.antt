use Rattle.std.proofs.Common.{◌≡◌, ℕ, suc, ◌+◌, ◌-◌, ◌<◌, length, get_or, take, sym, ap, ◌∙◌, subst, ap₂, add-one, arith, length-take, get_or-take}
use Rattle.algebra.specs.Sums.{sums}
use Rattle.solving.specs.Steps.{coefficient}
use Rattle.algebra.proofs.Numbers.{sums_none, sums_more, sums_below}
use Rattle.solving.proofs.recurrence.Recurrence.discrepancy.Goals as goal

pub loop-i-init : goal.loop-i-init
loop-i-init g c = sym (sums_none g.F.Field.meaning _)

pub loop-i-preserved : goal.loop-i-preserved
loop-i-preserved g c =
    let m = g.F.Field.meaning in
    let t = g.met.F.Field.laws in
    let l = c.loop-i in
    let p = c.args.self.now.locator.items in
    let s = c.args.s.now in
    let n = length-take (c.args.r + 1) c.deref.result.now in
    let f : ℕ → ℕ = λ i. m.mul (get_or p i 0) (get_or s (c.args.r - i) 0) in
    let x : get_or (take (c.args.r + 1) c.deref.result.now) l.i 0 ≡ get_or p l.i 0 = get_or-take (c.args.r + 1) c.deref.result.now l.i 0 (omega arith) ∙ ap (λ xs. get_or xs l.i 0) c.deref.ensures.0 in
    let hv : l.d < m.q = subst (λ (n : ℕ). n < m.q) (sym l.invariant) (sums_below m t f l.i) in
    let hp : c.product.result < m.q = subst (λ (n : ℕ). n < m.q) (sym c.product.ensures.value) (t.mul_below _ _) in
    c.sum-d.ensures.value hv hp
    ∙ ap₂ m.add l.invariant (c.product.ensures.value ∙ ap (λ a. m.mul a (get_or s (c.args.r - l.i) 0)) x)
    ∙ sym (sums_more m f l.i) ∙ ap (sums m f) (sym (add-one l.i))

pub returns : goal.returns
unfolding coefficient
returns g c =
    let n = length-take (c.args.r + 1) c.deref.result.now in
    let long = ap length c.deref.ensures.0 in
    let e : c.loop-i.i ≡ suc c.args.r = omega (arith, c.requires.first) in
    c.loop-i.invariant ∙ ap (sums g.F.Field.meaning _) e
