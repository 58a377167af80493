use Rattle.std.proofs.Common.{◌≡◌, ℕ, ◌+◌, ◌-◌, ◌<◌, length, get_or, sym, ap, ◌∙◌, subst, ap₂, add-one, arith}
use Rattle.std.proofs.lemmas.Grind.{common_steps}
use Rattle.fields.specs.Laws.{power}
use Rattle.algebra.specs.Sums.{sums}
use Rattle.algebra.specs.Lines.{term, syndrome}
use Rattle.algebra.proofs.Numbers.{sums_none, sums_more, sums_below}
use Rattle.algebra.proofs.Lines.{term_made}
use Rattle.reed_solomon.proofs.syndromes.syndromes.Goals as goal

pub loop-p-init : goal.loop-p-init
loop-p-init g c = λ k h.
    let e : get_or c.fill.new.self k 0 ≡ 0 = grind (arith, common_steps) in
    e ∙ sym (sums_none g.F.Field.meaning _)

pub enter-requires-clause-elements : goal.enter-requires-clause-elements
enter-requires-clause-elements g c =
    let m = g.F.Field.meaning in
    λ k h. subst (λ (n : ℕ). n < m.q) (sym (c.loop-p.invariant k h)) (sums_below m g.met.F.Field.laws _ c.loop-p.p)

pub loop-p-preserved : goal.loop-p-preserved
loop-p-preserved g c =
    let m = g.F.Field.meaning in
    let t = g.met.F.Field.laws in
    let line = c.args.line.now in
    let p = c.loop-p.p in
    let x = get_or c.args.table.now p 0 in
    λ k h.
    c.enter.ensures k (omega arith)
    ∙ ap₂ m.add (c.loop-p.invariant k (omega arith))
    (ap (λ y. m.mul y (power m.mul x k)) (c.product-y.ensures.value ∙ ap (m.mul (get_or line p 0)) c.power.ensures)
    ∙ term_made m t line c.args.b k p x (c.requires.located p (omega arith) ∙ ap (λ n. power m.mul m.g (n - 1 - p)) c.requires.long))
    ∙ sym (sums_more m (term m line (c.args.b + k)) p)
    ∙ ap (sums m (term m line (c.args.b + k))) (sym (add-one p))

pub returns : goal.returns
unfolding syndrome
returns g c =
    let e : c.loop-p.p ≡ length c.args.line.now = omega arith in
    λ k h. c.loop-p.invariant k (omega arith) ∙ ap (sums g.F.Field.meaning _) e
