use Rattle.std.proofs.Common.{◌≡◌, ℕ, ◌+◌, List, length, get_or, sym, ap, ◌∙◌, subst, arith}
use Rattle.solving.specs.Sequences.{terms}
use Rattle.fields.specs.Laws.{power}
use Rattle.algebra.specs.Lines.{Elements}
use Rattle.reed_solomon.specs.declared.numbers.CodeNumbers.{CodeNumbers}
use Rattle.errors.specs.Places.{located_at}
use Rattle.errors.proofs.Decided.{table_elements}
use Rattle.errors.proofs.Weighed.{Left, Over, left_start, over_start, left_pass, over_pass, left_step, over_step, weighed}
use Rattle.correcting.proofs.received.WrongPlaces.error_value.Goals.{then-i-j, else-i-j}
use Rattle.correcting.proofs.received.WrongPlaces.error_value.Goals as goal

pub loop-i-init : goal.loop-i-init
loop-i-init g c =
    let m = g.F.Field.meaning in
    let t = g.met.F.Field.laws in
    let X = located_at c.args.self.now.received.now.table.now c.args.self.now.places.now in
    let w = length c.args.self.now.places.now in
    (c.requires.elements, left_start m t X w c.args.j c.args.sums.now, over_start m t X w c.args.j)

pub loop-i-preserved : goal.loop-i-preserved
loop-i-preserved g c =
    let m = g.F.Field.meaning in
    let t = g.met.F.Field.laws in
    let x = c.args.self.now.received.now in
    let below : Elements m x.table.now = table_elements m t x.code.now.numbers x.line.now x.table.now (terms x.syndromes.now) x.known in
    let X = located_at x.table.now c.args.self.now.places.now in
    let n = length c.args.self.now.places.now in
    let s = c.args.sums.now in
    let l = c.loop-i in
    let a = c.if-i-j in
    elim a.branch [
      | then-i-j w ↦
          (let ne : ¬ (l.i ≡ c.args.j) = λ e. omega (arith, w.if-i-j.true) in
          let sum-is = w.sum.ensures.value (below _ (c.args.self.now.inside c.args.j c.requires.within)) (below _ (c.args.self.now.inside l.i (omega arith))) in (
            subst (λ (xs : List ℕ). Elements m xs) (sym w.sums-is) w.peel.ensures.elements,
            subst (λ (xs : List ℕ). Left m t X n c.args.j s xs (l.i + 1)) (sym w.sums-is)
                (left_step m t X n c.args.j s l.sums w.peel.new.s l.i ne l.auto.sums w.peel.ensures.sums l.invariant.1),
            subst (λ (v : ℕ). Over m t X n c.args.j v (l.i + 1)) (sym w.over-is)
                (over_step m t X n c.args.j l.over w.product-over.result l.i ne (w.product-over.ensures.value ∙ ap (m.mul l.over) sum-is) l.invariant.2),
          ))
      | else-i-j w ↦
          (let e : l.i ≡ c.args.j = omega (arith, w.if-i-j.false) in (
            subst (λ (xs : List ℕ). Elements m xs) (sym w.sums-is) l.invariant.0,
            subst (λ (xs : List ℕ). Left m t X n c.args.j s xs (l.i + 1)) (sym w.sums-is) (left_pass m t X n c.args.j s l.sums l.i e l.invariant.1),
            subst (λ (v : ℕ). Over m t X n c.args.j v (l.i + 1)) (sym w.over-is) (over_pass m t X n c.args.j l.over l.i e l.invariant.2),
          ))
    ]

pub returns-clause-value : goal.returns-clause-value
returns-clause-value g c =
    let m = g.F.Field.meaning in
    let t = g.met.F.Field.laws in
    let x = c.args.self.now.received.now in
    let below : Elements m x.table.now = table_elements m t x.code.now.numbers x.line.now x.table.now (terms x.syndromes.now) x.known in
    let X = located_at x.table.now c.args.self.now.places.now in
    let w = length c.args.self.now.places.now in
    let b : c.numbers-b.result.root ≡ x.code.now.numbers.root = ap (λ (k : CodeNumbers). k.root) c.numbers-b.ensures in
    let e : c.loop-i.i ≡ w = omega arith in
    let l : Left m t X w c.args.j c.args.sums.now c.loop-i.sums w = subst (λ (n : ℕ). Left m t X w c.args.j c.args.sums.now c.loop-i.sums n) e c.loop-i.invariant.1 in
    let o : Over m t X w c.args.j c.loop-i.over w = subst (λ (n : ℕ). Over m t X w c.args.j c.loop-i.over n) e c.loop-i.invariant.2 in
    λ Y h.
    c.product-2.ensures.value
    ∙ ap (m.mul (get_or c.loop-i.sums 0 0)) (c.inverse.ensures.value ∙ ap m.inv (c.product.ensures.value ∙ ap (m.mul c.loop-i.over) (c.power.ensures ∙ ap (power m.mul (X c.args.j)) b)))
    ∙ weighed m t X w c.args.j c.args.sums.now c.loop-i.sums c.loop-i.over x.code.now.numbers.root c.requires.long c.requires.within
    (λ i li. below _ (c.args.self.now.inside i li)) l o Y h
