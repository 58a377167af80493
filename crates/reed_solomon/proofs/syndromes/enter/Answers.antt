use Rattle.std.proofs.Common.{ℕ, ◌<◌, ◌≢◌, length, get_or, sym, ◌∙◌, subst, ap₂, le_refl, arith, get_or-set_other, get_or-set_same, below_more}
use Rattle.algebra.proofs.Lines.{power_step}
use Rattle.reed_solomon.proofs.syndromes.enter.Goals as goal

pub loop-sum-preserved : goal.loop-sum-preserved
loop-sum-preserved g c =
    let m = g.F.Field.meaning in
    let t = g.met.F.Field.laws in
    let l = c.loop-sum in
    let lt : l.sum-index < length l.s = omega arith in
    let was = l.invariant.2 l.sum-index (le_refl _) in
    let hv : l.v < m.q = subst (λ (n : ℕ). n < m.q) (sym l.invariant.0) (t.mul_below _ _) in
    let hs : get_or l.s l.sum-index 0 < m.q = subst (λ (n : ℕ). n < m.q) (sym was) (c.requires.elements l.sum-index (omega arith)) in (
      c.product-v.ensures.value ∙ power_step m t c.args.y c.args.x l.sum-index l.v l.invariant.0,
      below_more _ _
          (λ k h. let ne : k ≢ l.sum-index = omega arith in rw get_or-set_other (l.invariant.1 k h))
          (rw get_or-set_same (c.sum.ensures.value hs hv ∙ ap₂ m.add was l.invariant.0)),
      λ k h. let ne : k ≢ l.sum-index = omega arith in rw get_or-set_other (l.invariant.2 k (omega arith)),
    )
