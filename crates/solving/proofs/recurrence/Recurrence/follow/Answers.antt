use Rattle.std.proofs.Common.{◌≡◌, ◌+◌, length, sym, subst, inl, inr, arith}
use Rattle.solving.specs.declared.recurrence.Recurrence.{Recurrence}
use Rattle.solving.proofs.Going.{Going, started, kept, grown, located}
use Rattle.solving.proofs.recurrence.Recurrence.follow.Goals.{then-d-ne0+then-self, else-d-ne0, else-d-ne0-via-then-d-ne0+else-self, else-d-ne0-via-else-d-ne0}
use Rattle.solving.proofs.recurrence.Recurrence.follow.Goals as goal

pub loop-r-init : goal.loop-r-init
loop-r-init g c = started g.F.Field.meaning g.met.F.Field.laws c.args.s.now c.cut.new.self c.cut.ensures

pub loop-r-preserved : goal.loop-r-preserved
loop-r-preserved g c =
    let m = g.F.Field.meaning in
    let t = g.met.F.Field.laws in
    let s = c.args.s.now in
    let l = c.loop-r in
    let d = c.discrepancy-d.result in
    let x = l.self in
    elim c.if-d-ne0.branch [
      | then-d-ne0+then-self w ↦
          subst (λ (y : Recurrence). Going m t s y (l.r + 1)) (sym w.self-is)
          (grown m t s x w.grow.new.self l.r d l.invariant (omega arith) c.discrepancy-d.ensures
          (omega (arith, w.if-self.true)) (omega (arith, w.if-d-ne0.true)) w.grow.ensures)
      | else-d-ne0 w ↦
          subst (λ (y : Recurrence). Going m t s y (l.r + 1)) (sym w.self-is)
          (kept m t s x w.keep.new.self l.r d l.invariant (omega arith) c.discrepancy-d.ensures
          (elim w.else-d-ne0.branch [
            | else-d-ne0-via-then-d-ne0+else-self v ↦ inl (omega (arith, v.if-self.false))
            | else-d-ne0-via-else-d-ne0 v ↦ inr (omega (arith, v.if-d-ne0.false))
          ]) w.keep.ensures)
    ]

pub returns-clause-most : goal.returns-clause-most
returns-clause-most g c = omega (arith, c.loop-r.invariant.sizes, c.loop-r.invariant.some)

pub returns-clause-locates : goal.returns-clause-locates
returns-clause-locates g c =
    let e : c.loop-r.r ≡ length c.args.s.now = omega arith in
    located g.F.Field.meaning g.met.F.Field.laws c.args.s.now c.loop-r.self c.loop-r.r e c.loop-r.invariant
