use Rattle.solving.proofs.Going.{Going}
use Rattle.solving.proofs.recurrence.Recurrence.follow.Given as goal

abbrev pub invariant-loop-r : goal.invariant-loop-r
invariant-loop-r g l = Going g.F.Field.meaning g.met.F.Field.laws l.s l.self l.r
