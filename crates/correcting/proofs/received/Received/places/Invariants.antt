use Rattle.errors.specs.Places.{root_at}
use Rattle.correcting.proofs.SoFar.{SoFar}
use Rattle.correcting.proofs.received.Received.places.Given as goal

abbrev pub invariant-loop-place : goal.invariant-loop-place
invariant-loop-place g l = SoFar (root_at g.F.Field.meaning l.coefficients l.self.table.now) l.place l.places.items
