use Rattle.std.proofs.Common.{◌≡◌}
use Rattle.errors.proofs.Horner.{horner}
use Rattle.correcting.proofs.places.vanishes.Given as goal

abbrev pub invariant-loop-coefficient : goal.invariant-loop-coefficient
invariant-loop-coefficient g l = l.v ≡ horner g.F.Field.meaning l.polynomial l.x l.coefficient-index
