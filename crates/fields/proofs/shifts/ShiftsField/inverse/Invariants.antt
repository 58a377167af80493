use Rattle.std.proofs.Common.{◌≡◌, ◌-◌, ◌≤◌}
use Rattle.fields.specs.Laws.{power}
use Rattle.fields.specs.Binary.{product}
use Rattle.fields.proofs.shifts.ShiftsField.inverse.Given as goal

abbrev pub invariant-loop-k : goal.invariant-loop-k
invariant-loop-k g l = (2 ≤ l._k) × (l.r ≡ power (product g.M.Modulus.DEGREE g.M.Modulus.POLYNOMIAL) l.a (l._k - 2))
