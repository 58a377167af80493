use Rattle.std.proofs.Common.{◌≡◌}
use Rattle.fields.specs.Laws.{power}
use Rattle.reed_solomon.proofs.syndromes.power.Given as goal

abbrev pub invariant-loop-i : goal.invariant-loop-i
invariant-loop-i g l = l.r ≡ power g.F.Field.meaning.mul l.x l._i
