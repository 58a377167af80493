use Rattle.std.proofs.Common.{◌≡◌, ◌+◌, length, take}
use Rattle.fields.specs.Laws.{power}
use Rattle.algebra.specs.Lines.{Elements}
use Rattle.coding.proofs.Register.{Multiplied}
use Rattle.coding.proofs.division.generator.Given as goal

abbrev pub invariant-loop-i : goal.invariant-loop-i
invariant-loop-i g l =
    let m = g.F.Field.meaning in
    (length l.g ≡ 33)
    × Elements m (take (l.n + 1) l.g)
    × (l.z ≡ power m.mul m.g (l.b + l._i))
    × Multiplied m l.b (take (l.n + 1) l.g) l._i
