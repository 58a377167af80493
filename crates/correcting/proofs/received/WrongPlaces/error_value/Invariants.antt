use Rattle.std.proofs.Common.{length}
use Rattle.algebra.specs.Lines.{Elements}
use Rattle.errors.specs.Places.{located_at}
use Rattle.errors.proofs.Weighed.{Left, Over}
use Rattle.correcting.proofs.received.WrongPlaces.error_value.Given as goal

abbrev pub invariant-loop-i : goal.invariant-loop-i
invariant-loop-i g l =
    let m = g.F.Field.meaning in
    let t = g.met.F.Field.laws in
    let X = located_at l.self.received.now.table.now l.self.places.now in
    Elements m l.sums
    × Left m t X (length l.self.places.now) l.j l.initial.sums l.sums l.i
    × Over m t X (length l.self.places.now) l.j l.over l.i
