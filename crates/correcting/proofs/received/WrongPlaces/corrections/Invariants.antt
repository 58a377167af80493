use Rattle.std.proofs.Common.{◌≡◌, ℕ, ◌<◌, get_or, take}
use Rattle.solving.specs.Sequences.{terms}
use Rattle.errors.specs.Places.{IsCorrected}
use Rattle.correcting.specs.Corrections.{places_of, values_of}
use Rattle.correcting.proofs.received.WrongPlaces.corrections.Given as goal

abbrev pub invariant-loop-j : goal.invariant-loop-j
invariant-loop-j g l =
    (places_of l.corrections.items ≡ take l.j l.self.places.now)
    × ((j : ℕ) → j < l.j → IsCorrected g.F.Field.meaning l.self.received.now.code.now.numbers.root l.self.received.now.line.now l.self.received.now.table.now
    (terms l.self.received.now.syndromes.now) l.self.places.now j (get_or (values_of l.corrections.items) j 0))
