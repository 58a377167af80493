use Rattle.std.proofs.Common.{◌≡◌}
use Rattle.guard.specs.Guarded.{bytes, restored, count}
use Rattle.errors.specs.Places.{patched}
use Rattle.correcting.specs.Corrections.{places_of, values_of}
use Rattle.correcting.proofs.mending.apply.Given as goal

abbrev pub invariant-loop-correction : goal.invariant-loop-correction
invariant-loop-correction g l =
    (l.guard.line.ghost_name ≡ l.initial.guard.line.ghost_name)
    × (count l.guard ≡ l.correction-index)
    × (restored l.guard ≡ restored l.initial.guard)
    × (bytes l.guard ≡ patched (bytes l.initial.guard) (places_of l.corrections) (values_of l.corrections) l.correction-index)
