use Rattle.std.proofs.Common.{◌≡◌, ◌<◌, length}
use Rattle.std.specs.List.{All}
use Rattle.guard.specs.Undo.{undo}
use Rattle.guard.proofs.Guard.drop.Given as goal

abbrev pub invariant-loop-change : goal.invariant-loop-change
invariant-loop-change l =
    (undo l.changes.items l.line ≡ undo l.initial.changes.items l.initial.line)
    × All (λ x. x.place < length l.line) l.changes.items

abbrev pub decreases-loop-change : goal.decreases-loop-change
decreases-loop-change l = length l.changes.items
