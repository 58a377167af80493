use Rattle.std.proofs.Common.{arith}
use Rattle.guard.proofs.Undone.{undo_set}
use Rattle.guard.proofs.Guard.set.Goals as goal

pub returns-clause-restores : goal.returns-clause-restores
returns-clause-restores c = grind (arith, undo_set)
