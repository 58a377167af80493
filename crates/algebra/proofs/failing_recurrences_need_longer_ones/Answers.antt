use Rattle.algebra.proofs.Theorems.{shortest_recurrences}
use Rattle.algebra.proofs.failing_recurrences_need_longer_ones.Goals as goal

pub returns : goal.returns
returns c = shortest_recurrences
