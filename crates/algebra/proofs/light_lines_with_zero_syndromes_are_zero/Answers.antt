use Rattle.algebra.proofs.Theorems.{minimum_distance}
use Rattle.algebra.proofs.light_lines_with_zero_syndromes_are_zero.Goals as goal

pub returns : goal.returns
returns c = minimum_distance
