use Rattle.algebra.proofs.Theorems.{functional_over_syndromes}
use Rattle.algebra.proofs.syndromes_are_a_functional.Goals as goal

pub returns : goal.returns
returns c = functional_over_syndromes
