use Rattle.algebra.proofs.Theorems.{few_roots}
use Rattle.algebra.proofs.polynomials_have_few_roots.Goals as goal

pub returns : goal.returns
returns c = few_roots
