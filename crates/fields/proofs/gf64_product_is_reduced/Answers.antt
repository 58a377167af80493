use mathlib.Core.Path.{refl}
use lib.Dec.{lit<}
use Rattle.fields.specs.Fields.{gf64_tests}
use Rattle.fields.proofs.Reduction.{reduced}
use Rattle.fields.proofs.gf64_product_is_reduced.Goals as goal

pub returns : goal.returns
returns c = reduced 6 67 gf64_tests (lit< tt) refl
