use mathlib.Core.Path.{refl}
use lib.Dec.{lit<}
use Rattle.fields.specs.Fields.{disc_tests}
use Rattle.fields.proofs.Reduction.{reduced}
use Rattle.fields.proofs.disc_product_is_reduced.Goals as goal

pub returns : goal.returns
returns c = reduced 8 285 disc_tests (lit< tt) refl
