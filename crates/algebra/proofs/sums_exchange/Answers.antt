use Rattle.algebra.proofs.Theorems.{exchange}
use Rattle.algebra.proofs.sums_exchange.Goals as goal

pub returns : goal.returns
returns c = exchange
