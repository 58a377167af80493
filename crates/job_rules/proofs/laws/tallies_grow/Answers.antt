use Rattle.job_rules.proofs.Tallied.{tallies_grow_lem}
use Rattle.job_rules.proofs.laws.tallies_grow.Goals as goal

pub returns : goal.returns
returns c = tallies_grow_lem
