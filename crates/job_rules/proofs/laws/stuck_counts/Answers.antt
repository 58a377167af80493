use Rattle.job_rules.proofs.Numbers.{stuck_counts_lem}
use Rattle.job_rules.proofs.laws.stuck_counts.Goals as goal

pub returns : goal.returns
returns c = stuck_counts_lem
