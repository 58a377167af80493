use Rattle.job_rules.proofs.Bounded.{counts_stay_low_lem}
use Rattle.job_rules.proofs.laws.counts_stay_low.Goals as goal

pub returns : goal.returns
returns c = counts_stay_low_lem
