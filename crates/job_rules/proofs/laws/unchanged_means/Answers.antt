use Rattle.job_rules.proofs.Since.{unchanged_means_lem}
use Rattle.job_rules.proofs.laws.unchanged_means.Goals as goal

pub returns : goal.returns
returns c = unchanged_means_lem
