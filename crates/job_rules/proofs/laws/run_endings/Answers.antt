use Rattle.job_rules.proofs.Ends.{run_endings_lem}
use Rattle.job_rules.proofs.laws.run_endings.Goals as goal

pub returns : goal.returns
returns c = run_endings_lem
