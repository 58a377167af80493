use Rattle.job_rules.proofs.Asking.{first_no_refuses_lem}
use Rattle.job_rules.proofs.laws.first_no_refuses.Goals as goal

pub returns : goal.returns
returns c = first_no_refuses_lem
