use Rattle.job_rules.proofs.FirstPass.{first_row_pass}
use Rattle.job_rules.proofs.laws.first_row_pass_restores.Goals as goal

pub returns : goal.returns
returns c = first_row_pass
