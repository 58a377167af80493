use Rattle.job_rules.proofs.Exact.{pinned}
use Rattle.job_rules.proofs.laws.promise_leaves_no_choice.Goals as goal

pub returns : goal.returns
returns c = pinned
