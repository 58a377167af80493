use Rattle.job_rules.proofs.Tallied.{changes_are_tallies_lem}
use Rattle.job_rules.proofs.laws.changes_are_tallies.Goals as goal

pub returns : goal.returns
returns c = changes_are_tallies_lem
