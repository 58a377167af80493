use Rattle.job_rules.proofs.Thorough.{reads_all}
use Rattle.job_rules.proofs.laws.reader_decodes_all.Goals as goal

pub returns : goal.returns
returns c = reads_all
