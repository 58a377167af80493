use Rattle.frames.proofs.Follow.{rows_follow_lem}
use Rattle.frames.proofs.rows_follow.Goals as goal

pub returns : goal.returns
returns c = rows_follow_lem
