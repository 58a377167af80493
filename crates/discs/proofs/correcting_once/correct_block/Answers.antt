use Rattle.discs.proofs.Once.{ran_once}
use Rattle.discs.proofs.correcting_once.correct_block.Goals as goal

pub returns : goal.returns
returns g c =
    let made = c.new-job.ensures in
    ran_once g.P.LineCode g.Q.LineCode c.args.rows c.args.columns _ c.args.frame.now c.run-run.new.frame c.new-job.result c.run-run.new.self c.run-run.result
    (g.met.P.LineCode.lawful c.args.rows) (g.met.Q.LineCode.lawful c.args.columns) made.row_code made.column_code (made.new c.args.frame.now) c.run-run.ensures
