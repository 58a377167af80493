use Rattle.std.proofs.Common.{refl, ◌∙◌}
use Rattle.jobs.proofs.Delivering.{redelivered}
use Rattle.jobs.proofs.job.Job.redeliver.Goals as goal

pub returns : goal.returns
returns g c =
    let j = c.args.self.now in
    let p = g.P.LineCode.meaning j.row_code in
    let q = g.Q.LineCode.meaning j.column_code in
    let v = c.put_row-changed in
    record {
      rows = refl;
      columns = refl;
      does = redelivered p q c.number_of-height.result c.args.row v.result j.lines v.new.lines c.args.frame.now v.new.frame c.args.bytes.now j.counts
          (g.P.LineCode.count j.row_code) (g.Q.LineCode.count j.column_code) c.number_of-height.ensures.value c.in_ok-check_frame.ensures c.in_ok-check_line.ensures
          (c.if-bytes-number_of.false ∙ c.number_of.ensures.value) c.in_ok-check_calls.ensures v.ensures.delivers v.ensures.changes;
    }
