use Rattle.std.proofs.Common.{◌<◌, ◌≤◌, length, ap, ◌∙◌, arith}
use Rattle.std.proofs.lemmas.List.{get_or_default}
use Rattle.job_rules.specs.Passes.{start}
use Rattle.job_rules.proofs.Promised.{promised}
use Rattle.jobs.specs.States.{state}
use Rattle.jobs.proofs.Performing.{nobody, requests, along_none, along_more, along_all, along_given, answers_so_far, gives_same}
use Rattle.jobs.proofs.replaying.replay.Goals as goal

pub loop-entry-init : goal.loop-entry-init
loop-entry-init g c = along_none _ _ _ _

pub loop-entry-preserved : goal.loop-entry-preserved
loop-entry-preserved g c =
    let k = c.loop-entry.entry-index in
    let within : k < length c.loop-entry.list = omega (arith, c.loop-entry.auto.list) in
    let f = c.fill.ensures in
    along_more _ _ _ _ c.args.list.now c.loop-entry.list k _ (state g.P.LineCode g.Q.LineCode c.loop-entry.job c.loop-entry.frame) c.loop-entry.invariant
    _ _ (state g.P.LineCode g.Q.LineCode c.fill.new.job c.fill.new.frame) _ c.fill.new.entry f.reply within (get_or_default c.loop-entry.list k _ nobody within) f.kept f.given f.called.does f.called.rows f.called.columns

pub returns : goal.returns
returns g c =
    let x = c.args.row_code in
    let y = c.args.column_code in
    let p = g.P.LineCode.meaning x in
    let q = g.Q.LineCode.meaning y in
    let m = g.P.LineCode.count x in
    let n = g.Q.LineCode.count y in
    let frame = c.args.frame.now in
    let made = c.new-job.ensures in
    let u = c.loop-entry.invariant in
    let past : length c.loop-entry.list ≤ c.loop-entry.entry-index = omega (arith, c.loop-entry.auto.list) in
    let end = state g.P.LineCode g.Q.LineCode c.loop-entry.job c.loop-entry.frame in
    let all = along_all _ _ _ _ c.args.list.now c.loop-entry.list c.loop-entry.entry-index _ end u past in
    let answers = answers_so_far _ _ _ _ c.args.list.now c.loop-entry.list c.loop-entry.entry-index _ end u in
    let from = gives_same _ p _ q (requests c.args.list.now) _ (start p q frame m n) answers end (ap g.P.LineCode.meaning made.row_code) (ap g.Q.LineCode.meaning made.column_code) (made.new frame) all in
    record {
      rows = u.row ∙ ap g.P.LineCode.meaning made.row_code;
      columns = u.column ∙ ap g.Q.LineCode.meaning made.column_code;
      kept = u.kept;
      answers = answers;
      given = along_given _ _ _ _ c.args.list.now c.loop-entry.list c.loop-entry.entry-index _ end u past;
      promise = promised p q (g.met.P.LineCode.lawful x) (g.met.Q.LineCode.lawful y) frame m n (requests c.args.list.now) answers end from;
    }
