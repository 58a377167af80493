use Rattle.std.proofs.Common.{◌+◌, ◌-◌, ◌*◌, take, drop, ap, ◌∙◌, length, arith}
use Rattle.job_rules.specs.declared.records.Kind.TheVariants.{Column}
use Rattle.job_rules.specs.Records.{on, tallies}
use Rattle.job_rules.proofs.Differ.{differ_le}
use Rattle.job_rules.proofs.Tallies.{wd_tallies}
use Rattle.passes.proofs.Redelivering.{delivery}
use Rattle.passes.proofs.redelivery.put_row.Goals as goal

pub returns-clause-few : goal.returns-clause-few
returns-clause-few c =
    let w = length c.args.bytes.now in
    let i = c.args.i in
    omega (arith, c.replace.ensures.changes, differ_le (take (i * w + w - i * w) (drop (i * w) c.args.frame.now)) c.args.bytes.now, c.requires.short)

pub returns-clause-delivers : goal.returns-clause-delivers
returns-clause-delivers c =
    let w = length c.args.bytes.now in
    let i = c.args.i in
    let r = c.replace.ensures in
    delivery w c.args.height i (i * w + w - i * w) c.replace.result c.args.frame.now c.replace.new.line c.args.bytes.now c.args.lines.now c.replace.new.lines
    (omega arith) c.requires.size c.requires.within (ap length r.after) r.after r.changes r.own r.cross

pub returns-clause-columns : goal.returns-clause-columns
returns-clause-columns c = ap tallies c.replace.ensures.cross ∙ wd_tallies _ c.args.bytes.now (on Column c.args.lines.now)
