use Rattle.std.proofs.Common.{refl, ap, ◌∙◌, arith}
use Rattle.job_rules.specs.Records.{on, crossing}
use Rattle.passes.proofs.Opening.{none_opened, opened_more, opened_same}
use Rattle.passes.proofs.lines.open_changed.Goals as goal

pub loop-k-init : goal.loop-k-init
loop-k-init c = (none_opened _, refl)

pub loop-k-preserved : goal.loop-k-preserved
loop-k-preserved c =
    let k = c.loop-k.k in
    let xs = c.args.old.now in
    let ys = c.args.new.now in
    let kind = c.args.kind in
    let rs = on kind c.loop-k.lines in
    let rs₀ = on kind c.args.lines.now in
    elim c.if-old-k.branch [
      | goal.then-old-k w ↦ (
        ap (on kind) w.lines-is ∙ w.open.ensures.here ∙ opened_more k xs ys rs rs₀ (omega arith) (omega arith) c.loop-k.invariant.0 w.if-old-k.true,
        ap (on (crossing kind)) w.lines-is ∙ w.open.ensures.other ∙ c.loop-k.invariant.1,
      )
      | goal.else-old-k w ↦ (
        ap (on kind) w.lines-is ∙ opened_same k xs ys rs rs₀ (omega arith) (omega arith) c.loop-k.invariant.0 w.if-old-k.false,
        ap (on (crossing kind)) w.lines-is ∙ c.loop-k.invariant.1,
      )
    ]
