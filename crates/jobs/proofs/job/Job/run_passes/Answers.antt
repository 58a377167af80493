use Rattle.std.proofs.Common.{sym, ◌∙◌, arith}
use Rattle.jobs.specs.States.{state}
use Rattle.jobs.proofs.Running.{going_none, going_more, going_ends, going_limit, so_far, ends_whole, ends_quiet, ends_limit, answered}
use Rattle.jobs.proofs.job.Job.run_passes.Goals as goal

pub loop-kind-init : goal.loop-kind-init
loop-kind-init g c = let zero = c.default-effort.ensures in rw (zero.0, zero.1) (going_none _ _ _ _)

pub loop-kind-preserved : goal.loop-kind-preserved
loop-kind-preserved g c =
    let v = c.decode_open-made in
    going_more _ _ _ _ c.args.limit c.loop-kind.passes c.loop-kind.kind _ (state g.P.LineCode g.Q.LineCode c.loop-kind.self c.loop-kind.frame) _ _ c.loop-kind.invariant
    _ _ c.other-kind.result _ v.result c.count.result (omega arith) c.count.ensures.count c.if-count-eq0.false v.ensures.made c.other-kind.ensures
    v.ensures.few v.ensures.low v.ensures.rows v.ensures.columns

pub returns-then-count-eq0-2 : goal.returns-then-count-eq0-2
returns-then-count-eq0-2 g c =
    let u = c.loop-kind.invariant in
    let s = state g.P.LineCode g.Q.LineCode c.loop-kind.self c.loop-kind.frame in
    let none = sym c.count.ensures.count ∙ c.if-count-eq0.true in
    let free = sym c.count-then-count-eq0.ensures.count ∙ c.if-count-eq0-2.true in
    record {
      rows = u.row;
      columns = u.column;
      work = so_far _ _ _ _ _ c.loop-kind.passes _ _ _ c.loop-kind.effort.decodings c.loop-kind.effort.changes u;
      runs = going_ends _ _ _ _ _ _ _ _ s _ _ u none;
      is = answered s _ _ (ends_whole s none free);
    }

pub returns-else-count-eq0-2 : goal.returns-else-count-eq0-2
returns-else-count-eq0-2 g c =
    let u = c.loop-kind.invariant in
    let s = state g.P.LineCode g.Q.LineCode c.loop-kind.self c.loop-kind.frame in
    let none = sym c.count.ensures.count ∙ c.if-count-eq0.true in
    record {
      rows = u.row;
      columns = u.column;
      work = so_far _ _ _ _ _ c.loop-kind.passes _ _ _ c.loop-kind.effort.decodings c.loop-kind.effort.changes u;
      runs = going_ends _ _ _ _ _ _ _ _ s _ _ u none;
      is = answered s _ _ (ends_quiet s none (λ e. c.if-count-eq0-2.false (c.count-then-count-eq0.ensures.count ∙ e)));
    }

pub returns-then-passes-limit : goal.returns-then-passes-limit
returns-then-passes-limit g c =
    let u = c.loop-kind.invariant in
    let s = state g.P.LineCode g.Q.LineCode c.loop-kind.self c.loop-kind.frame in
    record {
      rows = u.row;
      columns = u.column;
      work = so_far _ _ _ _ _ c.loop-kind.passes _ _ _ c.loop-kind.effort.decodings c.loop-kind.effort.changes u;
      runs = going_limit _ _ _ _ _ _ _ _ s _ _ u c.if-passes-limit.true;
      is = answered s _ _ (ends_limit s (λ e. c.if-count-eq0.false (c.count.ensures.count ∙ e)));
    }
