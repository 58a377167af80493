use Rattle.std.proofs.Common.{◌-◌}
use Rattle.jobs.specs.States.{row_meaning, column_meaning, state}
use Rattle.jobs.proofs.Running.{Going}
use Rattle.jobs.proofs.job.Job.run_passes.Given as goal

abbrev pub invariant-loop-kind : goal.invariant-loop-kind
invariant-loop-kind g l =
    Going (row_meaning g.P.LineCode l.initial.self) (column_meaning g.Q.LineCode l.initial.self) (row_meaning g.P.LineCode l.self) (column_meaning g.Q.LineCode l.self) l.limit l.passes l.kind
    (state g.P.LineCode g.Q.LineCode l.initial.self l.initial.frame) (state g.P.LineCode g.Q.LineCode l.self l.frame) l.effort.decodings l.effort.changes

abbrev pub decreases-loop-kind : goal.decreases-loop-kind
decreases-loop-kind g l = l.limit - l.passes
