use Rattle.jobs.specs.States.{row_meaning, column_meaning, state}
use Rattle.jobs.proofs.Performing.{Along}
use Rattle.jobs.proofs.replaying.replay.Given as goal

abbrev pub invariant-loop-entry : goal.invariant-loop-entry
invariant-loop-entry g l =
    Along (row_meaning g.P.LineCode l.initial.job) (column_meaning g.Q.LineCode l.initial.job) (row_meaning g.P.LineCode l.job) (column_meaning g.Q.LineCode l.job) l.initial.list l.list l.entry-index
    (state g.P.LineCode g.Q.LineCode l.initial.job l.initial.frame) (state g.P.LineCode g.Q.LineCode l.job l.frame)
