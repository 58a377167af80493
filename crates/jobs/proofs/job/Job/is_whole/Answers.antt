use Rattle.std.proofs.Common.{sym, ◌∙◌, eq-eqb, eqb-true}
use Rattle.jobs.specs.States.{row_meaning, column_meaning, state}
use Rattle.job_rules.proofs.Whole.{whole_exactly}
use Rattle.jobs.proofs.job.Job.is_whole.Goals as goal

pub returns-then-count-eq0 : goal.returns-then-count-eq0
returns-then-count-eq0 g c = λ frame.
    let s = state g.P.LineCode g.Q.LineCode c.args.self.now frame in
    let h = c.count.ensures.shaped in
    whole_exactly (row_meaning g.P.LineCode c.args.self.now) (column_meaning g.Q.LineCode c.args.self.now) s (record { rows = h.rows; columns = h.columns }) _
    (λ e. (sym c.count.ensures.count ∙ c.if-count-eq0.true, sym c.count-then-count-eq0.ensures.count ∙ eqb-true _ _ e))
    (λ o k. eq-eqb _ _ (c.count-then-count-eq0.ensures.count ∙ k))

pub returns-else-count-eq0 : goal.returns-else-count-eq0
returns-else-count-eq0 g c = λ frame.
    let s = state g.P.LineCode g.Q.LineCode c.args.self.now frame in
    let h = c.count.ensures.shaped in
    whole_exactly (row_meaning g.P.LineCode c.args.self.now) (column_meaning g.Q.LineCode c.args.self.now) s (record { rows = h.rows; columns = h.columns }) _
    (λ e. absurd (c.if-count-eq0.false (eqb-true _ _ e)))
    (λ o k. absurd (c.if-count-eq0.false (c.count.ensures.count ∙ o)))
