use Rattle.std.proofs.Common.{◌≡◌, ap, ◌∙◌}
use Rattle.job_rules.specs.declared.records.Standing.TheVariants.{Open}
use Rattle.passes.proofs.Visiting.{skipped, few_changed}
use Rattle.passes.proofs.lines.visit_line.Goals as goal

pub returns-then-ne-clause-visited : goal.returns-then-ne-clause-visited
returns-then-ne-clause-visited g c =
    let value = c.at-record.ensures.value in
    let other : c.at-record.result.standing ≡ Open → ⊥ = λ e. let f = rw e at c.ne.ensures in cc in
    skipped (g.P.LineCode.meaning c.args.code.now) _ c.args.kind c.args.i c.args.lines.now c.args.line.now c.default.result c.default.ensures.0 c.default.ensures.1 (λ e. other (ap (λ x. x.standing) value ∙ e))

pub returns-clause-low : goal.returns-clause-low
returns-clause-low g c = few_changed (g.P.LineCode.meaning c.args.code.now) _ _ _ _ _ _ _ (g.met.P.LineCode.lawful c.args.code.now) c.decode_line-effort.ensures.decodes
