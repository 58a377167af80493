use Rattle.std.proofs.Common.{◌<◌, sym, ap, ◌∙◌, arith}
use Rattle.fields.specs.Binary.{disc}
use Rattle.fields.specs.Fields.{disc_tests, disc_laws}
use Rattle.fields.proofs.Powers.{inverse_at}
use Rattle.fields.proofs.tables.DiscTablesField.inverse.Goals as goal

pub returns-then-a-eq0-clause-value : goal.returns-then-a-eq0-clause-value
returns-then-a-eq0-clause-value c = sym (ap disc.inv c.if-a-eq0.true ∙ disc_laws.inv_zero)

pub returns-clause-value : goal.returns-clause-value
returns-clause-value c =
    let some : 0 < c.args.a = omega arith in
    let byte : c.args.a < 256 = omega arith in
    c.power.ensures ∙ inverse_at 8 285 disc_tests disc_laws c.args.a _ some byte c.logarithm.ensures.low (c.logarithm.ensures.value some)
