use Rattle.std.proofs.Common.{sym}
use Rattle.fields.specs.Capped.{add_in}
use Rattle.fields.specs.Computed.{elements, laws}
use Rattle.fields.proofs.shifts.ShiftsField.sum.Goals as goal

pub returns-clause-value : goal.returns-clause-value
returns-clause-value g c ha hb =
    let m = g.M.Modulus.DEGREE in
    let p = g.M.Modulus.POLYNOMIAL in
    sym (add_in (elements m p) (laws m p g.M.Modulus.tests) c.args.a c.args.b ha hb)
