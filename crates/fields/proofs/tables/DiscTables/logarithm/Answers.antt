use mathlib.Core.Path.{◌∙◌}
use Prim.Native.Nat.{◌<◌}
use native.Mathlib.Omega.{arith}
use lib.ListN.{get_or}
use Rattle.fields.specs.Computed.{logs, log_read, log_power}
use Rattle.fields.specs.Fields.{disc_tests, disc_laws}
use Rattle.fields.proofs.Powers.{power_is}
use Rattle.fields.proofs.tables.DiscTables.logarithm.Goals as goal

pub returns-clause-low : goal.returns-clause-low
returns-clause-low c =
    let byte : c.args.element < 256 = omega arith in
    log_read 8 285 disc_tests c.args.element byte

pub returns-clause-value : goal.returns-clause-value
returns-clause-value c some =
    let byte : c.args.element < 256 = omega arith in
    power_is 8 285 disc_tests disc_laws (get_or (logs 8 285) c.args.element 0) ∙ log_power 8 285 disc_tests c.args.element some byte
