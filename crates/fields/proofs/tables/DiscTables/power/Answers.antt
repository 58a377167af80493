use mathlib.Core.Path.{sym, ◌∙◌}
use Rattle.fields.specs.Computed.{power_read}
use Rattle.fields.specs.Fields.{disc_tests, disc_laws}
use Rattle.fields.proofs.Powers.{power_is}
use Rattle.fields.proofs.tables.DiscTables.power.Goals as goal

pub returns : goal.returns
returns c = power_read 8 285 disc_tests c.args.exponent ∙ sym (power_is 8 285 disc_tests disc_laws c.args.exponent)
