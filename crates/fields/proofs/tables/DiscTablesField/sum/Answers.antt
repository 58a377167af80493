use mathlib.Core.Path.{sym}
use Rattle.fields.specs.Capped.{add_in}
use Rattle.fields.specs.Computed.{elements}
use Rattle.fields.specs.Fields.{disc_elements}
use Rattle.fields.proofs.tables.DiscTablesField.sum.Goals as goal

pub returns-clause-value : goal.returns-clause-value
returns-clause-value c ha hb = sym (add_in (elements 8 285) disc_elements c.args.a c.args.b ha hb)
