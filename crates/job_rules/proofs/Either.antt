-- What holds of the lines of either kind.
use Rattle.std.proofs.Common.{ℕ, ◌*◌}
use Rattle.codes.specs.Meaning.{Meaning, Lawful}
use Rattle.job_rules.specs.declared.records.Kind.{Kind}
use Rattle.job_rules.specs.declared.records.Kind.TheVariants.{Row, Column}
use Rattle.job_rules.specs.Records.{crossing}
use Rattle.job_rules.specs.Questions.{lines}
use Rattle.job_rules.specs.Lines.{line, code}
use Rattle.codes.proofs.Views.{Shows, rows_show, columns_show}
use Rattle.job_rules.proofs.Settled.{Crosses, rows_cross, columns_cross}

-- the number of bytes of a frame
abbrev pub bytes : (p q : Meaning) → ℕ
bytes p q = q.size * p.size

pub shows : (p q : Meaning) (kind : Kind) → Shows (line p q kind) (lines p q kind) (bytes p q)
shows p q Row = rows_show p.size q.size
shows p q Column = columns_show p.size q.size

pub lawful : (p q : Meaning) → Lawful p → Lawful q → (kind : Kind) → Lawful (code p q kind)
lawful p q lp lq Row = lp
lawful p q lp lq Column = lq

pub crosses : (p q : Meaning) (kind : Kind) → Crosses (line p q kind) (line p q (crossing kind)) (lines p q kind) (code p q kind).size (bytes p q)
crosses p q Row = rows_cross p.size q.size
crosses p q Column = columns_cross p.size q.size
