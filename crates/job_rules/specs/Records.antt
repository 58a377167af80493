-- The records of lines: what stands in one, and how they are counted.
use Rattle.std.specs.Prelude.{ℕ, Bool, true, false, List, sum_by, count_by}
use Rattle.job_rules.specs.declared.records.Standing.{Standing}
use Rattle.job_rules.specs.declared.records.Standing.TheVariants.{Open, Sound, Stuck}
use Rattle.job_rules.specs.declared.records.Record.{Record}
use Rattle.job_rules.specs.declared.records.Kind.{Kind}
use Rattle.job_rules.specs.declared.records.Kind.TheVariants.{Row, Column}
use Rattle.job_rules.specs.declared.records.Lines.{Lines}

-- the record of a line that was never decoded: open, and nothing tallied
abbrev pub fresh : Record
fresh = record { standing = Open; tally = 0 }

-- a line is opened when a byte of it is given a different value; its tally stays
abbrev pub opened : Record → Record
opened r = record { standing = Open; tally = r.tally }

-- are two standings the same?
abbrev pub is_same_standing : Standing → Standing → Bool
is_same_standing Open Open = true
is_same_standing Open Sound = false
is_same_standing Open Stuck = false
is_same_standing Sound Open = false
is_same_standing Sound Sound = true
is_same_standing Sound Stuck = false
is_same_standing Stuck Open = false
is_same_standing Stuck Sound = false
is_same_standing Stuck Stuck = true

-- how many of the records have this standing
abbrev pub how_many : Standing → List Record → ℕ
how_many st rs = count_by (λ r. is_same_standing st r.standing) rs

-- the sum of their tallies
abbrev pub tallies : List Record → ℕ
tallies rs = sum_by (λ r. r.tally) rs

-- columns cross rows, and rows columns
abbrev pub crossing : Kind → Kind
crossing Row = Column
crossing Column = Row

-- the table of the lines of one kind
abbrev pub on : Kind → Lines → List Record
on Row l = l.rows
on Column l = l.columns
