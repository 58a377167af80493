use Rattle.std.proofs.Common.{◌≡◌, take}
use Rattle.job_rules.specs.Records.{opened, on, crossing}
use Rattle.job_rules.specs.Lines.{where_differ}
use Rattle.passes.proofs.lines.open_changed.Given as goal

abbrev pub invariant-loop-k : goal.invariant-loop-k
invariant-loop-k l =
    (on l.kind l.lines ≡ where_differ opened (take l.k l.old) (take l.k l.new) (on l.kind l.initial.lines)) ×
    (on (crossing l.kind) l.lines ≡ on (crossing l.kind) l.initial.lines)
