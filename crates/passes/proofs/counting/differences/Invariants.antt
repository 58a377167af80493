use Rattle.std.proofs.Common.{◌≡◌, ◌+◌, ◌≤◌, drop}
use Rattle.codes.specs.Meaning.{differ}
use Rattle.passes.proofs.counting.differences.Given as goal

abbrev pub invariant-loop-i : goal.invariant-loop-i
invariant-loop-i l = (l.n ≤ l.i) × (l.n + differ (drop l.i l.one) (drop l.i l.two) ≡ differ l.one l.two)
