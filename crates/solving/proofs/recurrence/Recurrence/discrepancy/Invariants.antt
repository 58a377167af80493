use Rattle.std.proofs.Common.{◌≡◌, ◌-◌, get_or}
use Rattle.algebra.specs.Sums.{sums}
use Rattle.solving.proofs.recurrence.Recurrence.discrepancy.Given as goal

abbrev pub invariant-loop-i : goal.invariant-loop-i
invariant-loop-i g l = l.d ≡ sums g.F.Field.meaning (λ i. g.F.Field.meaning.mul (get_or l.self.locator.items i 0) (get_or l.s (l.r - i) 0)) l.i
