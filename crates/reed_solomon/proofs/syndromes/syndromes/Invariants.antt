use Rattle.std.proofs.Common.{◌≡◌, ℕ, ◌+◌, ◌<◌, length, get_or}
use Rattle.algebra.specs.Sums.{sums}
use Rattle.algebra.specs.Lines.{term}
use Rattle.reed_solomon.proofs.syndromes.syndromes.Given as goal

abbrev pub invariant-loop-p : goal.invariant-loop-p
invariant-loop-p g l =
    (k : ℕ) → k < length l.s → get_or l.s k 0 ≡ sums g.F.Field.meaning (term g.F.Field.meaning l.line (l.b + k)) l.p
