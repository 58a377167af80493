use Rattle.std.proofs.Common.{◌≡◌, ℕ, ◌<◌, ◌≤◌, get_or}
use Rattle.solving.specs.Steps.{mixed}
use Rattle.solving.proofs.massey.mend.Given as goal

abbrev pub invariant-loop-i : goal.invariant-loop-i
invariant-loop-i g l =
    ((k : ℕ) → k < l.i → get_or l.poly k 0 ≡ mixed g.F.Field.meaning l.w l.initial.poly l.d l.other k)
    × ((k : ℕ) → l.i ≤ k → get_or l.poly k 0 ≡ get_or l.initial.poly k 0)
