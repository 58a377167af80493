use Rattle.std.proofs.Common.{◌≡◌, ℕ, ◌<◌, ◌≤◌, get_or}
use Rattle.solving.specs.Steps.{shifted}
use Rattle.solving.proofs.massey.shift.Given as goal

abbrev pub invariant-loop-x : goal.invariant-loop-x
invariant-loop-x l = ((k : ℕ) → k < l.x-index → get_or l.poly k 0 ≡ shifted l.initial.poly k) × ((k : ℕ) → l.x-index ≤ k → get_or l.poly k 0 ≡ get_or l.initial.poly k 0) × (l.below ≡ shifted l.initial.poly l.x-index)
