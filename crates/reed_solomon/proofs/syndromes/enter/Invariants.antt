use Rattle.std.proofs.Common.{◌≡◌, ℕ, ◌<◌, ◌≤◌, get_or}
use Rattle.fields.specs.Laws.{power}
use Rattle.reed_solomon.proofs.syndromes.enter.Given as goal

abbrev pub invariant-loop-sum : goal.invariant-loop-sum
invariant-loop-sum g l =
    let m = g.F.Field.meaning in
    (l.v ≡ m.mul l.y (power m.mul l.x l.sum-index))
    × ((k : ℕ) → k < l.sum-index → get_or l.s k 0 ≡ m.add (get_or l.initial.s k 0) (m.mul l.y (power m.mul l.x k)))
    × ((k : ℕ) → l.sum-index ≤ k → get_or l.s k 0 ≡ get_or l.initial.s k 0)
