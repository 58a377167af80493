use Rattle.std.proofs.Common.{◌≡◌, ℕ, ◌<◌, ◌≤◌, get_or}
use Rattle.coding.specs.Division.{shifted}
use Rattle.coding.proofs.division.shift.Given as goal

abbrev pub invariant-loop-k : goal.invariant-loop-k
invariant-loop-k g l =
    let m = g.F.Field.meaning in
    ((k : ℕ) → k < l.k → get_or l.r k 0 ≡ m.add (shifted l.initial.r k) (m.mul l.f (get_or l.g k 0)))
    × ((k : ℕ) → l.k ≤ k → get_or l.r k 0 ≡ get_or l.initial.r k 0)
    × (l.before ≡ shifted l.initial.r l.k)
    × (l.before < m.q)
