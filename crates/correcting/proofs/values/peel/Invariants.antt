use Rattle.std.proofs.Common.{◌≡◌, ℕ, ◌+◌, ◌<◌, ◌≤◌, get_or}
use Rattle.algebra.specs.Lines.{Elements}
use Rattle.correcting.proofs.values.peel.Given as goal

abbrev pub invariant-loop-k : goal.invariant-loop-k
invariant-loop-k g l =
    let m = g.F.Field.meaning in
    Elements m l.s
    × ((k : ℕ) → k + 1 < l.k → get_or l.s k 0 ≡ m.add (get_or l.initial.s (k + 1) 0) (m.mul l.x (get_or l.initial.s k 0)))
    × ((k : ℕ) → l.k ≤ k + 1 → get_or l.s k 0 ≡ get_or l.initial.s k 0)
