use Rattle.std.proofs.Common.{◌≡◌, ℕ, ◌+◌, ◌*◌, ◌<◌, get_or}
use Rattle.codes.proofs.columns.copy_in.Given as goal

abbrev pub invariant-loop-i : goal.invariant-loop-i
invariant-loop-i l =
    ((k : ℕ) → k < l.i → get_or l.frame (k * l.width + l.j) 0 ≡ get_or l.line k 0)
    × ((k c : ℕ) → c < l.width → (c ≡ l.j → ⊥) → get_or l.frame (k * l.width + c) 0 ≡ get_or l.initial.frame (k * l.width + c) 0)
