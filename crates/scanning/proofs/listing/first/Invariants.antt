use Rattle.std.proofs.Common.{ℕ, ◌<◌, ◌≢◌, get_or, false}
use Rattle.scanning.proofs.listing.first.Given as goal

abbrev pub invariant-loop-i : goal.invariant-loop-i
invariant-loop-i l = (k : ℕ) → k < l.i → get_or l.marks k false ≢ l.sought
