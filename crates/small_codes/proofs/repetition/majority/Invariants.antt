use Rattle.std.proofs.Common.{ℕ, ◌*◌, ◌<◌, ◌≤◌, length, get_or}
use Rattle.small_codes.specs.Repetition.{unlike}
use Rattle.small_codes.proofs.repetition.majority.Given as goal

abbrev pub invariant-loop-byte : goal.invariant-loop-byte
invariant-loop-byte l = (k : ℕ) → k < l.byte-index → length l.line ≤ 2 * unlike (get_or l.line k 0) l.line
