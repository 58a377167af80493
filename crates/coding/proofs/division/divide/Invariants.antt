use Rattle.std.proofs.Common.{ℕ, ◌+◌, length}
use Rattle.algebra.specs.Lines.{Elements}
use Rattle.coding.specs.Division.{Generator}
use Rattle.coding.proofs.Register.{Fed}
use Rattle.coding.proofs.division.divide.Given as goal

abbrev pub invariant-loop-symbol : goal.invariant-loop-symbol
invariant-loop-symbol g l =
    let m = g.F.Field.meaning in
    Elements m l.r
    × ((b : ℕ) → Generator m b l.g → Fed m b (length l.message + length l.r) (length l.message) l.message l.r l.symbol-index)
