use Rattle.std.proofs.Common.{◌≡◌, length}
use Rattle.decoder_tests.proofs.peterson.solve.Given as goal

abbrev pub invariant-loop-column : goal.invariant-loop-column
invariant-loop-column g l = length l.equations ≡ length l.initial.equations
