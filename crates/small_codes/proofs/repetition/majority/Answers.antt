use Rattle.std.proofs.Common.{length, ap, arith}
use native.Mathlib.Decide.{dec_lt}
use Rattle.small_codes.specs.Repetition.{unlike}
use Rattle.small_codes.specs.Majority.{occurs}
use Rattle.small_codes.proofs.repetition.majority.Goals as goal

pub returns : goal.returns
returns c = λ x.
    let line = c.args.line.now in
    elim (dec_lt (unlike x line) (length line)) [
      | yes l ↦ (let o = occurs x line l in
          omega (arith, c.loop-byte.invariant o.0 (let h = o.1 in omega arith), ap (λ y. unlike y line) o.2))
      | no nl ↦ omega arith
    ]
