use Rattle.std.proofs.Common.{◌≡◌, ◌-◌, ◌<◌, ◌^◌}
use lib.Bits.{bit_xor}
use Rattle.fields.specs.Binary.{times, shift, product}
use Rattle.fields.proofs.shifts.Shifts.shift_product.Given as goal

abbrev pub invariant-loop-k : goal.invariant-loop-k
invariant-loop-k g l =
    let m = g.M.Modulus.DEGREE in
    let p = g.M.Modulus.POLYNOMIAL in
    (l.x < 2 ^ m) × (bit_xor l.r (times (shift m p) (m - l._k) l.x l.y) ≡ product m p l.a l.b)
