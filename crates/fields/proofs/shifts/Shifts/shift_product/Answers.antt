use Rattle.std.proofs.Common.{◌≡◌, ℕ, suc, ◌+◌, ◌-◌, ◌/◌, ◌%◌, ◌^◌, ◌<◌, sym, ap, ◌∙◌, subst, arith}
use lib.Bits.{bit_xor, xor_zero_r}
use Rattle.fields.specs.Binary.{times, shift, product}
use Rattle.fields.specs.Computed.{closed}
use Rattle.fields.proofs.Peasant.{turn_odd, turn_even}
use Rattle.fields.proofs.shifts.Shifts.shift_product.Goals as goal
use Rattle.fields.proofs.shifts.Shifts.shift_product.Goals.{then-y-eq1, else-y-eq1}

pub loop-k-init : goal.loop-k-init
unfolding product
loop-k-init g c =
    let m = g.M.Modulus.DEGREE in
    let all : g.M.Modulus.DEGREE - 0 ≡ g.M.Modulus.DEGREE = omega arith in
    (c.requires, ap (λ n. times (shift m g.M.Modulus.POLYNOMIAL) n c.args.a c.args.b) all)

pub loop-k-preserved : goal.loop-k-preserved
loop-k-preserved g c =
    let m = g.M.Modulus.DEGREE in
    let p = g.M.Modulus.POLYNOMIAL in
    let f = shift m p in
    let x = c.loop-k.x in
    let y = c.loop-k.y in
    let r = c.loop-k.r in
    let n = m - (c.loop-k._k + 1) in
    let t = product m p c.args.a c.args.b in
    let more : suc (m - (c.loop-k._k + 1)) ≡ m - c.loop-k._k = omega arith in
    let inv : bit_xor r (times f (suc n) x y) ≡ t = ap (λ n. bit_xor r (times f n x y)) more ∙ c.loop-k.invariant.1 in (
      subst (λ (z : ℕ). z < 2 ^ m) (sym c.shifted-x.ensures) (closed m p g.M.Modulus.tests x c.loop-k.invariant.0),
      ap (λ s. bit_xor c.if-y-eq1.r (times f n s (y / 2))) c.shifted-x.ensures
          ∙ elim c.if-y-eq1.branch [
            | then-y-eq1 w ↦ ap (λ s. bit_xor s (times f n (f x) (y / 2))) w.r-is ∙ turn_odd f n x y r t inv w.if-y-eq1.true
            | else-y-eq1 w ↦
                let even : c.loop-k.y % 2 ≡ 0 = omega (arith, w.if-y-eq1.false) in
                ap (λ s. bit_xor s (times f n (f x) (y / 2))) w.r-is ∙ turn_even f n x y r t inv even
          ],
    )

pub returns : goal.returns
returns g c =
    let m = g.M.Modulus.DEGREE in
    let none : m - c.loop-k._k ≡ 0 = omega arith in
    sym (ap (λ n. bit_xor c.loop-k.r (times (shift m g.M.Modulus.POLYNOMIAL) n c.loop-k.x c.loop-k.y)) none ∙ xor_zero_r c.loop-k.r)
    ∙ c.loop-k.invariant.1
