use Rattle.std.proofs.Common.{◌≡◌, ℕ, ◌-◌, ◌*◌, ◌%◌, ◌<◌, ◌≤◌, ◌^◌, refl, sym, ap, ◌∙◌, arith, rules, pow_mono}
use Rattle.fields.specs.Laws.{power}
use Rattle.fields.specs.Binary.{binary, product, inverse}
use Rattle.fields.specs.Capped.{inv_in}
use Rattle.fields.specs.Computed.{Tests, elements, laws, more}
use Rattle.fields.specs.Fields.{binary_laws}
use Rattle.fields.proofs.shifts.ShiftsField.inverse.Goals as goal

-- the loop's last power is the inverse
is_inverse : (m p : ℕ) → m ≤ 8 → Tests m p → (a r k n : ℕ) → a < 2 ^ m → n ≡ m → 2 ≤ k → 1 * 2 ^ n % 65536 ≤ k → (2 ≤ 1 * 2 ^ n % 65536 → k ≤ 1 * 2 ^ n % 65536)
    → r ≡ power (product m p) a (k - 2) → r ≡ (binary m p).inv a
unfolding inverse
is_inverse m p small t a r k n h e low last high is =
    let two : 2 ≤ 2 ^ m = let h = more m p t in omega arith in
    let few : 2 ^ m ≤ 256 = pow_mono {i = m} {j = 8} small in
    let same : 2 ^ n ≡ 2 ^ m = ap (λ i. 2 ^ i) e in
    let end : k - 2 ≡ 2 ^ m - 2 = omega arith in
    is ∙ ap (power (product m p) a) end ∙ sym (inv_in (elements m p) (laws m p t) a h)

pub returns : goal.returns
returns g c =
    let m = g.M.Modulus.DEGREE in
    let p = g.M.Modulus.POLYNOMIAL in
    let small = g.M.Modulus.small in
    let t = g.M.Modulus.tests in
    let value : c.loop-k.r ≡ (binary m p).inv c.args.a =
    is_inverse m p small t c.args.a c.loop-k.r c.loop-k._k c.DEGREE.result (search rules) c.DEGREE.ensures
    c.loop-k.invariant.0 c.loop-k-test.false c.loop-k.auto._k-end c.loop-k.invariant.1 in
    record {
      value = value;
      none = λ zero. value ∙ ap (binary m p).inv zero ∙ (binary_laws m p small t).inv_zero;
      out = search rules;
    }

pub returns-then-is_outside-clause-value : goal.returns-then-is_outside-clause-value
returns-then-is_outside-clause-value g c =
    let field = binary_laws g.M.Modulus.DEGREE g.M.Modulus.POLYNOMIAL g.M.Modulus.small g.M.Modulus.tests in
    sym (field.inv_out c.args.a (c.if-is_outside.ensures.0 refl))
