use Rattle.std.proofs.Common.{◌≡◌, ℕ, zero, suc, ◌*◌, ◌/◌, ◌^◌, ◌<◌, ◌≤◌, refl, sym, ap, ◌∙◌, arith, pow_mono, rules}
use lib.Bits.{bit_xor}
use Rattle.fields.specs.Binary.{keep, shift}
use Rattle.fields.specs.Computed.{closed}
use Rattle.fields.proofs.shifts.Shifts.shifted.Goals as goal
use Rattle.fields.proofs.shifts.Shifts.shifted.Goals.{then-double-DEGREE-eq0, else-double-DEGREE-eq0}

none : (d p : ℕ) → d ≡ 0 → 0 ≡ keep d p
none d p e = ap (λ k. keep k p) (sym e)

once : (d p : ℕ) → (d ≡ 0 → ⊥) → p ≡ keep d p
once zero p h = absurd (h refl)
once (suc d) p h = refl

is_shift : (m p a n d x : ℕ) → n ≡ m → d ≡ a → x ≡ keep (d * 2 / 2 ^ n) p → bit_xor (d * 2) x ≡ shift m p a
is_shift m p a n d x en ed e = rw (← en, ← ed) (ap (bit_xor (d * 2)) e)

below : (m n s : ℕ) → m ≤ 8 → s < 2 ^ m → n ≡ s → n < 256
below m n s small h e = omega (arith, pow_mono {i = m} {j = 8} small)

pub overflow_cast-result : goal.overflow_cast-result
overflow_cast-result g c =
    let m = g.M.Modulus.DEGREE in
    let p = g.M.Modulus.POLYNOMIAL in
    let is : c.if-double-DEGREE-eq0.multiple ≡ keep (c.from-double.result * 2 / 2 ^ c.DEGREE.result) p =
    elim c.if-double-DEGREE-eq0.branch [
      | then-double-DEGREE-eq0 w ↦ w.multiple-is ∙ none _ p w.if-double-DEGREE-eq0.true
      | else-double-DEGREE-eq0 w ↦ w.multiple-is ∙ w.POLYNOMIAL-multiple.ensures ∙ once _ p w.if-double-DEGREE-eq0.false
    ] in
    let h : bit_xor (c.from-double.result * 2) c.if-double-DEGREE-eq0.multiple < 256 =
    below m _ _ g.M.Modulus.small (closed m p g.M.Modulus.tests c.args.a c.requires)
    (is_shift m p _ _ _ _ c.DEGREE.ensures c.from-double.ensures is) in
    search rules
