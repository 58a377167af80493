-- The product by shifting is the remainder of the product of bit polynomials, and there is only one remainder.
use mathlib.Core.Path.{◌≡◌, refl, sym, ap, ap₂, subst, ◌∙◌}
use Prim.Native.Nat.{ℕ, zero, suc, ◌+◌, ◌-◌, ◌*◌, ◌/◌, ◌%◌, ◌^◌, ◌<◌, ◌≤◌}
use native.Mathlib.Nat.{mul_assoc, mul-one, suc-add, zero-add, add_comm, pow-suc}
use native.Mathlib.Omega.{arith}
use lib.Bits.{bit_xor, xor_assoc, xor_self, xor_zero_r, xor_lt}
use Rattle.fields.specs.Binary.{keep, times, shift, product, carryless, Multiple, none, more, Remainder, Reduced}
use Rattle.fields.specs.Capped.{mul_in}
use Rattle.fields.specs.Computed.{Tests, elements, laws, log, facts}
use Rattle.fields.specs.Cyclic.{iter, iter_iter, swap, double_xor, times_xor}
use Rattle.fields.specs.Cyclic as cyclic

abbrev double : ℕ → ℕ
double c = c * 2

keep_sum : (d a b : ℕ) → keep d (bit_xor a b) ≡ bit_xor (keep d a) (keep d b)
keep_sum zero a b = refl
keep_sum (suc d) a b = refl

-- the product of bit polynomials is linear in its first factor
carryless_xor : (k a b c : ℕ) → times double k (bit_xor a b) c ≡ bit_xor (times double k a c) (times double k b c)
carryless_xor zero a b c = refl
carryless_xor (suc k) a b c =
    ap₂ bit_xor (keep_sum (c % 2) a b) (ap (λ e. times double k e (c / 2)) (double_xor a b) ∙ carryless_xor k (a * 2) (b * 2) (c / 2))
    ∙ swap (keep (c % 2) a) (keep (c % 2) b) (times double k (a * 2) (c / 2)) (times double k (b * 2) (c / 2))

cancel : (a b : ℕ) → bit_xor a (bit_xor a b) ≡ b
cancel a b = sym (xor_assoc a a b) ∙ ap (λ n. bit_xor n b) (xor_self a)

same_of_xor : (a b : ℕ) → bit_xor a b ≡ 0 → a ≡ b
same_of_xor a b e = sym (xor_zero_r a) ∙ ap (bit_xor a) (sym e) ∙ cancel a b

-- the sum of two multiples
both : (p a b : ℕ) → Multiple p a → Multiple p b → Multiple p (bit_xor a b)
both p a b x none = subst (Multiple p) (sym (xor_zero_r a)) x
both p a b x (more z j y) = subst (Multiple p) (xor_assoc a z (p * 2 ^ j)) (more (bit_xor a z) j (both p a z x y))

kept : (p d a : ℕ) → Multiple p a → Multiple p (keep d a)
kept p zero a x = none
kept p (suc d) a x = x

-- p times x^j, times any polynomial
times_multiple : (p k j c : ℕ) → Multiple p (times double k (p * 2 ^ j) c)
times_multiple p zero j c = none
times_multiple p (suc k) j c =
    let up : p * 2 ^ suc j ≡ p * 2 ^ j * 2 = ap (λ n. p * n) (pow-suc 2 j) ∙ sym (mul_assoc p (2 ^ j) 2) in
    both p _ _ (kept p (c % 2) (p * 2 ^ j) (more 0 j none)) (subst (λ n. Multiple p (times double k n (c / 2))) up (times_multiple p k (suc j) (c / 2)))

times_nothing : (k c : ℕ) → times double k 0 c ≡ 0
times_nothing zero c = refl
times_nothing (suc k) c = ap₂ bit_xor (keep_none (c % 2)) (times_nothing k (c / 2))
  where
    keep_none : (d : ℕ) → keep d 0 ≡ 0
    keep_none zero = refl
    keep_none (suc d) = refl

times_kept : (p k d c : ℕ) → Multiple p (times double k (keep d p) c)
times_kept p k zero c = subst (Multiple p) (sym (times_nothing k c)) none
times_kept p k (suc d) c = subst (λ n. Multiple p (times double k n c)) (mul-one p) (times_multiple p k 0 c)

-- reducing at each shift takes multiples of p away
reduces : (m p k a b : ℕ) → Multiple p (bit_xor (times double k a b) (times (shift m p) k a b))
reduces m p zero a b = none
reduces m p (suc k) a b =
    let a' = shift m p a in
    let c = b / 2 in
    let first = keep (b % 2) a in
    let long = times double k (a * 2) c in
    let mixed = times double k a' c in
    let short = times (shift m p) k a' c in
    let taken : Multiple p (bit_xor long mixed) =
    subst (Multiple p)
    (ap (λ n. times double k n c) (sym (cancel (a * 2) (keep (a * 2 / 2 ^ m) p))) ∙ carryless_xor k (a * 2) a' c)
    (times_kept p k (a * 2 / 2 ^ m) c) in
    let path : bit_xor (bit_xor long mixed) (bit_xor mixed short) ≡ bit_xor (bit_xor first long) (bit_xor first short) =
    xor_assoc long mixed (bit_xor mixed short)
    ∙ ap (bit_xor long) (cancel mixed short)
    ∙ sym (swap first long first short ∙ ap (λ n. bit_xor n (bit_xor long short)) (xor_self first)) in
    subst (Multiple p) path (both p _ _ taken (reduces m p k a' c))

module _ (m p : ℕ) (t : Tests m p) (degree : p < 2 ^ suc m) (root : times (shift m p) (suc m) 1 p ≡ 0) where
  -- digits past the last 1 add nothing
  stable : (k j a b : ℕ) → b < 2 ^ k → times (shift m p) (k + j) a b ≡ times (shift m p) k a b
  stable zero j a b h =
      let z : b ≡ 0 = omega arith in
      ap₂ (λ n c. times (shift m p) n a c) (zero-add j) z ∙ cyclic.times_zero_r m 2 (shift m p) (log m p t) (facts m p t) j a
  stable (suc k) j a b h =
      let two : 2 ^ suc k ≡ 2 ^ k * 2 = pow-suc 2 k in
      let low : b / 2 < 2 ^ k = omega arith in
      ap (λ n. times (shift m p) n a b) (suc-add k j) ∙ ap (bit_xor (keep (b % 2) a)) (stable k j (shift m p a) (b / 2) low)

  -- factors x of the second polynomial, taken to the first
  moved : (j n a c : ℕ) → times (shift m p) (j + n) a (c * 2 ^ j) ≡ times (shift m p) n (iter (shift m p) j a) c
  moved zero n a c = ap₂ (λ k d. times (shift m p) k a d) (zero-add n) (mul-one c)
  moved (suc j) n a c =
      let up : c * 2 ^ suc j ≡ c * 2 ^ j * 2 = ap (λ k. c * k) (pow-suc 2 j) ∙ sym (mul_assoc c (2 ^ j) 2) in
      let even : c * 2 ^ j * 2 % 2 ≡ 0 = omega arith in
      let half : c * 2 ^ j * 2 / 2 ≡ c * 2 ^ j = omega arith in
      ap₂ (λ k d. times (shift m p) k a d) (suc-add j n) up
      ∙ ap₂ (λ d e. bit_xor (keep d a) (times (shift m p) (j + n) (shift m p a) e)) even half
      ∙ moved j n (shift m p a) c
      ∙ ap (λ x. times (shift m p) n x c) (iter_iter (shift m p) j 1 a ∙ ap (λ k. iter (shift m p) k a) (add_comm j 1 ∙ suc-add 0 j ∙ ap suc (zero-add j)))

  -- the value of a multiple of p in the field is 0
  of_iter : (j n b : ℕ) → times (shift m p) n (iter (shift m p) j 1) b ≡ iter (shift m p) j (times (shift m p) n 1 b)
  of_iter zero n b = refl
  of_iter (suc j) n b =
      cyclic.times_step m 2 (shift m p) (log m p t) (facts m p t) n (iter (shift m p) j 1) b
      (cyclic.iter_below m 2 (shift m p) (log m p t) (facts m p t) j 1 (facts m p t).two)
      ∙ ap (shift m p) (of_iter j n b)

  still : (j : ℕ) → iter (shift m p) j 0 ≡ 0
  still zero = refl
  still (suc j) = ap (shift m p) (still j) ∙ (facts m p t).still

  shifted_zero : (j n : ℕ) → times (shift m p) (j + (suc m + n)) 1 (p * 2 ^ j) ≡ 0
  shifted_zero j n =
      moved j (suc m + n) 1 p ∙ of_iter j (suc m + n) p ∙ ap (iter (shift m p) j) (stable (suc m) n 1 p degree ∙ root) ∙ still j

  vanishes : (z : ℕ) → Multiple p z → (b : ℕ) × ((n : ℕ) → b ≤ n → times (shift m p) n 1 z ≡ 0)
  vanishes z none = (0, λ n h. cyclic.times_zero_r m 2 (shift m p) (log m p t) (facts m p t) n 1)
  vanishes z (more y j x) =
      let w = vanishes y x in (
        w.0 + (j + suc m),
        λ n h.
            let rest : j + (suc m + (n - (j + suc m))) ≡ n = omega arith in
            times_xor (shift m p) n 1 y (p * 2 ^ j)
            ∙ ap₂ bit_xor (w.1 n (omega arith)) (ap (λ k. times (shift m p) k 1 (p * 2 ^ j)) (sym rest) ∙ shifted_zero j (n - (j + suc m))),
      )

  short_multiple : (z : ℕ) → Multiple p z → z < 2 ^ m → z ≡ 0
  short_multiple z x h =
      let w = vanishes z x in
      sym ((facts m p t).one z h) ∙ sym (stable m w.0 1 z h) ∙ w.1 (m + w.0) (omega arith)

  pub reduced : Reduced m p
  unfolding product
  reduced = record {
    is = λ a b ha hb.
        subst (Remainder m p (carryless m a b)) (sym (mul_in (elements m p) (laws m p t) a b ha hb))
        (record { short = (laws m p t).mul_below a b ha hb; divides = reduces m p m a b });
    only = λ z r s x y.
        same_of_xor r s (short_multiple (bit_xor r s)
        (subst (Multiple p) (swap z r z s ∙ ap (λ n. bit_xor n (bit_xor r s)) (xor_self z)) (both p _ _ x.divides y.divides))
        (xor_lt m r s x.short y.short));
  }
