-- The laws of a field of 2^m elements from a few facts on its product by x.
use Rattle.std.specs.Prelude.{◌≡◌, refl, ◌⊎◌, ℕ, zero, suc, ◌+◌, ◌-◌, ◌*◌, ◌/◌, ◌%◌, ◌^◌, ◌<◌, ◌≤◌}
use Rattle.std.proofs.Common.{sym, ap, ap₂, ◌∙◌, subst, inl, inr, zero-add, suc-add, add_comm, mod-lt, zero-mul, suc-mul, mul_comm, add-zero, div-lt_iff_lt-mul, arith, lit<, pow_pos}
use Rattle.std.proofs.Math.Nat.{mod-add-div'}
use Rattle.std.specs.Int.Bits.{bit_xor, xor_assoc, xor_self, xor_zero_r}
use Rattle.std.proofs.lemmas.Nat.{xor_comm, xor_lt, xor_mod, xor_shr, xor_block}
use Rattle.fields.specs.Binary.{keep, times, shift}
use Rattle.fields.specs.Laws.{power}
use Rattle.fields.specs.OnElements.{Laws}

-- step taken i times
abbrev pub iter : (ℕ → ℕ) → ℕ → ℕ → ℕ
iter step zero a = a
iter step (suc i) a = step (iter step i a)

-- what the tests of a field show
pub record Cyclic (m g : ℕ) (step log : ℕ → ℕ) : Type 0 where
  pub linear : (a b : ℕ) → a < 2 ^ m → b < 2 ^ m → step (bit_xor a b) ≡ bit_xor (step a) (step b)
  pub below : (a : ℕ) → a < 2 ^ m → step a < 2 ^ m
  pub still : step 0 ≡ 0
  pub one : (b : ℕ) → b < 2 ^ m → times step m 1 b ≡ b
  pub first : step 1 ≡ g
  pub two : 2 ≤ 2 ^ m
  pub round : iter step (2 ^ m - 1) 1 ≡ 1
  pub log_below : (a : ℕ) → 0 < a → a < 2 ^ m → log a < 2 ^ m - 1
  pub log_of : (a : ℕ) → 0 < a → a < 2 ^ m → iter step (log a) 1 ≡ a
  pub of_log : (i : ℕ) → i < 2 ^ m - 1 → log (iter step i 1) ≡ i

pub swap : (p q r s : ℕ) → bit_xor (bit_xor p q) (bit_xor r s) ≡ bit_xor (bit_xor p r) (bit_xor q s)
swap p q r s =
    xor_assoc p q (bit_xor r s)
    ∙ ap (bit_xor p) (sym (xor_assoc q r s) ∙ ap (λ t. bit_xor t s) (xor_comm q r) ∙ xor_assoc r q s)
    ∙ sym (xor_assoc p r (bit_xor q s))

pub keep_xor : (x y a : ℕ) → x < 2 → y < 2 → keep (bit_xor x y) a ≡ bit_xor (keep x a) (keep y a)
keep_xor zero y a hx hy = refl
keep_xor (suc zero) zero a hx hy = sym (xor_zero_r a)
keep_xor (suc zero) (suc zero) a hx hy = sym (xor_self a)
keep_xor (suc zero) (suc (suc y)) a hx hy = absurd (omega arith)
keep_xor (suc (suc x)) y a hx hy = absurd (omega arith)

pub double_xor : (a b : ℕ) → bit_xor a b * 2 ≡ bit_xor (a * 2) (b * 2)
double_xor a b =
    sym (ap₂ bit_xor (sym (add-zero (a * 2))) (sym (add-zero (b * 2))) ∙ xor_block 1 a b 0 0 (lit< tt) (lit< tt) ∙ add-zero (bit_xor a b * 2))

carry : (m a : ℕ) → a < 2 ^ m → a * 2 / 2 ^ m < 2
carry m a h = (div-lt_iff_lt-mul {k = 2 ^ m} {x = a * 2} {y = 2} (pow_pos m)).1 (omega arith)

-- the product by x is linear
pub shift_linear : (m p a b : ℕ) → a < 2 ^ m → b < 2 ^ m → shift m p (bit_xor a b) ≡ bit_xor (shift m p a) (shift m p b)
shift_linear m p a b ha hb =
    ap₂ bit_xor (double_xor a b)
    (ap (λ n. keep (n / 2 ^ m) p) (double_xor a b)
    ∙ ap (λ d. keep d p) (xor_shr (a * 2) (b * 2) m)
    ∙ keep_xor (a * 2 / 2 ^ m) (b * 2 / 2 ^ m) p (carry m a ha) (carry m b hb))
    ∙ swap (a * 2) (b * 2) (keep (a * 2 / 2 ^ m) p) (keep (b * 2 / 2 ^ m) p)

-- a product is linear in its second factor
pub times_xor : (step : ℕ → ℕ) (k a b c : ℕ) → times step k a (bit_xor b c) ≡ bit_xor (times step k a b) (times step k a c)
times_xor step zero a b c = refl
times_xor step (suc k) a b c =
    ap₂ bit_xor
    (ap (λ d. keep d a) (xor_mod b c 1) ∙ keep_xor (b % 2) (c % 2) a (mod-lt b (lit< tt)) (mod-lt c (lit< tt)))
    (ap (times step k (step a)) (xor_shr b c 1) ∙ times_xor step k (step a) (b / 2) (c / 2))
    ∙ swap (keep (b % 2) a) (keep (c % 2) a) (times step k (step a) (b / 2)) (times step k (step a) (c / 2))

pub iter_iter : (step : ℕ → ℕ) (i j a : ℕ) → iter step i (iter step j a) ≡ iter step (i + j) a
iter_iter step zero j a = ap (λ n. iter step n a) (sym (zero-add j))
iter_iter step (suc i) j a = ap step (iter_iter step i j a) ∙ ap (λ n. iter step n a) (sym (suc-add i j))

module _ (m g : ℕ) (step log : ℕ → ℕ) (c : Cyclic m g step log) where
  keep_below : (d a : ℕ) → a < 2 ^ m → keep d a < 2 ^ m
  keep_below zero a h = pow_pos m
  keep_below (suc d) a h = h

  keep_step : (d a : ℕ) → keep d (step a) ≡ step (keep d a)
  keep_step zero a = sym c.still
  keep_step (suc d) a = refl

  pub times_below : (k a b : ℕ) → a < 2 ^ m → times step k a b < 2 ^ m
  times_below zero a b h = pow_pos m
  times_below (suc k) a b h = xor_lt m _ _ (keep_below (b % 2) a h) (times_below k (step a) (b / 2) (c.below a h))

  pub times_step : (k a b : ℕ) → a < 2 ^ m → times step k (step a) b ≡ step (times step k a b)
  times_step zero a b h = sym c.still
  times_step (suc k) a b h =
      ap₂ bit_xor (keep_step (b % 2) a) (times_step k (step a) (b / 2) (c.below a h))
      ∙ sym (c.linear _ _ (keep_below (b % 2) a h) (times_below k (step a) (b / 2) (c.below a h)))

  pub times_zero_r : (k a : ℕ) → times step k a 0 ≡ 0
  times_zero_r zero a = refl
  times_zero_r (suc k) a = times_zero_r k (step a)

  times_zero_l : (k b : ℕ) → times step k 0 b ≡ 0
  times_zero_l zero b = refl
  times_zero_l (suc k) b =
      ap₂ bit_xor (keep_zero (b % 2)) (ap (λ s. times step k s (b / 2)) c.still ∙ times_zero_l k (b / 2))
    where
      keep_zero : (d : ℕ) → keep d 0 ≡ 0
      keep_zero zero = refl
      keep_zero (suc d) = refl

  pub iter_below : (i a : ℕ) → a < 2 ^ m → iter step i a < 2 ^ m
  iter_below zero a h = h
  iter_below (suc i) a h = c.below _ (iter_below i a h)

  one_below : 1 < 2 ^ m
  one_below = c.two

  pub times_iter : (i b : ℕ) → b < 2 ^ m → times step m (iter step i 1) b ≡ iter step i b
  times_iter zero b h = c.one b h
  times_iter (suc i) b h = times_step m (iter step i 1) b (iter_below i 1 one_below) ∙ ap step (times_iter i b h)

  pub times_powers : (i j : ℕ) → times step m (iter step i 1) (iter step j 1) ≡ iter step (i + j) 1
  times_powers i j = times_iter i (iter step j 1) (iter_below j 1 one_below) ∙ iter_iter step i j 1

  -- by the logarithms
  pub times_logs : (a b : ℕ) → 0 < a → a < 2 ^ m → 0 < b → b < 2 ^ m → times step m a b ≡ iter step (log a + log b) 1
  times_logs a b pa ha pb hb =
      ap₂ (times step m) (sym (c.log_of a pa ha)) (sym (c.log_of b pb hb)) ∙ times_powers (log a) (log b)

  zero_or : (a : ℕ) → (a ≡ 0) ⊎ (0 < a)
  zero_or zero = inl refl
  zero_or (suc a) = inr (omega arith)

  times_comm : (a b : ℕ) → a < 2 ^ m → b < 2 ^ m → times step m a b ≡ times step m b a
  times_comm a b ha hb =
      elim (zero_or a) [
        | inl za ↦ ap (λ t. times step m t b) za ∙ times_zero_l m b ∙ sym (ap (times step m b) za ∙ times_zero_r m b)
        | inr pa ↦ elim (zero_or b) [
          | inl zb ↦ ap (times step m a) zb ∙ times_zero_r m a ∙ sym (ap (λ t. times step m t a) zb ∙ times_zero_l m a)
          | inr pb ↦ times_logs a b pa ha pb hb ∙ ap (λ n. iter step n 1) (add_comm (log a) (log b)) ∙ sym (times_logs b a pb hb pa ha)
        ]
      ]

  -- the product by a power is the step taken so often, so two such products may be taken as one
  times_assoc : (a b d : ℕ) → a < 2 ^ m → b < 2 ^ m → d < 2 ^ m → times step m (times step m a b) d ≡ times step m a (times step m b d)
  times_assoc a b d ha hb hd =
      elim (zero_or a) [
        | inl za ↦
            ap (λ t. times step m (times step m t b) d) za ∙ ap (λ t. times step m t d) (times_zero_l m b) ∙ times_zero_l m d
            ∙ sym (ap (λ t. times step m t (times step m b d)) za ∙ times_zero_l m (times step m b d))
        | inr pa ↦ elim (zero_or b) [
          | inl zb ↦
              ap (λ t. times step m (times step m a t) d) zb ∙ ap (λ t. times step m t d) (times_zero_r m a) ∙ times_zero_l m d
              ∙ sym (ap (λ t. times step m a (times step m t d)) zb ∙ ap (times step m a) (times_zero_l m d) ∙ times_zero_r m a)
          | inr pb ↦
              ap (λ t. times step m t d) (times_logs a b pa ha pb hb)
              ∙ times_iter (log a + log b) d hd
              ∙ sym (iter_iter step (log a) (log b) d)
              ∙ ap (iter step (log a)) (sym (times_iter (log b) d hd) ∙ ap (λ t. times step m t d) (c.log_of b pb hb))
              ∙ sym (times_iter (log a) (times step m b d) (times_below m b d hb))
              ∙ ap (λ t. times step m t (times step m b d)) (c.log_of a pa ha)
        ]
      ]

  pub power_iter : (i : ℕ) → power (times step m) g i ≡ iter step i 1
  power_iter zero = refl
  power_iter (suc i) =
      ap₂ (times step m) (sym c.first) (power_iter i) ∙ times_iter 1 (iter step i 1) (iter_below i 1 one_below)

  rounds : (i : ℕ) → iter step (i * (2 ^ m - 1)) 1 ≡ 1
  rounds zero = ap (λ n. iter step n 1) (zero-mul (2 ^ m - 1))
  rounds (suc i) =
      ap (λ n. iter step n 1) (suc-mul i (2 ^ m - 1))
      ∙ sym (iter_iter step (i * (2 ^ m - 1)) (2 ^ m - 1) 1)
      ∙ ap (iter step (i * (2 ^ m - 1))) c.round
      ∙ rounds i

  pub iter_mod : (n : ℕ) → iter step (n % (2 ^ m - 1)) 1 ≡ iter step n 1
  iter_mod n =
      let k : ℕ = 2 ^ m - 1 in
      ap (iter step (n % k)) (sym (rounds (n / k)))
      ∙ iter_iter step (n % k) (n / k * k) 1
      ∙ ap (λ j. iter step j 1) (mod-add-div' n k)

  power_of : (i k : ℕ) → power (times step m) (iter step i 1) k ≡ iter step (k * i) 1
  power_of i zero = ap (λ n. iter step n 1) (sym (zero-mul i))
  power_of i (suc k) =
      ap (times step m (iter step i 1)) (power_of i k)
      ∙ times_powers i (k * i)
      ∙ ap (λ n. iter step n 1) (add_comm i (k * i) ∙ sym (suc-mul k i))

  -- a to the q - 2, times a
  inverse_one : (a : ℕ) → 0 < a → a < 2 ^ m → times step m a (power (times step m) a (2 ^ m - 2)) ≡ 1
  inverse_one a pa ha =
      let two : 2 ≤ 2 ^ m = c.two in
      let less : suc (2 ^ m - 2) ≡ 2 ^ m - 1 = omega arith in
      ap (power (times step m) a) less
      ∙ ap (λ t. power (times step m) t (2 ^ m - 1)) (sym (c.log_of a pa ha))
      ∙ power_of (log a) (2 ^ m - 1)
      ∙ ap (λ n. iter step n 1) (mul_comm (2 ^ m - 1) (log a))
      ∙ rounds (log a)

  power_below : (a k : ℕ) → a < 2 ^ m → power (times step m) a k < 2 ^ m
  power_below a zero h = one_below
  power_below a (suc k) h = times_below m a _ h

  power_zero : (k : ℕ) → 0 < k → power (times step m) 0 k ≡ 0
  power_zero zero h = absurd (omega arith)
  power_zero (suc k) h = times_zero_l m _

  pub laws : 2 < 2 ^ m → Laws (2 ^ m) g bit_xor (times step m) (λ a. power (times step m) a (2 ^ m - 2))
  laws more = record {
    two = c.two;
    add_below = xor_lt m;
    add_assoc = λ a b d _ _ _. xor_assoc a b d;
    add_comm = λ a b _ _. xor_comm a b;
    add_zero = λ a _. xor_zero_r a;
    add_self = λ a _. xor_self a;
    mul_below = λ a b ha hb. times_below m a b ha;
    mul_assoc = times_assoc;
    mul_comm = times_comm;
    mul_one = λ a ha. times_comm a 1 ha one_below ∙ c.one a ha;
    mul_zero = λ a _. times_zero_r m a;
    mul_add = λ a b d _ _ _. times_xor step m a b d;
    inv_below = λ a ha. power_below a (2 ^ m - 2) ha;
    inv_zero = power_zero (2 ^ m - 2) (omega arith);
    mul_inv = inverse_one;
    g_below = subst (λ (n : ℕ). n < 2 ^ m) c.first (c.below 1 one_below);
    powers_differ = λ i j hi hj e. sym (c.of_log i hi) ∙ ap log (sym (power_iter i) ∙ e ∙ power_iter j) ∙ c.of_log j hj;
    powers_all = λ a pa ha. (log a, c.log_below a pa ha, power_iter (log a) ∙ c.log_of a pa ha);
  }
