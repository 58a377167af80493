-- The bridge for lines: terms, syndromes and places on numbers are those of the theory.
use mathlib.Core.Path.{◌≡◌, sym, ap, ap₂, ◌∙◌}
use mathlib.Core.List.{List}
use Prim.Native.Nat.{ℕ, zero, suc, ◌+◌, ◌-◌, ◌*◌, ◌<◌}
use native.Mathlib.Decide.{dec_lt}
use native.Mathlib.Numerals.{add-one}
use native.Mathlib.Omega.{arith}
use lib.ListN.{length, get_or}
use Rattle.fields.specs.Laws.{Meaning, FieldLaws}
use Rattle.fields.specs.Laws.{power as raised}
use Rattle.algebra.specs.Lines.{term, syndrome}
use Rattle.algebra.proofs.Sums.{sum_cong}
use Rattle.algebra.proofs.Places.{power, power_none, Distinct}
use Rattle.algebra.proofs.Places.{syndrome as theirs}
use Rattle.algebra.proofs.FirstRoot.{power_mul, power_add}
use Rattle.algebra.proofs.Locator.{power_nonzero}
use Rattle.algebra.proofs.Elements.{Element, field, el, el_mul, el_power, el_same, el_none}
use Rattle.algebra.proofs.Numbers.{at, power_below, el_sums}

module _ (m : Meaning) (t : FieldLaws m) where
  -- the place p of n
  unfoldable pub place : ℕ → ℕ → Element m
  place n p = power (field m t) (el m t m.g) (n - 1 - p)

  pub el_term : (line : List ℕ) (i p : ℕ) → (el m t (term m line i p)) ≡ (field m t).mul (at m t line p) (power (field m t) (place (length line) p) i)
  unfolding place at
  el_term line i p =
      el_mul m t _ _ ∙ ap ((field m t).mul (el m t (get_or line p 0))) (el_power m t m.g (i * (length line - 1 - p)) ∙ power_mul (field m t) (el m t m.g) i (length line - 1 - p))

  pub el_syndrome : (line : List ℕ) (i : ℕ) → (el m t (syndrome m line i)) ≡ theirs (field m t) (length line) (place (length line)) (at m t line) i
  unfolding syndrome theirs
  el_syndrome line i = el_sums m t (term m line i) (length line) ∙ sum_cong (field m t) (length line) _ _ (λ p l. el_term line i p)

  -- a generator of more than one nonzero element is not 0
  zero_power : (k : ℕ) → m.g ≡ 0 → raised m.mul m.g (suc k) ≡ 0
  zero_power k z =
      ap (λ a. m.mul a (raised m.mul m.g k)) z ∙ t.mul_comm 0 (raised m.mul m.g k) ∙ t.mul_zero (raised m.mul m.g k)

  pub generator_some : 2 < m.q → ¬ (m.g ≡ 0)
  generator_some l z =
      let a = t.powers_all 2 (omega arith) l in
      two a.0 a.2
    where
      two : (k : ℕ) → raised m.mul m.g k ≡ 2 → ⊥
      two zero e = omega (arith, e)
      two (suc k) e = let z' = zero_power k z in omega (arith, e, z')

  pub place_number : (n p : ℕ) → place n p ≡ (el m t (raised m.mul m.g (n - 1 - p)))
  unfolding place
  place_number n p = sym (el_power m t m.g (n - 1 - p))

  pub places_apart : (n : ℕ) → n < m.q → Distinct (field m t) n (place n)
  unfolding Distinct
  places_apart n l i j li lj e =
      let h : n - 1 - i ≡ n - 1 - j =
      t.powers_differ (n - 1 - i) (n - 1 - j) (omega arith) (omega arith)
      (el_same m t _ _ (power_below m t m.g (n - 1 - i)) (power_below m t m.g (n - 1 - j)) (sym (place_number n i) ∙ e ∙ place_number n j)) in
      omega arith

  pub places_some : (n : ℕ) → 2 < m.q → (i : ℕ) → ¬ (place n i ≡ (field m t).zero)
  unfolding place
  places_some n l i = power_nonzero (field m t) (el m t m.g) (n - 1 - i) (λ e. generator_some l (el_none m t m.g t.g_below e))

  -- a line shorter than q has no place at 0
  pub places_nonzero : (n : ℕ) → n < m.q → (i : ℕ) → i < n → ¬ (place n i ≡ (field m t).zero)
  unfolding place
  places_nonzero n fits i l = elim (dec_lt 2 m.q) [
    | yes big ↦ places_some n big i
    | no small ↦ λ e.
        let first : n - 1 - i ≡ 0 = omega arith in
        (field m t).one_zero (sym (ap (power (field m t) (el m t m.g)) first ∙ power_none (field m t) _) ∙ e)
  ]

  -- a byte's term, as the program makes it from the place's locator
  pub term_made : (line : List ℕ) (b k p x : ℕ) → x ≡ raised m.mul m.g (length line - 1 - p) →
      m.mul (m.mul (get_or line p 0) (raised m.mul x b)) (raised m.mul x k) ≡ term m line (b + k) p
  unfolding at
  term_made line b k p x e =
      let X = place (length line) p in
      let here : (el m t (x)) ≡ X = ap (el m t) e ∙ sym (place_number (length line) p) in
      el_same m t _ _ (t.mul_below _ _) (t.mul_below _ _)
      (el_mul m t _ _
      ∙ ap₂ (field m t).mul (el_mul m t _ _ ∙ ap ((field m t).mul (at m t line p)) (el_power m t x b ∙ ap (λ a. power (field m t) a b) here)) (el_power m t x k ∙ ap (λ a. power (field m t) a k) here)
      ∙ (field m t).mul_assoc _ _ _
      ∙ ap ((field m t).mul (at m t line p)) (sym (power_add (field m t) X b k))
      ∙ sym (el_term line (b + k) p))

  pub power_step : (y x k v : ℕ) → v ≡ m.mul y (raised m.mul x k) → m.mul v x ≡ m.mul y (raised m.mul x (k + 1))
  power_step y x k v e =
      ap (λ a. m.mul a x) e ∙ t.mul_assoc y (raised m.mul x k) x ∙ ap (m.mul y) (t.mul_comm (raised m.mul x k) x)
      ∙ ap (λ n. m.mul y (raised m.mul x n)) (sym (add-one k))
