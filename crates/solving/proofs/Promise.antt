-- A shortest recurrence keeps the solver's promise.
use Rattle.std.proofs.Common.{◌≡◌, ℕ, suc, ◌+◌, ◌<◌, ◌≤◌, List, length, get_or, take, sym, ap, ◌∙◌, subst, arith, length-take-le, get_or-take}
use native.Mathlib.Decide.{ℕ_discrete}
use Rattle.fields.specs.Laws.{Meaning, FieldLaws}
use Rattle.algebra.proofs.Field.{Field}
use Rattle.algebra.specs.Sums.{value}
use Rattle.algebra.proofs.Ring.{zero_mul}
use Rattle.algebra.proofs.Sums.{sum_cong}
use Rattle.algebra.proofs.Places.{power, eval, syndrome, Distinct}
use Rattle.algebra.proofs.Polynomials.{eval_more, eval_cong}
use Rattle.algebra.proofs.Roots.{no_more_roots}
use Rattle.algebra.proofs.Massey.{generates_cong}
use Rattle.algebra.proofs.Berlekamp.{Found}
use Rattle.algebra.proofs.Locator.{locator, locator_generates, Errors, located, inv_same}
use Rattle.algebra.proofs.Locator.{Locates as Located}
use Rattle.algebra.proofs.Elements.{Element, el_zero, el_mul, el_inv, el_power, el_same, el_none, el_some}
use Rattle.solving.specs.Solving.{power_sum, Explains, Locates}
use Rattle.algebra.proofs.Numbers.{K, ⟨◌⟩, at, el_sums, sums_below}
use Rattle.solving.proofs.Steps.{state}

module _ (m : Meaning) (t : FieldLaws m) where
  abbrev 𝕂 : Field (Element m)
  𝕂 = K m t

  abbrev el : ℕ → Element m
  el = ⟨◌⟩ m t

  pub el_power_sum : (w : ℕ) (X Y : ℕ → ℕ) (k : ℕ) → ⟨◌⟩ m t (power_sum m w X Y k) ≡ syndrome (K m t) w (λ j. ⟨◌⟩ m t (X j)) (λ j. ⟨◌⟩ m t (Y j)) k
  unfolding power_sum syndrome
  el_power_sum w X Y k = el_sums m t _ w ∙ sum_cong 𝕂 w _ _ (λ j l. el_mul m t _ _ ∙ ap (𝕂.mul (el (Y j))) (el_power m t (X j) k))

  pub el_value : (p : List ℕ) (n x : ℕ) → ⟨◌⟩ m t (value m p n x) ≡ eval (K m t) n (at m t p) (⟨◌⟩ m t x)
  unfolding value eval at
  el_value p n x = el_sums m t _ n ∙ sum_cong 𝕂 n _ _ (λ i l. el_mul m t _ _ ∙ ap (𝕂.mul (el (get_or p i 0))) (el_power m t x i))

  pub value_below : (p : List ℕ) (n x : ℕ) → value m p n x < m.q
  unfolding value
  value_below p n x = sums_below m t _ n

  -- the coefficients past those that are read do not matter
  pub value_take : (p : List ℕ) (n x : ℕ) → value m (take n p) n x ≡ value m p n x
  value_take p n x = el_same m t _ _ (value_below (take n p) n x) (value_below p n x)
      (el_value (take n p) n x ∙ eval_cong 𝕂 n (at m t (take n p)) (at m t p) (el x) (λ i l. unfold at in ap el (get_or-take n p i 0 l)) ∙ sym (el_value p n x))

  module _ (s p q : List ℕ) (size room u : ℕ) (f : Found (K m t) (at m t s) (state m t p size q room u) (length s)) (long : size < length p)
      (w : ℕ) (X Y : ℕ → ℕ) (e : Explains m s w X Y) (few : w + w ≤ length s) where
    abbrev x : ℕ → Element m
    x j = ⟨◌⟩ m t (X j)

    abbrev y : ℕ → Element m
    y j = ⟨◌⟩ m t (Y j)

    errors : Errors 𝕂 w x y
    errors = record {
      apart = unfold Distinct in λ i j li lj h. e.apart i j li lj (el_same m t (X i) (X j) (e.locators i li).1 (e.locators j lj).1 h);
      places = λ j l. let h = (e.locators j l).0 in el_some m t (X j) (e.locators j l).1 (omega arith);
      values = λ j l. let h = (e.weights j l).0 in el_some m t (Y j) (e.weights j l).1 (omega arith);
    }

    agree : (k : ℕ) → k < length s → at m t s k ≡ syndrome 𝕂 w x y k
    unfolding at
    agree k l = ap el (e.sums k l) ∙ el_power_sum w X Y k

    found : Located 𝕂 w x (at m t p) size
    unfolding state
    found =
        located 𝕂 w (length s) size x y (at m t p) errors few
        (f.shortest (locator 𝕂 x w) w (generates_cong 𝕂 (syndrome 𝕂 w x y) (at m t s) (locator 𝕂 x w) w (length s) (λ k l. sym (agree k l)) (locator_generates 𝕂 x y w (length s))))
        (generates_cong 𝕂 (at m t s) (syndrome 𝕂 w x y) (at m t p) size (length s) agree f.generator)

    -- the leading coefficient is not 0: as many roots as the degree are too many for a polynomial of fewer coefficients
    leads : ¬ (at m t p size ≡ 𝕂.zero)
    unfolding state
    leads z = elim (ℕ_discrete size 0) [
      | yes none ↦ f.generator.starts (subst (λ (n : ℕ). at m t p n ≡ 𝕂.zero) none z)
      | no some ↦ f.generator.starts (no_more_roots 𝕂 size (at m t p) (λ j. 𝕂.inv (x j)) distinct roots 0 (omega arith))
    ]
      where
        below : (j : ℕ) → j < size → j < w
        below j l = let c = found.count in omega arith

        distinct : Distinct (K m t) size (λ j. (K m t).inv (x j))
        distinct = unfold Distinct in λ i j li lj h. errors.apart i j (below i li) (below j lj)
            (inv_same (K m t) (x i) (x j) (errors.places i (below i li)) (errors.places j (below j lj)) h)

        roots : (j : ℕ) → j < size → eval (K m t) size (at m t p) ((K m t).inv (x j)) ≡ (K m t).zero
        roots j l =
            sym (eval_more (K m t) size (at m t p) ((K m t).inv (x j))
            ∙ ap (λ a. (K m t).add (eval (K m t) size (at m t p) ((K m t).inv (x j))) a) (ap (λ a. (K m t).mul a (power (K m t) ((K m t).inv (x j)) size)) z ∙ zero_mul (K m t) (power (K m t) ((K m t).inv (x j)) size))
            ∙ (K m t).add_zero (eval (K m t) size (at m t p) ((K m t).inv (x j))))
            ∙ found.root j (below j l)

    abbrev c : List ℕ
    c = take (suc size) p

    value_is : (z : ℕ) → value m c (suc w) z ≡ value m p (suc size) z
    value_is z = subst (λ (n : ℕ). value m (take (suc size) p) (suc n) z ≡ value m p (suc size) z) found.count (value_take p (suc size) z)

    positive : 0 < get_or p size 0
    positive = elim (ℕ_discrete (get_or p size 0) 0) [
      | yes z ↦ absurd (leads (unfold at in ap el z ∙ el_zero m t))
      | no nz ↦ omega arith
    ]

    pub locates : Locates m w X (take (suc size) p)
    locates = record {
      degree = length-take-le (suc size) p (omega arith) ∙ ap suc found.count;
      leading = subst (λ (n : ℕ). 0 < get_or (take (suc size) p) n 0) found.count (subst (λ (n : ℕ). 0 < n) (sym (get_or-take (suc size) p size 0 (omega arith))) positive);
      root = λ j l. value_is _ ∙ el_none m t _ (value_below p (suc size) (m.inv (X j)))
          (el_value p (suc size) (m.inv (X j)) ∙ ap (eval 𝕂 (suc size) (at m t p)) (el_inv m t (X j)) ∙ found.root j l);
      only = λ z l h.
          let o = found.only (el z) (sym (el_value p (suc size) z) ∙ ap el (sym (value_is z) ∙ h) ∙ el_zero m t) in
          (o.0, o.1, el_same m t z (m.inv (X o.0)) l (t.inv_below _) (o.2 ∙ sym (el_inv m t (X o.0))));
    }
