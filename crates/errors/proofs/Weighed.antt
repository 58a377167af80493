-- The weight at a found place, on numbers.
use Rattle.std.proofs.Common.{◌≡◌, ℕ, suc, ◌+◌, ◌<◌, ◌≤◌, ◌⊎◌, List, length, get_or, sym, ap, ◌∙◌, ap₂, inl, inr, add-one, arith}
use Rattle.fields.specs.Laws.{Meaning, FieldLaws}
use Rattle.fields.specs.Laws.{power as raised}
use Rattle.algebra.proofs.Field.{Field}
use Rattle.algebra.proofs.Places.{power, Distinct}
use Rattle.algebra.proofs.Locator.{power_nonzero}
use Rattle.algebra.proofs.Peel.{peeled, peeled_none, peeled_skip, peeled_more, left, left_none, left_skip, left_more, left_all, own, shorten}
use Rattle.algebra.proofs.Elements.{Element, el_one, el_add, el_mul, el_inv, el_power, el_same, el_some}
use Rattle.errors.specs.Places.{Weighs}
use Rattle.algebra.proofs.Numbers.{K, ⟨◌⟩}
use Rattle.solving.proofs.Promise.{el_power_sum}

module _ (m : Meaning) (t : FieldLaws m) (X : ℕ → ℕ) (w j : ℕ) where
  abbrev 𝕂 : Field (Element m)
  𝕂 = K m t

  abbrev el : ℕ → Element m
  el = ⟨◌⟩ m t

  abbrev pub xs : ℕ → Element m
  xs i = ⟨◌⟩ m t (X i)

  -- where the sums still hold after the places below c: all but one for each place but j
  abbrev pub Holds : ℕ → ℕ → ℕ → Type 0
  Holds len c k = (k + c < len) ⊎ ((j < c) × (k + c ≤ len))

  -- after the places below c: what is left of the sums, and the divisor
  unfoldable pub Left : List ℕ → List ℕ → ℕ → Type 0
  Left s now c = (Y : ℕ → ℕ) → Weighs m s w X Y → (k : ℕ) → Holds (length s) c k → ⟨◌⟩ m t (get_or now k 0) ≡ left (K m t) w xs (λ i. ⟨◌⟩ m t (Y i)) j c k

  unfoldable pub Over : ℕ → ℕ → Type 0
  Over over c = ⟨◌⟩ m t over ≡ peeled (K m t) xs j c j

  first : (len k : ℕ) → Holds len 0 k → k < len
  first len k (inl h) = omega (arith, h)
  first len k (inr h) = absurd (omega (arith, h.0))

  pass : (len c k : ℕ) → c ≡ j → Holds len (c + 1) k → Holds len c k
  pass len c k e (inl h) = inl (omega (arith, h))
  pass len c k e (inr h) = inl (omega (arith, h.1))

  here : (len c k : ℕ) → ¬ (c ≡ j) → Holds len (c + 1) k → Holds len c k
  here len c k ne (inl h) = inl (omega (arith, h))
  here len c k ne (inr h) = inr (omega (arith, h.0, ne), omega (arith, h.1))

  next_one : (len c k : ℕ) → ¬ (c ≡ j) → Holds len (c + 1) k → Holds len c (suc k)
  next_one len c k ne (inl h) = inl (omega (arith, h))
  next_one len c k ne (inr h) = inr (omega (arith, h.0, ne), omega (arith, h.1))

  made : (len c k : ℕ) → ¬ (c ≡ j) → Holds len (c + 1) k → k + 1 < len
  made len c k ne (inl h) = omega (arith, h)
  made len c k ne (inr h) = omega (arith, h.0, h.1, ne)

  pub left_start : (s : List ℕ) → Left s s 0
  unfolding Left
  left_start s Y g k l = ap el (g.terms k (first (length s) k l)) ∙ el_power_sum m t w X Y k ∙ left_none 𝕂 w xs (λ i. el (Y i)) j k

  pub over_start : Over 1 0
  unfolding Over
  over_start = el_one m t ∙ sym (peeled_none 𝕂 xs j j)

  pub left_pass : (s now : List ℕ) (c : ℕ) → c ≡ j → Left s now c → Left s now (c + 1)
  unfolding Left
  left_pass s now c e h Y g k l = h Y g k (pass (length s) c k e l) ∙ left_skip 𝕂 w xs (λ i. el (Y i)) j c k e ∙ ap (λ a. left 𝕂 w xs (λ i. el (Y i)) j a k) (sym (add-one c))

  pub over_pass : (over c : ℕ) → c ≡ j → Over over c → Over over (c + 1)
  unfolding Over
  over_pass over c e h = h ∙ sym (peeled_skip 𝕂 xs j c j e) ∙ ap (λ a. peeled 𝕂 xs j a j) (sym (add-one c))

  pub left_step : (s now next : List ℕ) (c : ℕ) → ¬ (c ≡ j) → length now ≡ length s →
      ((k : ℕ) → k + 1 < length now → get_or next k 0 ≡ m.add (get_or now (k + 1) 0) (m.mul (X c) (get_or now k 0))) → Left s now c → Left s next (c + 1)
  unfolding Left
  left_step s now next c ne e step h Y g k l =
      ap el (step k (let q = made (length s) c k ne l in omega arith)) ∙ el_add m t _ _
      ∙ ap₂ 𝕂.add (ap (λ a. el (get_or now a 0)) (add-one k) ∙ h Y g (suc k) (next_one (length s) c k ne l)) (el_mul m t _ _ ∙ ap (𝕂.mul (el (X c))) (h Y g k (here (length s) c k ne l)))
      ∙ left_more 𝕂 w xs (λ i. el (Y i)) j c k ne ∙ ap (λ a. left 𝕂 w xs (λ i. el (Y i)) j a k) (sym (add-one c))

  pub over_step : (over next c : ℕ) → ¬ (c ≡ j) → next ≡ m.mul over (m.add (X j) (X c)) → Over over c → Over next (c + 1)
  unfolding Over
  over_step over next c ne e h =
      ap el e ∙ el_mul m t _ _ ∙ ap₂ 𝕂.mul h (el_add m t _ _) ∙ sym (peeled_more 𝕂 xs j c j ne) ∙ ap (λ a. peeled 𝕂 xs j a j) (sym (add-one c))

  pub weighed : (s now : List ℕ) (over b : ℕ) → length s ≡ w → j < w → ((i : ℕ) → i < w → X i < m.q) → Left s now w → Over over w → (Y : ℕ → ℕ) → Weighs m s w X Y →
      m.mul (get_or now 0 0) (m.inv (m.mul over (raised m.mul (X j) b))) ≡ m.mul (Y j) (m.inv (raised m.mul (X j) b))
  unfolding Left Over
  weighed s now over b long lj below l o Y g =
      let D = peeled 𝕂 xs j w j in
      let B = power 𝕂 (el (X j)) b in
      let d : Distinct 𝕂 w xs = unfold Distinct in λ i i' li li' e. g.apart i i' li li' (el_same m t (X i) (X i') (below i li) (below i' li') e) in
      let hx : ¬ (el (X j) ≡ 𝕂.zero) = let p = g.some j lj in el_some m t (X j) (below j lj) (λ e. omega arith) in
      el_same m t _ _ (t.mul_below _ _) (t.mul_below _ _)
      (el_mul m t _ _
      ∙ ap₂ 𝕂.mul (l Y g 0 (inr (lj, omega arith)) ∙ left_all 𝕂 w xs (λ i. el (Y i)) j lj) (el_inv m t _ ∙ ap 𝕂.inv (el_mul m t _ _ ∙ ap₂ 𝕂.mul o (el_power m t (X j) b)))
      ∙ shorten 𝕂 (el (Y j)) D B (own 𝕂 w xs j w d lj (omega arith)) (power_nonzero 𝕂 (el (X j)) b hx)
      ∙ sym (el_mul m t _ _ ∙ ap (𝕂.mul (el (Y j))) (el_inv m t _ ∙ ap 𝕂.inv (el_power m t (X j) b))))
