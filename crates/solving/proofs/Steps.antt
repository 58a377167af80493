-- The algorithm's steps, in lists of numbers.
use Rattle.std.proofs.Common.{◌≡◌, ℕ, zero, suc, ◌<◌, ◌≤◌, ◌⊎◌, List, length, get_or, set, sym, refl, ap, ◌∙◌, subst, ap₂, inl, inr, arith, length-set, get_or-set_other, get_or-set_same}
use mathlib.Core.Path.{transport, fun_ext}
use native.Mathlib.Decide.{dec_lt}
use lib.ListN.{get_or-eq_default}
use Rattle.fields.specs.Laws.{Meaning, FieldLaws}
use Rattle.algebra.proofs.Field.{Field}
use Rattle.algebra.proofs.Ring.{mul_zero}
use Rattle.algebra.proofs.Sums.{sum_cong}
use Rattle.algebra.proofs.Product.{product, product_sum}
use Rattle.algebra.proofs.Polynomials.{up}
use Rattle.algebra.proofs.Berlekamp.{State, Found, unit, mix, step_kept, step_grown, start, start_found, wrong}
use Rattle.algebra.proofs.Elements.{Element, some, el_zero, el_one, el_add, el_mul, el_some}
use Rattle.solving.specs.Steps.{coefficient, mixed, shifted}
use Rattle.algebra.proofs.Numbers.{K, ⟨◌⟩, at, el_sums, sums_below}

module _ (m : Meaning) (t : FieldLaws m) where
  abbrev 𝕂 : Field (Element m)
  𝕂 = K m t

  abbrev el : ℕ → Element m
  el = ⟨◌⟩ m t

  abbrev of : List ℕ → ℕ → Element m
  of = at m t

  -- the state of the algorithm, in lists
  unfoldable pub state : List ℕ → ℕ → List ℕ → ℕ → ℕ → State (K m t)
  state p size q room w = record { poly = at m t p; size = size; partner = at m t q; room = room; weight = ⟨◌⟩ m t w }

  at_past : (p : List ℕ) (k : ℕ) → length p ≤ k → of p k ≡ 𝕂.zero
  unfolding at
  at_past p k h = ap el (get_or-eq_default p 0 h) ∙ el_zero m t

  el_coefficient : (p s : List ℕ) (k : ℕ) → el (coefficient m p s k) ≡ product 𝕂 (of p) (of s) k
  unfolding coefficient at
  el_coefficient p s k = el_sums m t _ (suc k) ∙ sum_cong 𝕂 (suc k) _ _ (λ i l. el_mul m t _ _) ∙ sym (product_sum 𝕂 (of p) (of s) k)

  pub coefficient_below : (p s : List ℕ) (k : ℕ) → coefficient m p s k < m.q
  unfolding coefficient
  coefficient_below p s k = sums_below m t _ (suc k)

  el_mixed : (w d k : ℕ) (p q : List ℕ) → el (mixed m w p d q k) ≡ mix 𝕂 (el w) (of p) (el d) (of q) k
  unfolding at
  el_mixed w d k p q = el_add m t _ _ ∙ ap₂ 𝕂.add (el_mul m t _ _) (el_mul m t _ _)

  mix_past : (w d k : ℕ) (p q : List ℕ) → length p ≤ k → length q ≤ k → mix 𝕂 (el w) (of p) (el d) (of q) k ≡ 𝕂.zero
  mix_past w d k p q hp hq =
      ap₂ (λ a b. 𝕂.add (𝕂.mul (el w) a) (𝕂.mul (el d) b)) (at_past p k hp) (at_past q k hq)
      ∙ ap₂ 𝕂.add (mul_zero 𝕂 (el w)) (mul_zero 𝕂 (el d)) ∙ 𝕂.add_zero 𝕂.zero

  at_shifted : (q : List ℕ) (k : ℕ) → el (shifted q k) ≡ up 𝕂 (of q) k
  unfolding at
  at_shifted q zero = el_zero m t
  at_shifted q (suc k) = refl

  module _ (s p q p' q' : List ℕ) (size room w d r : ℕ) (f : Found (K m t) (at m t s) (state p size q room w) r)
      (lq : length q ≡ length p) (lp : length p' ≡ length p) (lq' : length q' ≡ length p) (fits : suc (suc r) < length p)
      (wrong-is : d ≡ coefficient m p s r) (mends : (k : ℕ) → k < length p → get_or p' k 0 ≡ mixed m w p d q k) where
    wrong_el : el d ≡ product 𝕂 (of p) (of s) r
    wrong_el = ap el wrong-is ∙ el_coefficient p s r

    poly_is : (k : ℕ) → of p' k ≡ mix 𝕂 (el w) (of p) (product 𝕂 (of p) (of s) r) (of q) k
    poly_is k = elim (dec_lt k (length p)) [
      | yes l ↦ unfold at in ap el (mends k l) ∙ el_mixed w d k p q ∙ ap (λ a. mix 𝕂 (el w) (of p) a (of q) k) wrong_el
      | no nl ↦ at_past p' k (omega arith) ∙ sym (ap (λ a. mix 𝕂 (el w) (of p) a (of q) k) (sym wrong_el) ∙ mix_past w d k p q (omega arith) (omega arith))
    ]

    -- a list moved up, of which the last coefficient is 0
    moved : (u : List ℕ) → length u ≡ length p → ((k : ℕ) → suc r < k → of u k ≡ 𝕂.zero) → ((k : ℕ) → k < length p → get_or q' k 0 ≡ shifted u k) → (k : ℕ) → of q' k ≡ up 𝕂 (of u) k
    moved u lu high h k = elim (dec_lt k (length p)) [
      | yes l ↦ unfold at in ap el (h k l) ∙ at_shifted u k
      | no nl ↦ at_past q' k (omega arith) ∙ sym (top k (omega arith))
    ]
      where
        top : (k : ℕ) → length p ≤ k → up 𝕂 (of u) k ≡ 𝕂.zero
        top zero l = refl
        top (suc k) l = high k (omega arith)

    pub kept_lists : ((room ≤ size) ⊎ (d ≡ 0)) → ((k : ℕ) → k < length p → get_or q' k 0 ≡ shifted q k) → Found (K m t) (at m t s) (state p' size q' (suc room) w) (suc r)
    unfolding state
    kept_lists either h =
        let st = state p size q room w in
        let z : (room ≤ size) ⊎ (wrong 𝕂 (of s) st r ≡ 𝕂.zero) = elim either [ inl l ↦ inl l | inr e ↦ inr (sym wrong_el ∙ ap el e ∙ el_zero m t) ] in
        subst (λ t'. Found 𝕂 (of s) t' (suc r))
        (ap₂ (λ a b. record { poly = a; size = size; partner = b; room = suc room; weight = el w })
        (sym (fun_ext poly_is)) (sym (fun_ext (moved q lq (λ k l. f.ready.degree k (omega (arith, f.sizes))) h))))
        (step_kept 𝕂 (of s) st r f z)

    pub grown_lists : size < room → ¬ (d ≡ 0) → ((k : ℕ) → k < length p → get_or q' k 0 ≡ shifted p k) → Found (K m t) (at m t s) (state p' room q' (suc size) d) (suc r)
    unfolding state
    grown_lists less ne h =
        let st = state p size q room w in
        let low : d < m.q = subst (λ (n : ℕ). n < m.q) (sym wrong-is) (coefficient_below p s r) in
        subst (λ t'. Found 𝕂 (of s) t' (suc r))
        (ap₃ (fun_ext poly_is) (fun_ext (moved p refl (λ k l. f.generator.known.degree k (omega (arith, f.sizes))) h)) wrong_el)
        (step_grown 𝕂 (of s) st r f less (λ e. el_some m t d low ne (wrong_el ∙ e)))
      where
        ap₃ : {a a' b b' : ℕ → Element m} {x x' : Element m} → a' ≡ a → b' ≡ b → x' ≡ x →
            ◌≡◌ {A = State 𝕂} (record { poly = a; size = room; partner = b; room = suc size; weight = x }) (record { poly = a'; size = room; partner = b'; room = suc size; weight = x' })
        ap₃ e f g = λ i. record { poly = sym e i; size = room; partner = sym f i; room = suc size; weight = sym g i }

  start_lists : (s p q : List ℕ) → ((k : ℕ) → of p k ≡ unit 𝕂 k) → ((k : ℕ) → of q k ≡ up 𝕂 (unit 𝕂) k) → Found 𝕂 (of s) (state p 0 q 1 1) 0
  unfolding state start
  start_lists s p q hp hq =
      subst (λ t'. Found 𝕂 (of s) t' 0)
      (λ i. record { poly = sym (fun_ext hp) i; size = 0; partner = sym (fun_ext hq) i; room = 1; weight = sym (el_one m t) i })
      (start_found 𝕂 (of s))

  pub found_move : (s : List ℕ) {p p' q q' : List ℕ} {n n' o o' w w' r r' : ℕ} → p' ≡ p → n' ≡ n → q' ≡ q → o' ≡ o → w' ≡ w → r' ≡ r →
      Found (K m t) (at m t s) (state p n q o w) r → Found (K m t) (at m t s) (state p' n' q' o' w') r'
  found_move s e f g h i j = transport (λ x. Found 𝕂 (of s) (state (sym e x) (sym f x) (sym g x) (sym h x) (sym i x)) (sym j x))

  nils : (p : List ℕ) → ((k : ℕ) → k < length p → get_or p k 0 ≡ 0) → (k : ℕ) → get_or p k 0 ≡ 0
  nils p h k = elim (dec_lt k (length p)) [ yes l ↦ h k l | no nl ↦ get_or-eq_default p 0 (omega arith) ]

  el_nil : (d : ℕ) → d ≡ 0 → el d ≡ 𝕂.zero
  el_nil d e = ap el e ∙ el_zero m t

  unit_at : (p : List ℕ) → 0 < length p → ((k : ℕ) → k < length p → get_or p k 0 ≡ 0) → (k : ℕ) → of (set p 0 1) k ≡ unit 𝕂 k
  unfolding at
  unit_at p l h zero = ap el (get_or-set_same p 0 1 0 l) ∙ el_one m t
  unit_at p l h (suc k) = el_nil _ (get_or-set_other p 0 (suc k) 1 0 (λ e. omega arith) ∙ nils p h (suc k))

  partner_at : (q : List ℕ) → 1 < length q → ((k : ℕ) → k < length q → get_or q k 0 ≡ 0) → (k : ℕ) → of (set q 1 1) k ≡ up 𝕂 (unit 𝕂) k
  unfolding at
  partner_at q l h zero = el_nil _ (get_or-set_other q 1 0 1 0 (λ e. omega arith) ∙ nils q h 0)
  partner_at q l h (suc zero) = ap el (get_or-set_same q 1 1 0 l) ∙ el_one m t
  partner_at q l h (suc (suc k)) = el_nil _ (get_or-set_other q 1 (suc (suc k)) 1 0 (λ e. omega arith) ∙ nils q h (suc (suc k)))

  pub start_here : (s p q : List ℕ) → 0 < length p → ((k : ℕ) → k < length p → get_or p k 0 ≡ 0) → 1 < length q → ((k : ℕ) → k < length q → get_or q k 0 ≡ 0) →
      Found (K m t) (at m t s) (state (set p 0 1) 0 (set q 1 1) 1 1) 0
  start_here s p q lp hp lq hq = start_lists s (set p 0 1) (set q 1 1) (unit_at p lp hp) (partner_at q lq hq)

  pub one_below : (p : List ℕ) → ((k : ℕ) → k < length p → get_or p k 0 ≡ 0) → (k : ℕ) → k < length (set p 0 1) → get_or (set p 0 1) k 0 < m.q
  one_below p h zero l = let l' : 0 < length p = subst (λ (n : ℕ). 0 < n) (length-set p 0 1) l in subst (λ (n : ℕ). n < m.q) (sym (get_or-set_same p 0 1 0 l')) t.two
  one_below p h (suc k) l = subst (λ (n : ℕ). n < m.q) (sym (get_or-set_other p 0 (suc k) 1 0 (λ e. omega arith) ∙ nils p h (suc k))) (some m t)
