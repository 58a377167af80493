-- A line with a codeword in reach: what the parts find leads to that codeword.
use Rattle.std.proofs.Common.{◌≡◌, ℕ, suc, ◌+◌, ◌-◌, ◌<◌, ◌≤◌, Bool, true, false, List, length, get_or, sym, refl, ap, ◌∙◌, subst, ap₂, arith, eq-eqb, eqb-true}
use native.Mathlib.Decide.{ℕ_discrete}
use Rattle.std.proofs.lemmas.List.{ext_get_or}
use Rattle.fields.specs.Laws.{Meaning, FieldLaws}
use Rattle.fields.specs.Laws.{power as raised}
use Rattle.algebra.proofs.Field.{Field}
use Rattle.algebra.proofs.Ring.{ring, same_of_sum, zero_mul, add_again}
use Rattle.algebra.proofs.Sums.{sum, sum_cong}
use Rattle.algebra.proofs.Places.{power, Distinct}
use Rattle.algebra.proofs.Places.{syndrome as theirs}
use Rattle.algebra.proofs.Locator.{inv_same, power_nonzero}
use Rattle.algebra.proofs.Weights.{weight, sparse, Sparse, sums_of_error}
use Rattle.algebra.proofs.FirstRoot.{from, from_zero, from_back, from_is, syndrome_from}
use Rattle.algebra.proofs.Elements.{Element, el_of, el_zero, el_add, el_mul, el_inv, el_power, el_same}
use Rattle.codes.specs.Meaning.{differ, Below}
use Rattle.algebra.specs.Lines.{syndrome}
use Rattle.reed_solomon.specs.Words.{zeros}
use Rattle.algebra.specs.Sums.{value}
use Rattle.solving.specs.Solving.{power_sum, Explains, Locates, LocatesAll}
use Rattle.errors.specs.Places.{root_at, count, Lists, located_at, Weighs, value_of_error, patched}
use Rattle.algebra.proofs.Numbers.{K, ⟨◌⟩, at, sums_below, power_below}
use Rattle.algebra.proofs.Lines.{place, place_number, el_syndrome, places_apart, places_some}
use Rattle.reed_solomon.proofs.Differ.{error, weight_differ, below_at}
use Rattle.reed_solomon.proofs.Apart.{no_sums}
use Rattle.solving.proofs.Promise.{el_power_sum}
use Rattle.errors.proofs.Listed.{lists_sum, count_weight}
use Rattle.errors.proofs.Patched.{patched_at, patched_other, patched_length}

not_true : (b : Bool) → (b ≡ true → ⊥) → b ≡ false
not_true true h = absurd (h refl)
not_true false h = refl

both : (b : Bool) → b ≡ true → b ≡ false → ⊥
both b p q = let z : ◌≡◌ {A = ℕ} 0 1 = cc in omega arith

module _ (m : Meaning) (t : FieldLaws m) (line v places s : List ℕ) (b : ℕ)
    (long : length v ≡ length line) (big : 2 < m.q) (fits : length line < m.q) (bl : Below m.q line) (bv : Below m.q v)
    (word : zeros (λ i. syndrome m v (b + i)) (length s) ≡ true)
    (few : differ line v + differ line v ≤ length s)
    (lp : (p : ℕ) → p < length line → get_or places p 0 ≡ raised m.mul m.g (length line - 1 - p))
    (ls : (k : ℕ) → k < length s → get_or s k 0 ≡ syndrome m line (b + k)) where
  abbrev 𝕂 : Field (Element m)
  𝕂 = K m t

  abbrev el : ℕ → Element m
  el = ⟨◌⟩ m t

  abbrev n : ℕ
  n = length line

  abbrev P : ℕ → Element m
  P = place m t (length line)

  abbrev e : ℕ → Element m
  e = error m t line v

  -- the weights of the errors
  abbrev f : ℕ → Element m
  f = from (K m t) b (place m t (length line)) (error m t line v)

  place_el : (p : ℕ) → p < n → el (get_or places p 0) ≡ P p
  place_el p l = ap el (lp p l) ∙ sym (place_number m t n p)

  place_below : (p : ℕ) → p < n → get_or places p 0 < m.q
  place_below p l = subst (λ (a : ℕ). a < m.q) (sym (lp p l)) (power_below m t m.g (n - 1 - p))

  place_some : (p : ℕ) → p < n → 0 < get_or places p 0
  place_some p l = elim (ℕ_discrete (get_or places p 0) 0) [
    | yes z ↦ absurd (places_some m t n big p (sym (place_el p l) ∙ ap el z ∙ el_zero m t))
    | no nz ↦ omega arith
  ]

  place_apart : (i j : ℕ) → i < n → j < n → P i ≡ P j → i ≡ j
  place_apart = unfold Distinct in places_apart m t n fits

  place_same : (i j : ℕ) → i < n → j < n → get_or places i 0 ≡ get_or places j 0 → i ≡ j
  place_same i j li lj q = place_apart i j li lj (sym (place_el i li) ∙ ap el q ∙ place_el j lj)

  back : (i : ℕ) → 𝕂.add (at m t v i) (e i) ≡ at m t line i
  unfolding error
  back i = simp ring

  sum_is : (k : ℕ) → k < length s → at m t s k ≡ theirs 𝕂 n P f k
  sum_is k l =
      first ∙ el_syndrome m t line (b + k) ∙ split
      ∙ sums_of_error 𝕂 n P (at m t v) e (b + k) (subst (λ (a : ℕ). theirs 𝕂 a (place m t a) (at m t v) (b + k) ≡ 𝕂.zero) long (no_sums m t v b (length s) word k l))
      ∙ syndrome_from 𝕂 n P e b k
    where
      first : at m t s k ≡ ⟨◌⟩ m t (syndrome m line (b + k))
      first = unfold at in ap (⟨◌⟩ m t) (ls k l)

      split : theirs (K m t) (length line) (place m t (length line)) (at m t line) (b + k) ≡ theirs (K m t) (length line) (place m t (length line)) (λ i. (K m t).add (at m t v i) (error m t line v i)) (b + k)
      split = unfold theirs in sum_cong (K m t) (length line) _ _ (λ i l. ap (λ a. (K m t).mul a (power (K m t) (place m t (length line) i) (b + k))) (sym (back i)))

  w : ℕ
  w = weight 𝕂 n e

  pub weight_is : weight (K m t) (length line) (error m t line v) ≡ differ line v
  weight_is = weight_differ m t line v (sym long) bl bv

  f_zero : (i : ℕ) → e i ≡ 𝕂.zero → f i ≡ 𝕂.zero
  f_zero i z = from_zero 𝕂 b P e i z

  f_some : (i : ℕ) → ¬ (e i ≡ 𝕂.zero) → ¬ (f i ≡ 𝕂.zero)
  f_some i h z = h (from_back 𝕂 b P e i (places_some m t n big i) z)

  term_zero : (k i : ℕ) → e i ≡ 𝕂.zero → 𝕂.mul (f i) (power 𝕂 (P i) k) ≡ 𝕂.zero
  term_zero k i z = ap (λ a. 𝕂.mul a (power 𝕂 (P i) k)) (f_zero i z) ∙ zero_mul 𝕂 _

  -- sums over a list of places that has all the errors
  terms_over : (c : ℕ) (pos : ℕ → ℕ) → ((j : ℕ) → j < c → pos j < n)
      → ((h : ℕ → Element m) → ((i : ℕ) → i < n → e i ≡ 𝕂.zero → h i ≡ 𝕂.zero) → sum 𝕂 n h ≡ sum 𝕂 c (λ j. h (pos j))) →
      (k : ℕ) → k < length s → get_or s k 0 < m.q → get_or s k 0 ≡ power_sum m c (λ j. get_or places (pos j) 0) (λ j. (f (pos j)).0) k
  terms_over c pos inside sums k l low =
      el_same m t _ _ low below (here ∙ sum_is k l ∙ there ∙ sym (el_power_sum m t c (λ j. get_or places (pos j) 0) (λ j. (f (pos j)).0) k))
    where
      here : ⟨◌⟩ m t (get_or s k 0) ≡ at m t s k
      here = unfold at in refl

      below : power_sum m c (λ j. get_or places (pos j) 0) (λ j. (from (K m t) b (place m t (length line)) (error m t line v) (pos j)).0) k < m.q
      below = unfold power_sum in sums_below m t _ c

      there : theirs (K m t) (length line) (place m t (length line)) (from (K m t) b (place m t (length line)) (error m t line v)) k
          ≡ theirs (K m t) c (λ j. ⟨◌⟩ m t (get_or places (pos j) 0)) (λ j. ⟨◌⟩ m t (from (K m t) b (place m t (length line)) (error m t line v) (pos j)).0) k
      there = unfold theirs in
          sums (λ i. (K m t).mul (from (K m t) b (place m t (length line)) (error m t line v) i) (power (K m t) (place m t (length line) i) k)) (λ i li z. term_zero k i z)
          ∙ sum_cong (K m t) c _ _ (λ j lj. ap₂ (λ a x. (K m t).mul a (power (K m t) x k)) (sym (el_of m t (from (K m t) b (place m t (length line)) (error m t line v) (pos j)))) (sym (place_el (pos j) (inside j lj))))

  s_below : (k : ℕ) → k < length s → get_or s k 0 < m.q
  s_below k l = subst (λ (a : ℕ). a < m.q) (sym (ls k l)) (unfold syndrome in sums_below m t _ (length line))

  positive : (i : ℕ) → ¬ (e i ≡ 𝕂.zero) → 0 < (f i).0
  positive i h = elim (ℕ_discrete (f i).0 0) [
    | yes z ↦ absurd (f_some i h (sym (el_of m t (f i)) ∙ ap el z ∙ el_zero m t))
    | no nz ↦ omega arith
  ]

  abbrev pos : ℕ → ℕ
  pos = (sparse 𝕂 n e).0

  abbrev sp : Sparse 𝕂 n e (weight 𝕂 n e) pos
  sp = (sparse 𝕂 n e).1

  explains : Explains m s (weight 𝕂 n e) (λ j. get_or places (pos j) 0) (λ j. (f (pos j)).0)
  explains = record {
    apart = λ i j li lj q. sp.apart i j li lj (place_same (pos i) (pos j) (sp.inside i li) (sp.inside j lj) q);
    locators = λ j l. (place_some (pos j) (sp.inside j l), place_below (pos j) (sp.inside j l));
    weights = λ j l. (positive (pos j) (sp.nonzero j l), (f (pos j)).1);
    sums = λ k l. terms_over (weight 𝕂 n e) pos sp.inside sp.sums k l (s_below k l);
  }

  -- something short explains the syndromes: the wrong places of the line
  pub explained_at : ((w : ℕ) (pos Y : ℕ → ℕ) → ((j : ℕ) → j < w → pos j < length line) → Explains m s w (λ j. get_or places (pos j) 0) Y → w + w ≤ length s → ⊥) → ⊥
  explained_at h = h (weight 𝕂 n e) pos (λ j. (f (pos j)).0) sp.inside explains (let d = weight_is in omega arith)

  module _ (c : List ℕ) (degree : ℕ) (size : length c ≡ suc degree) (sol : LocatesAll m s c) where
    located : Locates m (weight 𝕂 n e) (λ j. get_or places (pos j) 0) c
    located = sol (weight 𝕂 n e) (λ j. get_or places (pos j) 0) (λ j. (f (pos j)).0) explains (let h = weight_is in omega arith)

    degree_weight : degree ≡ weight 𝕂 n e
    degree_weight = omega (arith, located.degree, size)

    pub degree_is : degree ≡ differ line v
    degree_is = degree_weight ∙ weight_is

    abbrev root : ℕ → Bool
    root = root_at m c places

    root_error : (k : ℕ) → k < n → root k ≡ true → ¬ (e k ≡ 𝕂.zero)
    unfolding root_at
    root_error k l h z =
        let val : value m c (suc (weight 𝕂 n e)) (m.inv (get_or places k 0)) ≡ 0 = ap (λ a. value m c a (m.inv (get_or places k 0))) (sym located.degree) ∙ eqb-true _ 0 h in
        let o = located.only (m.inv (get_or places k 0)) (t.inv_below _) val in
        let q : P k ≡ P (pos o.0) =
        inv_same 𝕂 (P k) (P (pos o.0)) (places_some m t n big k) (places_some m t n big (pos o.0))
        (ap 𝕂.inv (sym (place_el k l)) ∙ sym (el_inv m t _) ∙ ap el o.2 ∙ el_inv m t _ ∙ ap 𝕂.inv (place_el (pos o.0) (sp.inside o.0 o.1))) in
        let same : k ≡ pos o.0 = place_apart k (pos o.0) l (sp.inside o.0 o.1) q in
        sp.nonzero o.0 o.1 (ap e (sym same) ∙ z)

    error_root : (k : ℕ) → k < n → ¬ (e k ≡ 𝕂.zero) → root k ≡ true
    unfolding root_at
    error_root k l h =
        let o = sp.covers k l h in
        eq-eqb _ 0 (ap₂ (λ a x. value m c a (m.inv (get_or places x 0))) located.degree o.2 ∙ located.root o.0 o.1)

    no_root : (k : ℕ) → k < n → root k ≡ false → e k ≡ 𝕂.zero
    no_root k l h = elim (𝕂.same (e k) 𝕂.zero) [ yes z ↦ z | no ne ↦ absurd (both (root k) (error_root k l ne) h) ]

    pub counted : count (root_at m c places) (length line) ≡ degree
    counted = count_weight 𝕂 root e n root_error no_root ∙ sym degree_weight

    module _ (found fixed : List ℕ) (lists : Lists (root_at m c places) (length line) found degree) where
      abbrev at_found : ℕ → ℕ
      at_found i = get_or found i 0

      abbrev pub Y : ℕ → ℕ
      Y i = (from (K m t) b (place m t (length line)) (error m t line v) (get_or found i 0)).0

      pub weighs : Weighs m s degree (located_at places found) Y
      weighs = record {
        apart = λ i j li lj q. lists.once i j li lj (place_same (at_found i) (at_found j) (lists.inside i li) (lists.inside j lj) q);
        some = λ j l. place_some (at_found j) (lists.inside j l);
        elements = λ j l. (f (at_found j)).1;
        terms = λ k l. terms_over degree at_found lists.inside
            (λ h z. lists_sum 𝕂 root h n found degree lists (λ i li r. z i li (no_root i li r))) k l (s_below k l);
      }

      module _ (fixes : (j : ℕ) → j < degree → get_or fixed j 0 ≡ m.add (get_or line (get_or found j 0) 0) (value_of_error m b (located_at places found) Y j)) where
        right : (j : ℕ) → j < degree → get_or fixed j 0 ≡ get_or v (at_found j) 0
        right j l =
            let x = at_found j in
            let lx : x < n = lists.inside j l in
            let B = power 𝕂 (P x) b in
            let weight-el : el (m.mul (Y j) (m.inv (raised m.mul (get_or places x 0) b))) ≡ e x =
            el_mul m t _ _ ∙ ap₂ 𝕂.mul (el_of m t (f x) ∙ from_is 𝕂 b P e x) (el_inv m t _ ∙ ap 𝕂.inv (el_power m t _ b ∙ ap (λ a. power 𝕂 a b) (place_el x lx)))
            ∙ 𝕂.mul_assoc _ _ _ ∙ ap (𝕂.mul (e x)) (𝕂.mul_inv B (power_nonzero 𝕂 (P x) b (places_some m t n big x))) ∙ 𝕂.mul_one _ in
            el_same m t _ _ (subst (λ (a : ℕ). a < m.q) (sym (fixes j l)) (t.add_below _ _)) (below_at m.q v bv x (omega arith))
            (ap el (fixes j l) ∙ el_add m t _ _ ∙ ap (𝕂.add (el (get_or line x 0))) weight-el ∙ forth x)
          where
            forth : (x : ℕ) → (K m t).add (⟨◌⟩ m t (get_or line x 0)) (error m t line v x) ≡ ⟨◌⟩ m t (get_or v x 0)
            forth x = unfold error at in add_again (K m t) (⟨◌⟩ m t (get_or line x 0)) (⟨◌⟩ m t (get_or v x 0))

        differs : (k : ℕ) → k < n → ¬ (e k ≡ 𝕂.zero) → ¬ (get_or v k 0 ≡ get_or line k 0)
        differs k l h q = h (unfold error at in ap (λ a. (K m t).add (⟨◌⟩ m t (get_or line k 0)) (⟨◌⟩ m t a)) q ∙ (K m t).add_self _)

        agrees : (k : ℕ) → k < n → e k ≡ 𝕂.zero → get_or line k 0 ≡ get_or v k 0
        agrees k l z = el_same m t _ _ (below_at m.q line bl k l) (below_at m.q v bv k (omega arith)) (same_of_sum 𝕂 _ _ (unfold error at in z))

        -- each found byte changes, and the line becomes the codeword
        pub changes : (j : ℕ) → j < degree → ¬ (get_or fixed j 0 ≡ get_or line (get_or found j 0) 0)
        changes j l q = differs (at_found j) (lists.inside j l) (root_error (at_found j) (lists.inside j l) (lists.holds j l)) (sym (right j l) ∙ q)

        pub becomes : patched line found fixed degree ≡ v
        becomes = ext_get_or 0 (patched line found fixed degree) v (patched_length line found fixed degree ∙ sym long) (λ k l. at_place k (let h = patched_length line found fixed degree in omega arith))
          where
            at_place : (k : ℕ) → k < length line → get_or (patched line found fixed degree) k 0 ≡ get_or v k 0
            at_place k l = elim ((K m t).same (error m t line v k) (K m t).zero) [
              | yes z ↦ patched_other line found fixed degree k (λ i li q. root_error k l (ap (root_at m c places) q ∙ lists.holds i li) z) ∙ agrees k l z
              | no ne ↦ (let o = lists.all k l (error_root k l ne) in
                  ap (λ a. get_or (patched line found fixed degree) a 0) (sym o.2) ∙ patched_at line found fixed degree lists.inside lists.once degree o.0 (omega arith) o.1
                  ∙ right o.0 o.1 ∙ ap (λ a. get_or v a 0) o.2)
            ]
