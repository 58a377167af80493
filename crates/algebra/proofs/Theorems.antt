-- The theorems on numbers, from those of the theory.
use mathlib.Core.Path.{◌≡◌, refl, sym, ap, ap₂, subst, ◌∙◌}
use mathlib.Core.Bool.{Bool, true, false, cond}
use mathlib.Core.List.{List, [], ◌∷◌}
use Prim.Native.Nat.{ℕ, zero, suc, ◌+◌, ◌-◌, ◌<◌, ◌≤◌}
use native.Mathlib.Numerals.{add-one}
use native.Mathlib.Decide.{dec_lt}
use native.Mathlib.Omega.{arith}
use lib.Dec.{eqb}
use lib.ListN.{length, get_or}
use borrow.Author.Tests.{eqb-true}
use Rattle.fields.specs.Laws.{Meaning, FieldLaws}
use Rattle.fields.specs.Laws.{power as raised}
use Rattle.algebra.proofs.Field.{Field}
use Rattle.algebra.specs.Sums.{sums, value, coefficient}
use Rattle.algebra.specs.Lines.{locator}
use Rattle.algebra.specs.Theorems.{ExchangeOfSums, FewRoots, FunctionalOverSyndromes, nonzero, MinimumDistance, Generates, ShortestRecurrences}
use Rattle.algebra.proofs.Sums.{sum, sum_cong, sum_swap}
use Rattle.algebra.proofs.Places.{power, eval, functional, Distinct}
use Rattle.algebra.proofs.Places.{syndrome as theirs}
use Rattle.algebra.proofs.Product.{product, product_sum}
use Rattle.algebra.proofs.Massey.{massey}
use Rattle.algebra.proofs.Massey.{Generates as GeneratesSequence}
use Rattle.algebra.proofs.Roots.{no_more_roots}
use Rattle.algebra.proofs.Weights.{weight}
use Rattle.algebra.proofs.FirstRoot.{from, from_is, syndrome_from, light_from, weight_front_zero, weight_front_more}
use Rattle.algebra.proofs.Elements.{Element, el_zero, el_mul, el_power, el_same, el_none}
use Rattle.algebra.proofs.Numbers.{K, ⟨◌⟩, at, at_is, el_sums, sums_below}
use Rattle.algebra.proofs.Lines.{place, place_number, el_syndrome, places_apart, places_nonzero}

module _ (m : Meaning) (t : FieldLaws m) where
  abbrev 𝕂 : Field (Element m)
  𝕂 = K m t

  -- sums of numbers are equal where they are in the theory
  same_sums : (f g : ℕ → ℕ) (a b : ℕ) → sum 𝕂 a (λ i. ⟨◌⟩ m t (f i)) ≡ sum 𝕂 b (λ i. ⟨◌⟩ m t (g i)) → sums m f a ≡ sums m g b
  same_sums f g a b e =
      el_same m t _ _ (sums_below m t f a) (sums_below m t g b) (el_sums m t f a ∙ e ∙ sym (el_sums m t g b))

  pub el_value : (p : List ℕ) (n x : ℕ) → ⟨◌⟩ m t (value m p n x) ≡ eval 𝕂 n (at m t p) (⟨◌⟩ m t x)
  unfolding value eval at
  el_value p n x = el_sums m t _ n ∙ sum_cong 𝕂 n _ _ (λ i l. el_mul m t _ _ ∙ ap (𝕂.mul (⟨◌⟩ m t (get_or p i 0))) (el_power m t x i))

  pub value_below : (p : List ℕ) (n x : ℕ) → value m p n x < m.q
  unfolding value
  value_below p n x = sums_below m t _ n

pub exchange : ExchangeOfSums
exchange m t f a b =
    same_sums m t (λ i. sums m (λ j. f i j) b) (λ j. sums m (λ i. f i j) a) a b
    (sum_cong (K m t) a _ _ (λ i l. el_sums m t (λ j. f i j) b)
    ∙ sum_swap (K m t) a b (λ i j. ⟨◌⟩ m t (f i j))
    ∙ sum_cong (K m t) b _ _ (λ j l. sym (el_sums m t (λ i. f i j) a)))

pub few_roots : FewRoots
few_roots m t p els z zs apart zeros i l =
    el_none m t (get_or p i 0) (els i l) (unfold at in coefficient)
  where
    coefficient : at m t p i ≡ (K m t).zero
    coefficient =
        no_more_roots (K m t) (length p) (at m t p) (λ j. ⟨◌⟩ m t (z j))
        (unfold Distinct in λ a b la lb e. apart a b la lb (el_same m t (z a) (z b) (zs a la) (zs b lb) e))
        (λ j lj. sym (el_value m t p (length p) (z j)) ∙ ap (⟨◌⟩ m t) (zeros j lj) ∙ el_zero m t)
        i l

pub functional_over_syndromes : FunctionalOverSyndromes
functional_over_syndromes m t line g b c =
    same_sums m t _ _ c (length line)
    (sum_cong (K m t) c _ (λ i. (K m t).mul (at m t g i) (theirs (K m t) n P (from (K m t) b P L) i)) (λ i l.
    el_mul m t _ _ ∙ ap₂ (K m t).mul (sym (at_is m t g i)) (el_syndrome m t line (b + i) ∙ syndrome_from (K m t) n P L b i))
    ∙ functional (K m t) n c P (from (K m t) b P L) (at m t g)
    ∙ sum_cong (K m t) n _ _ (λ p l. sym (share p)))
  where
    n : ℕ
    n = length line

    P : ℕ → Element m
    P = place m t (length line)

    L : ℕ → Element m
    L = at m t line

    share : (p : ℕ) → ⟨◌⟩ m t (m.mul (m.mul (get_or line p 0) (raised m.mul (locator m (length line) p) b)) (value m g c (locator m (length line) p)))
        ≡ (K m t).mul (from (K m t) b (place m t (length line)) (at m t line) p) (eval (K m t) c (at m t g) (place m t (length line) p))
    share p =
        let X = place_number m t (length line) p in
        el_mul m t _ _ ∙ ap₂ (K m t).mul
        (el_mul m t _ _
        ∙ ap₂ (K m t).mul (sym (at_is m t line p)) (el_power m t _ b ∙ ap (λ x. power (K m t) x b) (sym X))
        ∙ sym (from_is (K m t) b (place m t (length line)) (at m t line) p))
        (el_value m t g c _ ∙ ap (eval (K m t) c (at m t g)) (sym X))

-- past its end a list reads 0
get_d_past : (xs : List ℕ) (i : ℕ) → length xs ≤ i → get_or xs i 0 ≡ 0
get_d_past [] i l = refl
get_d_past (x ∷ xs) zero l = absurd (omega arith)
get_d_past (x ∷ xs) (suc i) l = get_d_past xs i (omega arith)

-- the weight of a line in the theory is at most the number of its nonzero symbols
weight_nonzero : (m : Meaning) (t : FieldLaws m) (line : List ℕ) → weight (K m t) (length line) (at m t line) ≤ nonzero line
weight_nonzero m t [] = unfold weight in omega arith
weight_nonzero m t (x ∷ xs) = case (weight_nonzero m t xs) (eqb x 0) refl
  where
    case : weight (K m t) (length xs) (at m t xs) ≤ nonzero xs → (d : Bool) → eqb x 0 ≡ d
        → weight (K m t) (suc (length xs)) (at m t (x ∷ xs)) ≤ cond d 0 1 + nonzero xs
    case h true e =
        let rest : weight (K m t) (length xs) (λ i. at m t (x ∷ xs) (suc i)) ≤ nonzero xs = unfold at in h in
        let z : at m t (x ∷ xs) 0 ≡ (K m t).zero = unfold at in ap (⟨◌⟩ m t) (eqb-true x 0 e) ∙ el_zero m t in
        omega (arith, weight_front_zero (K m t) (length xs) (at m t (x ∷ xs)) z, rest)
    case h false e =
        let rest : weight (K m t) (length xs) (λ i. at m t (x ∷ xs) (suc i)) ≤ nonzero xs = unfold at in h in
        elim ((K m t).same (at m t (x ∷ xs) 0) (K m t).zero) [
          | yes z ↦ omega (arith, weight_front_zero (K m t) (length xs) (at m t (x ∷ xs)) z, rest)
          | no nz ↦ omega (arith, weight_front_more (K m t) (length xs) (at m t (x ∷ xs)) nz, rest)
        ]

pub minimum_distance : MinimumDistance
minimum_distance m t line b c els fits few zeros p l =
    el_none m t (get_or line p 0) (els p l) (unfold at in
    light_from (K m t) (length line) c b (place m t (length line)) (at m t line)
    (places_apart m t (length line) fits) (places_nonzero m t (length line) fits)
    (λ k lk. sym (el_syndrome m t line (b + k)) ∙ ap (⟨◌⟩ m t) (zeros k lk) ∙ el_zero m t)
    (let h = weight_nonzero m t line in omega arith) p l)

module _ (m : Meaning) (t : FieldLaws m) where
  -- coefficients of a product, in the theory
  pub el_coefficient : (p s : List ℕ) (k : ℕ) → ⟨◌⟩ m t (coefficient m p s k) ≡ product (K m t) (at m t p) (at m t s) k
  unfolding coefficient
  el_coefficient p s k =
      el_sums m t _ (suc k)
      ∙ sum_cong (K m t) (suc k) _ _ (λ i l. el_mul m t _ _ ∙ ap₂ (K m t).mul (sym (at_is m t p i)) (sym (at_is m t s (k - i))))
      ∙ sym (product_sum (K m t) (at m t p) (at m t s) k)

  generates : (s p : List ℕ) (d r : ℕ) → Generates m s p d r → GeneratesSequence (K m t) (at m t s) (at m t p) d r
  generates s p d r g = record {
    known = record {
      degree = λ i l. at_is m t p i ∙ ap (⟨◌⟩ m t) (g.degree i l) ∙ el_zero m t;
      zeros = λ k l h. sym (el_coefficient p s k) ∙ ap (⟨◌⟩ m t) (g.zeros k l h) ∙ el_zero m t;
    };
    starts = λ e. elim (dec_lt 0 (length p)) [
      | yes l ↦ g.starts (el_none m t (get_or p 0 0) (g.elements 0 l) (sym (at_is m t p 0) ∙ e))
      | no nl ↦ g.starts (get_d_past p 0 (omega arith))
    ];
  }

pub shortest_recurrences : ShortestRecurrences
shortest_recurrences m t s p p' d d' r g fails h =
    massey (K m t) (at m t s) (at m t p) (at m t p') d d' r (generates m t s p d r g)
    (λ e. fails (el_none m t (coefficient m p s r) (unfold coefficient in sums_below m t _ (suc r)) (el_coefficient m t p s r ∙ e)))
    (subst (λ (n : ℕ). GeneratesSequence (K m t) (at m t s) (at m t p') d' n) (add-one r) (generates m t s p' d' (r + 1) h))
