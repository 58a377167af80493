-- The places at which two lines differ, as the weight of their difference.
use Rattle.std.proofs.Common.{◌≡◌, ℕ, zero, suc, ◌+◌, ◌<◌, Bool, true, false, cond, eqb, List, [], ◌∷◌, length, get_or, refl, ap, ◌∙◌, arith, eq-eqb, eqb-true}
use Rattle.fields.specs.Laws.{Meaning, FieldLaws}
use Rattle.algebra.proofs.Ring.{same_of_sum}
use Rattle.algebra.proofs.Weights.{weight}
use Rattle.algebra.proofs.FirstRoot.{weight_front_zero, weight_front_more}
use Rattle.algebra.proofs.Elements.{Element, el_same}
use Rattle.codes.specs.Meaning.{differ, Below}
use Rattle.algebra.proofs.Numbers.{K, ⟨◌⟩, at}

pub below_at : (q : ℕ) (xs : List ℕ) → Below q xs → (i : ℕ) → i < length xs → get_or xs i 0 < q
below_at q [] b i l = absurd (omega arith)
below_at q (x ∷ xs) b zero l = b.0
below_at q (x ∷ xs) b (suc i) l = below_at q xs b.1 i (omega arith)

pub all_below : (q : ℕ) (xs : List ℕ) → ((i : ℕ) → i < length xs → get_or xs i 0 < q) → Below q xs
all_below q [] h = tt
all_below q (x ∷ xs) h = (h 0 (omega arith), all_below q xs (λ i l. h (suc i) (omega arith)))

module _ (m : Meaning) (t : FieldLaws m) where
  -- the difference of two lines
  unfoldable pub error : List ℕ → List ℕ → ℕ → Element m
  error v w i = (K m t).add (at m t v i) (at m t w i)

  pub weight_differ : (v w : List ℕ) → length v ≡ length w → Below m.q v → Below m.q w → weight (K m t) (length v) (error v w) ≡ differ v w
  weight_differ [] [] e bv bw = unfold weight in refl
  weight_differ [] (y ∷ ys) e bv bw = absurd (omega (arith, e))
  weight_differ (x ∷ xs) [] e bv bw = absurd (omega (arith, e))
  weight_differ (x ∷ xs) (y ∷ ys) e bv bw = case (weight_differ xs ys (omega (arith, e)) bv.1 bw.1) (eqb x y) refl
    where
      case : weight (K m t) (length xs) (error xs ys) ≡ differ xs ys → (b : Bool) → eqb x y ≡ b → weight (K m t) (suc (length xs)) (error (x ∷ xs) (y ∷ ys)) ≡ cond b 0 1 + differ xs ys
      case r true h =
          let rest : weight (K m t) (length xs) (λ i. error (x ∷ xs) (y ∷ ys) (suc i)) ≡ differ xs ys = unfold error at in r in
          let z : error (x ∷ xs) (y ∷ ys) 0 ≡ (K m t).zero = unfold error at in ap (λ a. (K m t).add (⟨◌⟩ m t a) (⟨◌⟩ m t y)) (eqb-true x y h) ∙ (K m t).add_self (⟨◌⟩ m t y) in
          omega (arith, weight_front_zero (K m t) (length xs) (error (x ∷ xs) (y ∷ ys)) z, rest)
      case r false h =
          let rest : weight (K m t) (length xs) (λ i. error (x ∷ xs) (y ∷ ys) (suc i)) ≡ differ xs ys = unfold error at in r in
          let ne : ¬ (error (x ∷ xs) (y ∷ ys) 0 ≡ (K m t).zero) = unfold error at in λ z.
          let s : x ≡ y = el_same m t x y bv.0 bw.0 (same_of_sum (K m t) _ _ z) in
          let q = eq-eqb x y s in
          let o : ◌≡◌ {A = ℕ} 0 1 = cc in absurd (omega arith) in
          omega (arith, weight_front_more (K m t) (length xs) (error (x ∷ xs) (y ∷ ys)) ne, rest)
