-- Lines: at how many places two differ, and that each number is below a limit.
use Rattle.std.proofs.Common.{◌≡◌, ℕ, zero, suc, ◌+◌, ◌<◌, ◌≤◌, Bool, true, false, cond, eqb, List, [], ◌∷◌, length, get_or, sym, refl, ◌∙◌, arith, eq-eqb, eqb-true}
use Rattle.codes.specs.Meaning.{differ, Below}

pub below_at : (q : ℕ) (xs : List ℕ) → Below q xs → (i : ℕ) → i < length xs → get_or xs i 0 < q
below_at q [] b i l = absurd (omega arith)
below_at q (x ∷ xs) b zero l = b.0
below_at q (x ∷ xs) b (suc i) l = below_at q xs b.1 i (omega arith)

pub all_below : (q : ℕ) (xs : List ℕ) → ((i : ℕ) → i < length xs → get_or xs i 0 < q) → Below q xs
all_below q [] h = tt
all_below q (x ∷ xs) h = (h 0 (omega arith), all_below q xs (λ i l. h (suc i) (omega arith)))

-- a test that comes out neither way
neither : {A : Type 0} (b : Bool) → b ≡ true → b ≡ false → A
neither b p q = let z : ◌≡◌ {A = ℕ} 0 1 = cc in absurd (omega arith)

eqb_sym : (x y : ℕ) (b : Bool) → eqb x y ≡ b → eqb y x ≡ b
eqb_sym x y true h = eq-eqb y x (sym (eqb-true x y h))
eqb_sym x y false h = other (eqb y x) refl
  where
    other : (b : Bool) → eqb y x ≡ b → b ≡ false
    other true k = neither (eqb x y) (eq-eqb x y (sym (eqb-true y x k))) h
    other false k = refl

pub differ_same : (xs : List ℕ) → differ xs xs ≡ 0
differ_same [] = refl
differ_same (x ∷ xs) = let e = eq-eqb x x refl in let d = differ_same xs in rw (e, d)

pub differ_sym : (xs ys : List ℕ) → differ xs ys ≡ differ ys xs
differ_sym [] [] = refl
differ_sym [] (y ∷ ys) = refl
differ_sym (x ∷ xs) [] = refl
differ_sym (x ∷ xs) (y ∷ ys) =
    let r = differ_sym xs ys in
    let e : eqb y x ≡ eqb x y = eqb_sym x y (eqb x y) refl in
    rw (e, r)

pub differ_none : (xs ys : List ℕ) → length xs ≡ length ys → differ xs ys ≡ 0 → xs ≡ ys
differ_none [] [] e d = refl
differ_none [] (y ∷ ys) e d = absurd (omega (arith, e))
differ_none (x ∷ xs) [] e d = absurd (omega (arith, e))
differ_none (x ∷ xs) (y ∷ ys) e d = cons (eqb x y) refl (differ_none xs ys (omega (arith, e))) d
  where
    cons : (b : Bool) → eqb x y ≡ b → (differ xs ys ≡ 0 → xs ≡ ys) → cond b 0 1 + differ xs ys ≡ 0 → (x ∷ xs) ≡ (y ∷ ys)
    cons true h r d = let f = eqb-true x y h in let g = r (omega (arith, d)) in cc
    cons false h r d = absurd (omega (arith, d))

-- the way through a third line is no shorter
pub differ_through : (xs ys zs : List ℕ) → length xs ≡ length ys → differ xs zs ≤ differ xs ys + differ ys zs
differ_through [] ys zs e = omega arith
differ_through (x ∷ xs) [] zs e = absurd (omega (arith, e))
differ_through (x ∷ xs) (y ∷ ys) [] e = omega arith
differ_through (x ∷ xs) (y ∷ ys) (z ∷ zs) e = cases (eqb x z) (eqb x y) (eqb y z) refl refl refl (differ_through xs ys zs (omega (arith, e)))
  where
    cases : (a b c : Bool) → eqb x z ≡ a → eqb x y ≡ b → eqb y z ≡ c → differ xs zs ≤ differ xs ys + differ ys zs
        → cond a 0 1 + differ xs zs ≤ (cond b 0 1 + differ xs ys) + (cond c 0 1 + differ ys zs)
    cases true b c ha hb hc r = omega arith
    cases false false c ha hb hc r = omega arith
    cases false true false ha hb hc r = omega arith
    cases false true true ha hb hc r = neither (eqb x z) (eq-eqb x z (eqb-true x y hb ∙ eqb-true y z hc)) ha
