-- What differ counts.
use Rattle.std.proofs.Common.{◌≡◌, ℕ, suc, ◌+◌, ◌<◌, ◌≤◌, Bool, true, false, cond, eqb, List, [], ◌∷◌, length, get_or, sym, refl, ◌∙◌, arith, eq-eqb, eqb-true}
use Rattle.codes.specs.Meaning.{differ, Below}

pub differ_same : (xs : List ℕ) → differ xs xs ≡ 0
differ_same [] = refl
differ_same (x ∷ xs) = let e = eq-eqb x x refl in let d = differ_same xs in rw (e, d)

differ_cons : (x y : ℕ) (xs ys : List ℕ) (b : Bool) → eqb x y ≡ b → (differ xs ys ≡ 0 → xs ≡ ys) → cond b 0 1 + differ xs ys ≡ 0 → (x ∷ xs) ≡ (y ∷ ys)
differ_cons x y xs ys true h r d = let f = eqb-true x y h in let g = r (omega (arith, d)) in cc
differ_cons x y xs ys false h r d = absurd (omega (arith, d))

pub differ_none : (xs ys : List ℕ) → length xs ≡ length ys → differ xs ys ≡ 0 → xs ≡ ys
differ_none [] [] e d = refl
differ_none [] (y ∷ ys) e d = absurd (omega (arith, e))
differ_none (x ∷ xs) [] e d = absurd (omega (arith, e))
differ_none (x ∷ xs) (y ∷ ys) e d = differ_cons x y xs ys (eqb x y) refl (differ_none xs ys (omega (arith, e))) d

pub all_below : (q : ℕ) (xs : List ℕ) → ((i : ℕ) → i < length xs → get_or xs i 0 < q) → Below q xs
all_below q [] h = tt
all_below q (x ∷ xs) h = (h 0 (omega arith), all_below q xs (λ i l. h (suc i) (omega arith)))

-- each place that differs between a and c differs on one of the ways over b
place : (x y z : ℕ) (a b c : Bool) → eqb x y ≡ a → eqb x z ≡ b → eqb x z ≡ b → eqb y z ≡ c → cond c 0 1 ≤ cond a 0 1 + cond b 0 1
place x y z true true true p q r s = omega arith
place x y z true true false p q r s = let e = eqb-true x y p in let f = eqb-true x z q in let g = eq-eqb y z (sym e ∙ f) in let w : ◌≡◌ {A = ℕ} 0 1 = cc in absurd (omega arith)
place x y z true false c p q r s = bound c
  where
    bound : (c : Bool) → cond c 0 1 ≤ 0 + 1
    bound true = omega arith
    bound false = omega arith
place x y z false b c p q r s = bound b c
  where
    bound : (b c : Bool) → cond c 0 1 ≤ 1 + cond b 0 1
    bound true true = omega arith
    bound true false = omega arith
    bound false true = omega arith
    bound false false = omega arith

-- two lines near a third are near each other
pub differ_via : (xs ys zs : List ℕ) → length xs ≡ length ys → length xs ≡ length zs → differ ys zs ≤ differ xs ys + differ xs zs
differ_via [] [] zs e f = omega arith
differ_via [] (y ∷ ys) zs e f = absurd (omega (arith, e))
differ_via (x ∷ xs) [] zs e f = omega arith
differ_via (x ∷ xs) (y ∷ ys) [] e f = absurd (omega (arith, f))
differ_via (x ∷ xs) (y ∷ ys) (z ∷ zs) e f =
    let r = differ_via xs ys zs (omega (arith, e)) (omega (arith, f)) in
    let p = place x y z (eqb x y) (eqb x z) (eqb y z) refl refl refl refl in
    omega (arith, r, p)

-- no more places differ than a line has
pub differ_le : (xs ys : List ℕ) → differ xs ys ≤ length ys
differ_le [] ys = omega arith
differ_le (x ∷ xs) [] = omega arith
differ_le (x ∷ xs) (y ∷ ys) = omega (arith, differ_le xs ys, bit (eqb x y))
  where
    bit : (b : Bool) → cond b 0 1 ≤ 1
    bit true = omega arith
    bit false = omega arith
