-- A line with some places set.
use Rattle.std.proofs.Common.{◌≡◌, ℕ, zero, suc, ◌+◌, ◌<◌, ◌≤◌, Bool, true, false, cond, eqb, List, [], ◌∷◌, length, get_or, set, sym, refl, ap, ◌∙◌, subst, arith, length-set, get_or-set_other, get_or-set_same, eq-eqb, eqb-true}
use native.Mathlib.Decide.{ℕ_discrete}
use Rattle.codes.specs.Meaning.{differ}
use Rattle.codes.proofs.Lines.{differ_same}
use Rattle.errors.specs.Places.{patched}

-- one more place that differs
pub differ_set : (xs ys : List ℕ) (k v : ℕ) → length xs ≡ length ys → k < length xs → get_or ys k 0 ≡ get_or xs k 0 → ¬ (v ≡ get_or xs k 0) → differ xs (set ys k v) ≡ suc (differ xs ys)
differ_set [] ys k v e l s n = absurd (omega arith)
differ_set (x ∷ xs) [] k v e l s n = absurd (omega (arith, e))
differ_set (x ∷ xs) (y ∷ ys) zero v e l s n =
    let same : eqb x y ≡ true = eq-eqb x y (sym s) in
    ap (λ b. cond b 0 1 + differ xs ys) (no (eqb x v) (λ h. n (sym (eqb-true x v h)))) ∙ sym (ap (λ b. suc (cond b 0 1 + differ xs ys)) same ∙ omega arith)
  where
    no : (b : Bool) → (b ≡ true → ⊥) → b ≡ false
    no true h = absurd (h refl)
    no false h = refl
differ_set (x ∷ xs) (y ∷ ys) (suc k) v e l s n =
    let r = differ_set xs ys k v (omega (arith, e)) (omega arith) s n in omega (arith, r)

-- at most one more place that differs
pub differ_set_most : (xs ys : List ℕ) (k v : ℕ) → differ xs (set ys k v) ≤ suc (differ xs ys)
differ_set_most [] ys k v = omega arith
differ_set_most (x ∷ xs) [] k v = omega arith
differ_set_most (x ∷ xs) (y ∷ ys) zero v = most (eqb x v) (eqb x y)
  where
    most : (a b : Bool) → cond a 0 1 + differ xs ys ≤ suc (cond b 0 1 + differ xs ys)
    most true b = omega arith
    most false b = omega arith
differ_set_most (x ∷ xs) (y ∷ ys) (suc k) v = let r = differ_set_most xs ys k v in omega arith

pub patched_length : (line found fixed : List ℕ) (c : ℕ) → length (patched line found fixed c) ≡ length line
unfolding patched
patched_length line found fixed zero = refl
patched_length line found fixed (suc c) = length-set (patched line found fixed c) (get_or found c 0) (get_or fixed c 0) ∙ patched_length line found fixed c

pub patched_other : (line found fixed : List ℕ) (c k : ℕ) → ((i : ℕ) → i < c → ¬ (k ≡ get_or found i 0)) → get_or (patched line found fixed c) k 0 ≡ get_or line k 0
unfolding patched
patched_other line found fixed zero k h = refl
patched_other line found fixed (suc c) k h =
    get_or-set_other (patched line found fixed c) (get_or found c 0) k (get_or fixed c 0) 0 (h c (omega arith)) ∙ patched_other line found fixed c k (λ i l. h i (omega arith))

pub patched_none : (line found fixed : List ℕ) → patched line found fixed 0 ≡ line
unfolding patched
patched_none line found fixed = refl

pub patched_more : (line found fixed : List ℕ) (c : ℕ) → set (patched line found fixed c) (get_or found c 0) (get_or fixed c 0) ≡ patched line found fixed (suc c)
unfolding patched
patched_more line found fixed c = refl

pub patched_near : (line found fixed : List ℕ) (c : ℕ) → differ line (patched line found fixed c) ≤ c
unfolding patched
patched_near line found fixed zero = let e = differ_same line in omega arith
patched_near line found fixed (suc c) =
    let r = patched_near line found fixed c in
    let h = differ_set_most line (patched line found fixed c) (get_or found c 0) (get_or fixed c 0) in
    omega arith

pub patched_below : (q : ℕ) (line found fixed : List ℕ) (c : ℕ) → ((k : ℕ) → k < length line → get_or line k 0 < q)
    → ((i : ℕ) → i < c → get_or fixed i 0 < q) → (k : ℕ) → k < length line → get_or (patched line found fixed c) k 0 < q
unfolding patched
patched_below q line found fixed zero hl hf k l = hl k l
patched_below q line found fixed (suc c) hl hf k l = elim (ℕ_discrete k (get_or found c 0)) [
  | yes e ↦ subst (λ (n : ℕ). n < q) (sym (ap (λ a. get_or (set (patched line found fixed c) (get_or found c 0) (get_or fixed c 0)) a 0) e
      ∙ get_or-set_same (patched line found fixed c) (get_or found c 0) (get_or fixed c 0) 0 (let h = patched_length line found fixed c in omega arith))) (hf c (omega arith))
  | no ne ↦ subst (λ (n : ℕ). n < q) (sym (get_or-set_other (patched line found fixed c) (get_or found c 0) k (get_or fixed c 0) 0 ne)) (patched_below q line found fixed c hl (λ i li. hf i (omega arith)) k l)
]

module _ (line found fixed : List ℕ) (n : ℕ) (inside : (i : ℕ) → i < n → get_or found i 0 < length line) (once : (i j : ℕ) → i < n → j < n → get_or found i 0 ≡ get_or found j 0 → i ≡ j) where
  fresh : (c : ℕ) → c < n → get_or (patched line found fixed c) (get_or found c 0) 0 ≡ get_or line (get_or found c 0) 0
  fresh c l = patched_other line found fixed c (get_or found c 0) (λ i li e. let r = once c i l (omega arith) e in omega arith)

  pub patched_at : (c i : ℕ) → c ≤ n → i < c → get_or (patched line found fixed c) (get_or found i 0) 0 ≡ get_or fixed i 0
  unfolding patched
  patched_at zero i l li = absurd (omega arith)
  patched_at (suc c) i l li = elim (ℕ_discrete i c) [
    | yes e ↦ ap (λ a. get_or (set (patched line found fixed c) (get_or found c 0) (get_or fixed c 0)) (get_or found a 0) 0) e
        ∙ get_or-set_same (patched line found fixed c) (get_or found c 0) (get_or fixed c 0) 0 (let h = patched_length line found fixed c in let r = inside c l in omega arith) ∙ ap (λ a. get_or fixed a 0) (sym e)
    | no ne ↦ get_or-set_other (patched line found fixed c) (get_or found c 0) (get_or found i 0) (get_or fixed c 0) 0 (λ e. let r = once i c (omega arith) l e in omega arith) ∙ patched_at c i (omega arith) (omega arith)
  ]

  pub patched_differ : (c : ℕ) → c ≤ n → ((i : ℕ) → i < n → ¬ (get_or fixed i 0 ≡ get_or line (get_or found i 0) 0)) → differ line (patched line found fixed c) ≡ c
  unfolding patched
  patched_differ zero l h = differ_same line
  patched_differ (suc c) l h =
      differ_set line (patched line found fixed c) (get_or found c 0) (get_or fixed c 0) (sym (patched_length line found fixed c)) (inside c l) (fresh c l) (h c l)
      ∙ ap suc (patched_differ c (omega arith) h)
