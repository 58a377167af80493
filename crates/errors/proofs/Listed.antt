-- Lists of the numbers below n that have a property.
use Rattle.std.proofs.Common.{◌≡◌, ℕ, zero, suc, ◌+◌, ◌-◌, ◌<◌, ◌≤◌, Bool, true, false, cond, List, [], ◌∷◌, ◌++◌, length, get_or, sym, refl, ap, ◌∙◌, ap₂, arith}
use Rattle.std.proofs.lemmas.List.{get_or_append_left}
use mathlib.Core.Path.{transport}
use native.Mathlib.Decide.{ℕ_discrete}
use Rattle.algebra.proofs.Field.{Field}
use Rattle.algebra.proofs.Sums.{sum, sum_none, sum_more, sum_cong, sum_zero}
use Rattle.algebra.proofs.Weights.{weight, weight_zero, weight_more}
use Rattle.errors.specs.Places.{count, Lists, Rises}

true_false : (b : Bool) → b ≡ true → b ≡ false → ⊥
true_false b p q = let z : ◌≡◌ {A = ℕ} 0 1 = cc in omega arith

not_true : (b : Bool) → (b ≡ true → ⊥) → b ≡ false
not_true true h = absurd (h refl)
not_true false h = refl

pushed_last : (xs : List ℕ) (n : ℕ) → get_or (xs ++ (n ∷ [])) (length xs) 0 ≡ n
pushed_last [] n = refl
pushed_last (x ∷ xs) n = pushed_last xs n

pushed_old : (xs : List ℕ) (n i : ℕ) → i < length xs → get_or (xs ++ (n ∷ [])) i 0 ≡ get_or xs i 0
pushed_old xs n i l = get_or_append_left xs (n ∷ []) 0 i l

pub lists_none : (f : ℕ → Bool) (xs : List ℕ) → Lists f 0 xs 0
lists_none f xs = record {
  inside = λ i l. absurd (omega arith);
  holds = λ i l. absurd (omega arith);
  once = λ i j l l' e. absurd (omega arith);
  all = λ k l h. absurd (omega arith);
}

pub lists_skip : (f : ℕ → Bool) (n : ℕ) (xs : List ℕ) (c : ℕ) → Lists f n xs c → f n ≡ false → Lists f (suc n) xs c
lists_skip f n xs c s z = record {
  inside = λ i l. let h = s.inside i l in omega arith;
  holds = s.holds;
  once = s.once;
  all = λ k l h. elim (ℕ_discrete k n) [ yes e ↦ absurd (true_false (f n) (ap f (sym e) ∙ h) z) | no ne ↦ s.all k (omega arith) h ];
}

pub lists_push : (f : ℕ → Bool) (n : ℕ) (xs : List ℕ) → Lists f n xs (length xs) → f n ≡ true → Lists f (suc n) (xs ++ (n ∷ [])) (suc (length xs))
lists_push f n xs s h = record {
  inside = λ i li. elim (ℕ_discrete i (length xs)) [
    | yes e ↦ (let q = ap (λ a. get_or (xs ++ (n ∷ [])) a 0) e ∙ pushed_last xs n in omega arith)
    | no ne ↦ (let q = pushed_old xs n i (omega arith) in let r = s.inside i (omega arith) in omega arith)
  ];
  holds = λ i li. elim (ℕ_discrete i (length xs)) [
    | yes e ↦ ap f (ap (λ a. get_or (xs ++ (n ∷ [])) a 0) e ∙ pushed_last xs n) ∙ h
    | no ne ↦ ap f (pushed_old xs n i (omega arith)) ∙ s.holds i (omega arith)
  ];
  once = λ i j li lj q. elim (ℕ_discrete i (length xs)) [
    | yes e ↦ elim (ℕ_discrete j (length xs)) [
      | yes e' ↦ e ∙ sym e'
      | no ne' ↦ absurd (let u = ap (λ a. get_or (xs ++ (n ∷ [])) a 0) e ∙ pushed_last xs n in let v = pushed_old xs n j (omega arith) in let r = s.inside j (omega arith) in omega arith)
    ]
    | no ne ↦ elim (ℕ_discrete j (length xs)) [
      | yes e' ↦ absurd (let u = ap (λ a. get_or (xs ++ (n ∷ [])) a 0) e' ∙ pushed_last xs n in let v = pushed_old xs n i (omega arith) in let r = s.inside i (omega arith) in omega arith)
      | no ne' ↦ s.once i j (omega arith) (omega arith) (sym (pushed_old xs n i (omega arith)) ∙ q ∙ pushed_old xs n j (omega arith))
    ]
  ];
  all = λ k lk hk. elim (ℕ_discrete k n) [
    | yes e ↦ (length xs, omega arith, pushed_last xs n ∙ sym e)
    | no ne ↦ (let o = s.all k (omega arith) hk in (o.0, omega (arith, o.1), pushed_old xs n o.0 o.1 ∙ o.2))
  ];
}

pub count_none : (f : ℕ → Bool) → count f 0 ≡ 0
unfolding count
count_none f = refl

pub count_skip : (f : ℕ → Bool) (n : ℕ) → f n ≡ false → count f (suc n) ≡ count f n
unfolding count
count_skip f n h = ap (λ b. cond b 1 0 + count f n) h ∙ omega arith

pub count_take : (f : ℕ → Bool) (n : ℕ) → f n ≡ true → count f (suc n) ≡ suc (count f n)
unfolding count
count_take f n h = ap (λ b. cond b 1 0 + count f n) h ∙ omega arith

either : (b : Bool) (P : Type 0) → (b ≡ true → P) → (b ≡ false → P) → P
either true P y n = y refl
either false P y n = n refl

pub count_mono : (f : ℕ → Bool) (n k : ℕ) → count f n ≤ count f (n + k)
count_mono f n zero = let e : n + 0 ≡ n = omega arith in let q = ap (count f) e in omega arith
count_mono f n (suc k) =
    let e : n + suc k ≡ suc (n + k) = omega arith in
    let q = ap (count f) e in
    let r = count_mono f n k in
    either (f (n + k)) (count f n ≤ count f (n + suc k))
    (λ h. let s = count_take f (n + k) h in omega arith)
    (λ h. let s = count_skip f (n + k) h in omega arith)

-- one more
pub count_past : (f : ℕ → Bool) (n k : ℕ) → f k ≡ true → k < n → count f k < count f n
count_past f n k h l =
    let s = count_take f k h in
    let d : suc k + (n - suc k) ≡ n = omega arith in
    let r = count_mono f (suc k) (n - suc k) in
    let u = ap (count f) d in
    omega arith

pub moved : (f : ℕ → Bool) {n n' c c' : ℕ} {xs xs' : List ℕ} → n ≡ n' → xs ≡ xs' → c ≡ c' → Lists f n xs c → Lists f n' xs' c'
moved f e g h = transport (λ i. Lists f (e i) (g i) (h i))

pub rises_none : (xs : List ℕ) → Rises xs 0
rises_none xs i j l l' = absurd (omega arith)

pub rises_push : (f : ℕ → Bool) (n : ℕ) (xs : List ℕ) → Lists f n xs (length xs) → Rises xs (length xs) → Rises (xs ++ (n ∷ [])) (suc (length xs))
rises_push f n xs s r i j lij lj =
    let qi = pushed_old xs n i (omega arith) in
    elim (ℕ_discrete j (length xs)) [
      | yes e ↦ (let q = ap (λ a. get_or (xs ++ (n ∷ [])) a 0) e ∙ pushed_last xs n in let h = s.inside i (omega arith) in omega arith)
      | no ne ↦ (let q = pushed_old xs n j (omega arith) in let h = r i j lij (omega arith) in omega arith)
    ]

module _ {F : Type 0} (K : Field F) where
  -- h, but 0 at x
  abbrev without : (ℕ → F) → ℕ → ℕ → F
  without h x k = elim (ℕ_discrete k x) [ yes e ↦ K.zero | no ne ↦ h k ]

  without_at : (h : ℕ → F) (x k : ℕ) → k ≡ x → without h x k ≡ K.zero
  without_at h x k e = elim (ℕ_discrete k x) as (λ d. elim d [ yes e ↦ K.zero | no ne ↦ h k ] ≡ K.zero) [ yes q ↦ refl | no nq ↦ absurd (nq e) ]

  without_other : (h : ℕ → F) (x k : ℕ) → ¬ (k ≡ x) → without h x k ≡ h k
  without_other h x k ne = elim (ℕ_discrete k x) as (λ d. elim d [ yes e ↦ K.zero | no ne ↦ h k ] ≡ h k) [ yes q ↦ absurd (ne q) | no nq ↦ refl ]

  sum_without_past : (h : ℕ → F) (x n : ℕ) → n ≤ x → sum K n (without h x) ≡ sum K n h
  sum_without_past h x n l = sum_cong K n _ _ (λ k lk. without_other h x k (λ e. omega arith))

  -- one term taken out of a sum
  sum_without : (h : ℕ → F) (x n : ℕ) → x < n → sum K n h ≡ K.add (sum K n (without h x)) (h x)
  sum_without h x zero l = absurd (omega arith)
  sum_without h x (suc n) l = elim (ℕ_discrete n x) [
    | yes e ↦ sum_more K n h ∙ ap₂ K.add (sym (sum_without_past h x n (omega arith))) (ap h e)
        ∙ sym (ap (λ a. K.add a (h x)) (sum_more K n (without h x) ∙ ap (K.add (sum K n (without h x))) (without_at h x n e) ∙ K.add_zero _))
    | no ne ↦ sum_more K n h ∙ ap (λ a. K.add a (h n)) (sum_without h x n (omega arith))
        ∙ K.add_assoc _ _ _ ∙ ap (K.add (sum K n (without h x))) (K.add_comm _ _) ∙ sym (K.add_assoc _ _ _)
        ∙ ap (λ a. K.add a (h x)) (ap (K.add (sum K n (without h x))) (sym (without_other h x n ne)) ∙ sym (sum_more K n (without h x)))
  ]

  -- a sum of what is 0 elsewhere, over different places in any order
  sum_over : (pos : ℕ → ℕ) (n c : ℕ) (h : ℕ → F) → ((i : ℕ) → i < c → pos i < n) → ((i j : ℕ) → i < c → j < c → pos i ≡ pos j → i ≡ j)
      → ((k : ℕ) → k < n → ((i : ℕ) → i < c → ¬ (pos i ≡ k)) → h k ≡ K.zero) → sum K n h ≡ sum K c (λ i. h (pos i))
  sum_over pos n zero h inside once z = sum_zero K n h (λ k l. z k l (λ i li. absurd (omega arith))) ∙ sym (sum_none K _)
  sum_over pos n (suc c) h inside once z =
      let x = pos c in
      sum_without h x n (inside c (omega arith))
      ∙ ap (λ a. K.add a (h x))
      (sum_over pos n c (without h x) (λ i l. inside i (omega arith)) (λ i j li lj. once i j (omega arith) (omega arith))
      (λ k l none. elim (ℕ_discrete k x) [
        | yes e ↦ without_at h x k e
        | no ne ↦ without_other h x k ne ∙ z k l (λ i li q. elim (ℕ_discrete i c) [ yes e ↦ ne (sym q ∙ ap pos e) | no nc ↦ none i (omega arith) q ])
      ])
      ∙ sum_cong K c _ _ (λ i l. without_other h x (pos i) (λ e. let q = once i c (omega arith) (omega arith) e in omega arith)))
      ∙ sym (sum_more K c (λ i. h (pos i)))

  pub lists_sum : (f : ℕ → Bool) (h : ℕ → F) (n : ℕ) (xs : List ℕ) (c : ℕ) → Lists f n xs c → ((k : ℕ) → k < n → f k ≡ false → h k ≡ K.zero)
      → sum K n h ≡ sum K c (λ i. h (get_or xs i 0))
  lists_sum f h n xs c s z = sum_over (λ i. get_or xs i 0) n c h s.inside s.once
      (λ k l none. z k l (not_true (f k) (λ t. let o = s.all k l t in none o.0 o.1 o.2)))

  pub count_weight : (f : ℕ → Bool) (e : ℕ → F) (n : ℕ) → ((k : ℕ) → k < n → f k ≡ true → ¬ (e k ≡ K.zero))
      → ((k : ℕ) → k < n → f k ≡ false → e k ≡ K.zero) → count f n ≡ weight K n e
  count_weight f e zero y z = count_none f ∙ unfold weight in refl
  count_weight f e (suc n) y z =
      let r = count_weight f e n (λ k l. y k (omega arith)) (λ k l. z k (omega arith)) in
      either (f n) (count f (suc n) ≡ weight K (suc n) e)
      (λ h. count_take f n h ∙ ap suc r ∙ sym (weight_more K n e (y n (omega arith) h)))
      (λ h. count_skip f n h ∙ r ∙ sym (weight_zero K n e (z n (omega arith) h)))
