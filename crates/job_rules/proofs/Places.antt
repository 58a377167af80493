-- where-differ, place by place.
use Rattle.std.proofs.Common.{◌≡◌, ℕ, zero, suc, ◌<◌, ◌≤◌, Bool, true, false, cond, eqb, List, [], ◌∷◌, map, length, get_or, take, set, refl, ap, ◌∙◌, arith, eq-eqb}
use Rattle.job_rules.specs.Lines.{where_differ}

module _ {X : Type 0} (f : X → X) where
  pub length_wd : (xs ys : List ℕ) (rs : List X) → length (where_differ f xs ys rs) ≡ length rs
  unfolding where_differ
  length_wd [] ys rs = refl
  length_wd (x ∷ xs) [] rs = refl
  length_wd (x ∷ xs) (y ∷ ys) [] = refl
  length_wd (x ∷ xs) (y ∷ ys) (r ∷ rs) = ap suc (length_wd xs ys rs)

  pub wd_self : (xs : List ℕ) (rs : List X) → where_differ f xs xs rs ≡ rs
  unfolding where_differ
  wd_self [] rs = refl
  wd_self (x ∷ xs) [] = refl
  wd_self (x ∷ xs) (r ∷ rs) = let e = eq-eqb x x refl in let t = wd_self xs rs in rw (e, t)

  -- a table that was opened place by place
  pub wd_is : (d : X) (xs ys : List ℕ) (rs rs' : List X) → length xs ≡ length ys → length xs ≤ length rs → length rs' ≡ length rs →
      ((k : ℕ) → k < length xs → get_or rs' k d ≡ cond (eqb (get_or xs k 0) (get_or ys k 0)) (get_or rs k d) (f (get_or rs k d))) →
      ((k : ℕ) → length xs ≤ k → get_or rs' k d ≡ get_or rs k d) →
      rs' ≡ where_differ f xs ys rs
  unfolding where_differ
  wd_is d [] [] [] [] e w l h r = refl
  wd_is d [] [] [] (z ∷ zs) e w l h r = absurd (omega (arith, l))
  wd_is d [] [] (z ∷ zs) [] e w l h r = absurd (omega (arith, l))
  wd_is d [] [] (a ∷ rs) (b ∷ rs') e w l h r =
      let here : b ≡ a = r 0 (omega arith) in
      let rest : rs' ≡ rs = wd_is d [] [] rs rs' refl (omega arith) (omega (arith, l)) (λ k q. absurd (omega (arith, q))) (λ k q. r (suc k) (omega arith)) in
      cc
  wd_is d [] (y ∷ ys) rs rs' e w l h r = absurd (omega (arith, e))
  wd_is d (x ∷ xs) [] rs rs' e w l h r = absurd (omega (arith, e))
  wd_is d (x ∷ xs) (y ∷ ys) [] rs' e w l h r = absurd (omega (arith, w))
  wd_is d (x ∷ xs) (y ∷ ys) (a ∷ rs) [] e w l h r = absurd (omega (arith, l))
  wd_is d (x ∷ xs) (y ∷ ys) (a ∷ rs) (b ∷ rs') e w l h r =
      let here : b ≡ cond (eqb x y) a (f a) = h 0 (omega arith) in
      let rest = wd_is d xs ys rs rs' (omega (arith, e)) (omega (arith, w)) (omega (arith, l)) (λ k q. h (suc k) (omega (arith, q))) (λ k q. r (suc k) (omega (arith, q))) in
      cc

  -- what f does not change is not changed
  pub wd_keeps : {Y : Type 0} (g : X → Y) → ((r : X) → g (f r) ≡ g r) → (xs ys : List ℕ) (rs : List X) → map g (where_differ f xs ys rs) ≡ map g rs
  unfolding where_differ
  wd_keeps g h [] ys rs = refl
  wd_keeps g h (x ∷ xs) [] rs = refl
  wd_keeps g h (x ∷ xs) (y ∷ ys) [] = refl
  wd_keeps g h (x ∷ xs) (y ∷ ys) (r ∷ rs) =
      let rest = wd_keeps g h xs ys rs in
      let here : g (cond (eqb x y) r (f r)) ≡ g r = kept g (eqb x y) r (h r) in
      cc
    where
      kept : {Y : Type 0} (g : X → Y) (b : Bool) (r : X) → g (f r) ≡ g r → g (cond b r (f r)) ≡ g r
      kept g true r e = refl
      kept g false r e = e

-- where f is to X what f' is to Y
pub wd_map : {X Y : Type 0} (f : X → X) (f' : Y → Y) (g : X → Y) → ((r : X) → g (f r) ≡ f' (g r)) → (xs ys : List ℕ) (rs : List X) → map g (where_differ f xs ys rs) ≡ where_differ f' xs ys (map g rs)
unfolding where_differ
wd_map f f' g h [] ys rs = refl
wd_map f f' g h (x ∷ xs) [] rs = refl
wd_map f f' g h (x ∷ xs) (y ∷ ys) [] = refl
wd_map {X} {Y} f f' g h (x ∷ xs) (y ∷ ys) (r ∷ rs) =
    let rest = wd_map f f' g h xs ys rs in
    let here : g (cond (eqb x y) r (f r)) ≡ cond (eqb x y) (g r) (f' (g r)) = at (eqb x y) in
    cc
  where
    at : (b : Bool) → g (cond b r (f r)) ≡ cond b (g r) (f' (g r))
    at true = refl
    at false = h r

-- place by place again
pub wd_at : {X : Type 0} (f : X → X) (d : X) → (xs ys : List ℕ) (rs : List X) (k : ℕ) → length xs ≡ length ys → k < length xs → k < length rs → get_or (where_differ f xs ys rs) k d ≡ cond (eqb (get_or xs k 0) (get_or ys k 0)) (get_or rs k d) (f (get_or rs k d))
unfolding where_differ
wd_at f d [] ys rs k e l w = absurd (omega (arith, l))
wd_at f d (x ∷ xs) [] rs k e l w = absurd (omega (arith, e))
wd_at f d (x ∷ xs) (y ∷ ys) [] k e l w = absurd (omega (arith, w))
wd_at f d (x ∷ xs) (y ∷ ys) (r ∷ rs) zero e l w = refl
wd_at f d (x ∷ xs) (y ∷ ys) (r ∷ rs) (suc k) e l w = wd_at f d xs ys rs k (omega (arith, e)) (omega (arith, l)) (omega (arith, w))

-- one place more
pub wd_more : {X : Type 0} (f : X → X) (d : X) (k : ℕ) (xs ys : List ℕ) (rs : List X) → k < length xs → k < length ys →
    where_differ f (take (suc k) xs) (take (suc k) ys) rs ≡
    cond (eqb (get_or xs k 0) (get_or ys k 0)) (where_differ f (take k xs) (take k ys) rs) (set (where_differ f (take k xs) (take k ys) rs) k (f (get_or (where_differ f (take k xs) (take k ys) rs) k d)))
unfolding where_differ
wd_more f d k [] ys rs l w = absurd (omega (arith, l))
wd_more f d k (x ∷ xs) [] rs l w = absurd (omega (arith, w))
wd_more f d zero (x ∷ xs) (y ∷ ys) [] l w = none (eqb x y)
  where
    none : {X : Type 0} (b : Bool) → ◌≡◌ {A = List X} [] (cond b [] [])
    none true = refl
    none false = refl
wd_more f d zero (x ∷ xs) (y ∷ ys) (r ∷ rs) l w = first (eqb x y)
  where
    first : (b : Bool) → cond b r (f r) ∷ rs ≡ cond b (r ∷ rs) (f r ∷ rs)
    first true = refl
    first false = refl
wd_more f d (suc k) (x ∷ xs) (y ∷ ys) [] l w = none (eqb (get_or xs k 0) (get_or ys k 0))
  where
    none : {X : Type 0} (b : Bool) → ◌≡◌ {A = List X} [] (cond b [] [])
    none true = refl
    none false = refl
wd_more f d (suc k) (x ∷ xs) (y ∷ ys) (r ∷ rs) l w =
    let here = cond (eqb x y) r (f r) in
    ap (λ z. here ∷ z) (wd_more f d k xs ys rs (omega (arith, l)) (omega (arith, w))) ∙ under here (eqb (get_or xs k 0) (get_or ys k 0)) _ _
  where
    under : {X : Type 0} (h : X) (b : Bool) (u v : List X) → h ∷ cond b u v ≡ cond b (h ∷ u) (h ∷ v)
    under h true u v = refl
    under h false u v = refl
