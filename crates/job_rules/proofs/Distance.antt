-- Two frames whose rows and columns are codewords.
use Rattle.std.proofs.Common.{◌≡◌, ℕ, zero, suc, ◌+◌, ◌*◌, ◌<◌, ◌≤◌, Bool, true, false, cond, eqb, ◌⊎◌, List, [], ◌∷◌, map, length, get_or, take, drop, sym, refl, ap, ◌∙◌, subst, inl, inr, mul-le-mul_right, suc-mul, mul-le-mul_left, one-mul, mul-zero, zero-add, zero-mul, mul-add, arith, length-drop}
use borrow.Author.Tests.{eqb-false}
use Rattle.std.specs.List.{range_with_len}
use Rattle.std.proofs.lemmas.List.{drop-drop, get_or-drop}
use Rattle.std.proofs.lemmas.Bool.{cases_lt}
use Rattle.codes.specs.Meaning.{differ}
use Rattle.job_rules.specs.Lines.{row, column}
use Rattle.codes.proofs.Views.{row_at, columns_show}

-- differ, in two parts
pub differ_split : (n : ℕ) (xs ys : List ℕ) → length xs ≡ length ys → differ xs ys ≡ differ (take n xs) (take n ys) + differ (drop n xs) (drop n ys)
differ_split zero xs ys e = sym (zero-add (differ xs ys))
differ_split (suc n) [] ys e = refl
differ_split (suc n) (x ∷ xs) [] e = absurd (omega (arith, e))
differ_split (suc n) (x ∷ xs) (y ∷ ys) e =
    let r = differ_split n xs ys (omega (arith, e)) in
    omega (arith, r)

-- a column without its first place
column_more : (c n : ℕ) (frame : List ℕ) (j : ℕ) → column c (suc n) frame j ≡ get_or frame j 0 ∷ column c n (drop c frame) j
column_more c n frame j = go
  where
    shift : (a k : ℕ) → map (λ i. get_or frame (i * c + j) 0) (range_with_len (a + 1) k) ≡ map (λ i. get_or (drop c frame) (i * c + j) 0) (range_with_len a k)
    shift a zero = refl
    shift a (suc k) =
        let here : get_or frame ((a + 1) * c + j) 0 ≡ get_or (drop c frame) (a * c + j) 0 = sym (get_or-drop c frame (a * c + j) 0 ∙ ap (λ x. get_or frame x 0) (at a)) in
        let rest = shift (a + 1) k in
        cc
      where
        at : (a : ℕ) → c + (a * c + j) ≡ (a + 1) * c + j
        at a = omega (arith, suc-mul a c, ap (λ x. x * c) (one a))
          where
            one : (a : ℕ) → a + 1 ≡ suc a
            one a = omega arith

    go : column c (suc n) frame j ≡ get_or frame j 0 ∷ column c n (drop c frame) j
    go =
        let here : get_or frame (0 * c + j) 0 ≡ get_or frame j 0 = ap (λ x. get_or frame x 0) (omega (arith, zero-mul c)) in
        let rest = shift 0 n in
        cc

-- each row that differs at place j differs at d places: so the frames differ at d places for each place of column j that differs
heavy : (c j d n : ℕ) (f g : List ℕ) → length f ≡ n * c → length g ≡ n * c →
    ((i : ℕ) → i < n → (get_or f (i * c + j) 0 ≡ get_or g (i * c + j) 0 → ⊥) → d ≤ differ (row c f i) (row c g i)) →
    d * differ (column c n f j) (column c n g j) ≤ differ f g
heavy c j d zero f g lf lg each = omega (arith, mul-zero d)
heavy c j d (suc n) f g lf lg each =
    let s = suc-mul n c in
    let split = differ_split c f g (lf ∙ sym lg) in
    let rest = heavy c j d n (drop c f) (drop c g) (length-drop c f ∙ omega arith) (length-drop c g ∙ omega arith) below in
    let sum : d * (cond (eqb (get_or f j 0) (get_or g j 0)) 0 1 + differ (column c n (drop c f) j) (column c n (drop c g) j)) ≤ differ f g = omega (arith, rest, split, first _ refl, mul-add d (cond (eqb (get_or f j 0) (get_or g j 0)) 0 1) (differ (column c n (drop c f) j) (column c n (drop c g) j))) in
    subst (λ (x : List ℕ). d * differ x (column c (suc n) g j) ≤ differ f g) (sym (column_more c n f j))
    (subst (λ (x : List ℕ). d * differ (get_or f j 0 ∷ column c n (drop c f) j) x ≤ differ f g) (sym (column_more c n g j)) sum)
  where
    next : (i : ℕ) → suc i * c ≡ c + i * c
    next i = omega (arith, suc-mul i c)

    below : (i : ℕ) → i < n → (get_or (drop c f) (i * c + j) 0 ≡ get_or (drop c g) (i * c + j) 0 → ⊥) → d ≤ differ (row c (drop c f) i) (row c (drop c g) i)
    below i l ne =
        let at : c + (i * c + j) ≡ suc i * c + j = omega (arith, next i) in
        let e = each (suc i) (omega arith) (λ q. ne (get_or-drop c f (i * c + j) 0 ∙ ap (λ x. get_or f x 0) at ∙ q ∙ ap (λ x. get_or g x 0) (sym at) ∙ sym (get_or-drop c g (i * c + j) 0))) in
        let a : row c f (suc i) ≡ row c (drop c f) i = ap (take c) (ap (λ x. drop x f) (next i) ∙ sym (drop-drop (i * c) c f)) in
        let b : row c g (suc i) ≡ row c (drop c g) i = ap (take c) (ap (λ x. drop x g) (next i) ∙ sym (drop-drop (i * c) c g)) in
        rw (a, b) at e

    first : (b : Bool) → eqb (get_or f j 0) (get_or g j 0) ≡ b → d * cond (eqb (get_or f j 0) (get_or g j 0)) 0 1 ≤ differ (take c f) (take c g)
    first true e = rw e (omega (arith, mul-zero d))
    first false e =
        let z : 0 * c ≡ 0 = zero-mul c in
        let at : j ≡ 0 * c + j = omega arith in
        let h = each 0 (omega arith) (λ q. eqb-false _ _ e (ap (λ x. get_or f x 0) at ∙ q ∙ ap (λ x. get_or g x 0) (sym at))) in
        let h' = rw z at h in
        rw e (omega (arith, h'))

-- r and c are the reaches: two different rows differ at more than 2 r places, two different columns at more than 2 c
pub apart : (w n r c : ℕ) (f g : List ℕ) → length f ≡ n * w → length g ≡ n * w →
    ((i : ℕ) → i < n → differ (row w f i) (row w g i) ≤ 2 * r → row w f i ≡ row w g i) →
    ((j : ℕ) → j < w → differ (column w n f j) (column w n g j) ≤ 2 * c → column w n f j ≡ column w n g j) →
    differ f g < (2 * r + 1) * (2 * c + 1) → f ≡ g
apart w n r c f g lf lg rows columns few = columns_show w n f g lf lg (λ j l. at j l (cases_lt (2 * c) (differ (column w n f j) (column w n g j))))
  where
    at : (j : ℕ) → j < w → (2 * c < differ (column w n f j) (column w n g j)) ⊎ (differ (column w n f j) (column w n g j) ≤ 2 * c) → column w n f j ≡ column w n g j
    at j l (inr h) = columns j l h
    at j l (inl h) =
        let many = heavy w j (2 * r + 1) n f g lf lg (λ i k ne. row_far i k ne (cases_lt (2 * r) (differ (row w f i) (row w g i)))) in
        let h' : 2 * c + 1 ≤ differ (column w n f j) (column w n g j) = omega arith in
        let le = mul-le-mul_left (2 * r + 1) h' in
        absurd (omega (arith, many, le, few))
      where
        row_far : (i : ℕ) → i < n → (get_or f (i * w + j) 0 ≡ get_or g (i * w + j) 0 → ⊥) → (2 * r < differ (row w f i) (row w g i)) ⊎ (differ (row w f i) (row w g i) ≤ 2 * r) → 2 * r + 1 ≤ differ (row w f i) (row w g i)
        row_far i k ne (inl q) = omega arith
        row_far i k ne (inr q) = absurd (ne (sym (row_at w i j f l) ∙ ap (λ x. get_or x j 0) (rows i k q) ∙ row_at w i j g l))

pub one_le : (a b : ℕ) → 1 ≤ (a + 1) * (b + 1)
one_le a b =
    let h : 1 ≤ a + 1 = omega arith in
    let k = mul-le-mul_right (b + 1) h in
    omega (arith, k, one-mul (b + 1))
