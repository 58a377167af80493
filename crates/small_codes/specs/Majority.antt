-- The repetition code: the majority is the codeword in reach, and two codewords differ everywhere.
use Rattle.std.specs.Prelude.{◌≡◌, ℕ, zero, suc, ◌+◌, ◌*◌, ◌<◌, ◌≤◌, Bool, true, false, cond, List, [], ◌∷◌, length, take, replicate, ◌==◌, ◌≢◌, slice_index, slice_index_or, refl, count_by, not}
use Rattle.std.proofs.Common.{sym, ap, subst, ◌∙◌, arith, add-one, eq-eqb, eqb-true}
use Rattle.std.proofs.Math.Decide.{ℕ_discrete}
use Rattle.std.proofs.lemmas.List.{length-replicate}
use Rattle.std.proofs.lemmas.List.Recursion.{is_count_by}
use Rattle.codes.specs.Meaning.{differ, Below, Word, Lawful}
use Rattle.codes.specs.Answers.{Mends, Sticks}
use Rattle.small_codes.specs.Repetition.{unlike, each, alike, repetition}

-- the bytes that are not x, as the library counts them
pub unlike_counts : (x : ℕ) (line : List ℕ) → unlike x line ≡ count_by (λ y. not (y == x)) line
unfolding unlike
unlike_counts x line = is_count_by (unlike x) (λ y. not (y == x)) refl (λ y ys. step (y == x) (unlike x ys)) line
  where
    step : (b : Bool) (n : ℕ) → cond b 0 1 + n ≡ cond (not b) (1 + n) n
    step true n = omega arith
    step false n = refl

-- one more byte counted
pub unlike_more : (x : ℕ) (line : List ℕ) (i : ℕ) → i < length line
    → unlike x (take (i + 1) line) ≡ cond (slice_index line i == x) 0 1 + unlike x (take i line)
unfolding unlike
unlike_more x line i h = ap (λ n. unlike x (take n line)) (add-one i) ∙ more line i h
  where
    more : (line : List ℕ) (i : ℕ) → i < length line → unlike x (take (suc i) line) ≡ cond (slice_index line i == x) 0 1 + unlike x (take i line)
    more [] i h = absurd (omega arith)
    more (y ∷ ys) zero h = refl
    more (y ∷ ys) (suc i) h = let r = more ys i (omega arith) in omega (arith, r)

pub unlike_none : (x : ℕ) (line : List ℕ) → unlike x (take 0 line) ≡ 0
unfolding unlike
unlike_none x line = refl

-- the line differs from the codeword of x where it is unlike x
pub unlike_differ : (x : ℕ) (line : List ℕ) → differ line (replicate (length line) x) ≡ unlike x line
unfolding unlike
unlike_differ x [] = refl
unlike_differ x (y ∷ ys) = ap (λ n. cond (y == x) 0 1 + n) (unlike_differ x ys)

not_same : (x y : ℕ) → (y == x) ≡ false → y ≢ x
not_same x y h e = let t = eq-eqb y x e in let z : ◌≡◌ {A = ℕ} 0 1 = cc in omega arith

-- a symbol that not every byte is unlike stands somewhere
pub occurs : (x : ℕ) (line : List ℕ) → unlike x line < length line → (k : ℕ) × (k < length line) × (slice_index line k ≡ x)
unfolding unlike
occurs x [] h = absurd (omega arith)
occurs x (y ∷ ys) h = cases (y == x) refl (occurs x ys) h
  where
    cases : (b : Bool) → (y == x) ≡ b → (unlike x ys < length ys → (k : ℕ) × (k < length ys) × (slice_index ys k ≡ x))
        → cond b 0 1 + unlike x ys < suc (length ys) → (k : ℕ) × (k < length (y ∷ ys)) × (slice_index (y ∷ ys) k ≡ x)
    cases true e r h = (0, omega arith, eqb-true y x e)
    cases false e r h = let o = r (omega (arith, h)) in (suc o.0, omega (arith, o.1), o.2)

pub each_none : (x : ℕ) (line : List ℕ) → each x line ≡ true → unlike x line ≡ 0
unfolding unlike each
each_none x [] h = refl
each_none x (y ∷ ys) h = cases (y == x) (each_none x ys) h
  where
    cases : (b : Bool) → (each x ys ≡ true → unlike x ys ≡ 0) → cond b (each x ys) false ≡ true → cond b 0 1 + unlike x ys ≡ 0
    cases true r h = omega (arith, r h)
    cases false r h = let z : ◌≡◌ {A = ℕ} 0 1 = cc in absurd (omega arith)

pub none_each : (x : ℕ) (line : List ℕ) → unlike x line ≡ 0 → each x line ≡ true
unfolding unlike each
none_each x [] h = refl
none_each x (y ∷ ys) h = cases (y == x) (none_each x ys) h
  where
    cases : (b : Bool) → (unlike x ys ≡ 0 → each x ys ≡ true) → cond b 0 1 + unlike x ys ≡ 0 → cond b (each x ys) false ≡ true
    cases true r h = r (omega (arith, h))
    cases false r h = absurd (omega (arith, h))

pub none_all : (x : ℕ) (line : List ℕ) → unlike x line ≡ 0 → line ≡ replicate (length line) x
unfolding unlike
none_all x [] h = refl
none_all x (y ∷ ys) h = cases (y == x) refl (none_all x ys) h
  where
    cases : (b : Bool) → (y == x) ≡ b → (unlike x ys ≡ 0 → ys ≡ replicate (length ys) x) → cond b 0 1 + unlike x ys ≡ 0 → (y ∷ ys) ≡ replicate (suc (length ys)) x
    cases true e r h = let r' = r (omega (arith, h)) in let f = eqb-true y x e in cc
    cases false e r h = absurd (omega (arith, h))

pub unlike_replicate : (x n : ℕ) → unlike x (replicate n x) ≡ 0
unfolding unlike
unlike_replicate x zero = refl
unlike_replicate x (suc n) = let e = eq-eqb x x refl in let r = unlike_replicate x n in rw (e, r)

-- all equal, as counted against the first byte
pub alike_first : (line : List ℕ) → 0 < length line → alike line ≡ true → unlike (slice_index line 0) line ≡ 0
unfolding unlike
alike_first [] l h = absurd (omega arith)
alike_first (x ∷ xs) l h = let e = eq-eqb x x refl in let r = each_none x xs h in rw (e, r)

pub first_alike : (line : List ℕ) (x : ℕ) → unlike x line ≡ 0 → alike line ≡ true
unfolding unlike
first_alike [] x h = refl
first_alike (y ∷ ys) x h = cases (y == x) refl h
  where
    cases : (b : Bool) → (y == x) ≡ b → cond b 0 1 + unlike x ys ≡ 0 → each y ys ≡ true
    cases true e h = subst (λ (v : ℕ). each v ys ≡ true) (sym (eqb-true y x e)) (none_each x ys (omega (arith, h)))
    cases false e h = absurd (omega (arith, h))

-- a codeword is one symbol, over and over
pub word_all : (n : ℕ) (w : List ℕ) → 1 ≤ n → Word (repetition n) w → w ≡ replicate n (slice_index w 0)
word_all n w some h =
    none_all (slice_index w 0) w (alike_first w (omega (arith, h.long)) h.is) ∙ ap (λ k. replicate k (slice_index w 0)) h.long

pub below_all : (q n x : ℕ) → x < q → Below q (replicate n x)
below_all q zero x h = tt
below_all q (suc n) x h = (h, below_all q n x h)

pub all_word : (n x : ℕ) → x < 256 → Word (repetition n) (replicate n x)
all_word n x h = record {
  long = length-replicate n x;
  below = below_all 256 n x h;
  is = first_alike (replicate n x) x (unlike_replicate x n);
}

-- different codewords differ everywhere
far : (n x y : ℕ) → ¬ (x ≡ y) → differ (replicate n x) (replicate n y) ≡ n
far zero x y ne = refl
far (suc n) x y ne = cases (x == y) refl (far n x y ne)
  where
    cases : (b : Bool) → (x == y) ≡ b → differ (replicate n x) (replicate n y) ≡ n → cond b 0 1 + differ (replicate n x) (replicate n y) ≡ suc n
    cases true e r = absurd (ne (eqb-true x y e))
    cases false e r = omega (arith, r)

pub lawful : (n : ℕ) → 1 ≤ n → n ≤ 255 → Lawful (repetition n)
lawful n some short = record {
  some = some;
  short = short;
  half = omega arith;
  two = omega arith;
  bytes = omega arith;
  apart = λ v w hv hw near.
      let ev = word_all n v some hv in
      let ew = word_all n w some hw in
      elim (ℕ_discrete (slice_index v 0) (slice_index w 0)) [
        | yes e ↦ ev ∙ ap (replicate n) e ∙ sym ew
        | no ne ↦ absurd (
            let f = far n (slice_index v 0) (slice_index w 0) ne in
            let d : differ v w ≡ n = subst (λ (u : List ℕ). differ v u ≡ n) (sym ew) (subst (λ (u : List ℕ). differ u (replicate n (slice_index w 0)) ≡ n) (sym ev) f) in
            omega arith)
      ];
}

-- what the majority answers
pub mends : (n : ℕ) (line : List ℕ) (x : ℕ) → length line ≡ n → 1 ≤ n → Below 256 line → x < 256 → 2 * unlike x line < length line
    → Mends (repetition n) line (replicate (length line) x) (unlike x line)
mends n line x long some below hx less = record {
  long = long;
  below = below;
  word = subst (λ (k : ℕ). Word (repetition n) (replicate k x)) (sym long) (all_word n x hx);
  changes = unlike_differ x line;
  near = omega (arith, less, long);
}

pub sticks : (n : ℕ) (line : List ℕ) → length line ≡ n → 1 ≤ n → ((x : ℕ) → length line ≤ 2 * unlike x line) → Sticks (repetition n) line line
sticks n line long some most = record {
  long = long;
  same = refl;
  far = λ r.
      let x = slice_index_or r.word 0 0 in
      let e : r.word ≡ replicate (length line) x = word_all n r.word some r.is ∙ ap (λ k. replicate k x) (sym long) in
      omega (arith, most x, ap (differ line) e, unlike_differ x line, r.near, long);
}

pub unlike_most : (x : ℕ) (line : List ℕ) → unlike x line ≤ length line
unfolding unlike
unlike_most x [] = omega arith
unlike_most x (y ∷ ys) = cases (y == x) (unlike_most x ys)
  where
    cases : (b : Bool) → unlike x ys ≤ length ys → cond b 0 1 + unlike x ys ≤ suc (length ys)
    cases true h = omega arith
    cases false h = omega arith

-- an unlike byte, and a like one
pub counts : (x y n m : ℕ) → ¬ (y ≡ x) → n ≡ m → n + 1 ≡ cond (y == x) 0 1 + m
counts x y n m ne e = cases (y == x) refl
  where
    cases : (b : Bool) → (y == x) ≡ b → n + 1 ≡ cond b 0 1 + m
    cases true h = absurd (ne (eqb-true y x h))
    cases false h = omega (arith, e)

pub passes : (x y n m : ℕ) → y ≡ x → n ≡ m → n ≡ cond (y == x) 0 1 + m
passes x y n m h e = let t = eq-eqb y x h in rw t (omega (arith, e))
