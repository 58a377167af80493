-- The places found so far.
use Rattle.std.proofs.Common.{◌≡◌, ℕ, suc, ◌+◌, Bool, true, false, List, [], ◌∷◌, ◌++◌, length, sym, refl, ap, ◌∙◌, subst, add-one, arith, length-append}
use Rattle.errors.specs.Places.{count, Lists, Rises}
use Rattle.errors.proofs.Listed.{moved, lists_none, lists_skip, lists_push, rises_none, rises_push, count_none, count_skip, count_take}

-- xs are the numbers below k that have f, rising
pub record SoFar (f : ℕ → Bool) (k : ℕ) (xs : List ℕ) : Type 0 where
  pub lists : Lists f k xs (length xs)
  pub many : count f k ≡ length xs
  pub rises : Rises xs (length xs)

pub none_yet : (f : ℕ → Bool) (xs : List ℕ) → xs ≡ [] → SoFar f 0 xs
none_yet f xs e = subst (λ (ys : List ℕ). SoFar f 0 ys) (sym e) (record { lists = lists_none f []; many = count_none f; rises = rises_none [] })

pub one_more : (f : ℕ → Bool) (k : ℕ) (xs ys : List ℕ) → ys ≡ xs ++ (k ∷ []) → f k ≡ true → SoFar f k xs → SoFar f (k + 1) ys
one_more f k xs ys e h s =
    let long : suc (length xs) ≡ length ys = omega (arith, ap length e, length-append xs (k ∷ [])) in
    record {
      lists = moved f (sym (add-one k)) (sym e) long (lists_push f k xs s.lists h);
      many = ap (count f) (add-one k) ∙ count_take f k h ∙ ap suc s.many ∙ long;
      rises = subst (λ (zs : List ℕ). Rises zs (length ys)) (sym e) (subst (λ (n : ℕ). Rises (xs ++ (k ∷ [])) n) long (rises_push f k xs s.lists s.rises));
    }

pub no_more : (f : ℕ → Bool) (k : ℕ) (xs ys : List ℕ) → ys ≡ xs → f k ≡ false → SoFar f k xs → SoFar f (k + 1) ys
no_more f k xs ys e h s = subst (λ (zs : List ℕ). SoFar f (k + 1) zs) (sym e) (record {
  lists = moved f (sym (add-one k)) refl refl (lists_skip f k xs (length xs) s.lists h);
  many = ap (count f) (add-one k) ∙ count_skip f k h ∙ s.many;
  rises = s.rises;
})
