-- Undoing changes: what was noted and then written is put back.
use Rattle.std.specs.List.{All}
use Rattle.std.proofs.Common.{◌<◌, ◌≡◌, ℕ, List, [], ◌∷◌, ◌++◌, length, get_or, set, refl, ap, subst, arith, ◌∙◌, length-append}
use Rattle.std.proofs.lemmas.List.{get_or_append_left}
use lib.Seq.{set-set, set-get_or}
use Rattle.guard.specs.Undo.{undo}
use Rattle.guard.specs.declared.change.Change.{Change}

-- the newest change is undone first
pub undo_last : (xs : List Change) (x : Change) (l : List ℕ) → undo (xs ++ (x ∷ [])) l ≡ undo xs (set l x.place x.old)
undo_last [] x l = refl
undo_last (y ∷ xs) x l = ap (λ (z : List ℕ). set z y.place y.old) (undo_last xs x l)

-- a byte that is noted and then written is put back
pub undo_set : (xs : List Change) (p v : ℕ) (l : List ℕ) → undo (xs ++ (record { place = p; old = get_or l p 0 } ∷ [])) (set l p v) ≡ undo xs l
undo_set xs p v l = undo_last xs _ (set l p v) ∙ ap (undo xs) (set-set l p v (get_or l p 0) ∙ set-get_or l p 0)

-- the other places stay within the line
pub others_inside : (xs ys : List Change) (x : Change) (m n : ℕ) → ys ≡ xs ++ (x ∷ []) → m ≡ n → All (λ x. x.place < m) ys → All (λ x. x.place < n) xs
others_inside xs ys x m n e f h k d l =
    let more = length-append xs (x ∷ []) in
    let g : get_or ys k d ≡ get_or xs k d = ap (λ zs. get_or zs k d) e ∙ get_or_append_left xs (x ∷ []) d k l in
    subst (λ (y : Change). y.place < n) g (subst (λ (i : ℕ). (get_or ys k d).place < i) f (h k d (omega (arith, ap length e, more))))
