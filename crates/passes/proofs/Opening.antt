-- Lines opened place by place.
use Rattle.std.proofs.Common.{◌≡◌, ℕ, ◌+◌, ◌<◌, List, [], length, get_or, take, set, sym, refl, ap, ◌∙◌, add-one, eq-eqb, ne_eqb}
use Rattle.job_rules.specs.declared.records.Record.{Record}
use Rattle.job_rules.specs.Records.{fresh, opened}
use Rattle.job_rules.specs.Lines.{where_differ}
use Rattle.job_rules.proofs.Places.{wd_more}

pub none_opened : (rs : List Record) → rs ≡ where_differ opened [] [] rs
unfolding where_differ
none_opened rs = refl

module _ (k : ℕ) (xs ys : List ℕ) (rs rs₀ : List Record) (l : k < length xs) (w : k < length ys) (so_far : rs ≡ where_differ opened (take k xs) (take k ys) rs₀) where
  pub opened_more : (get_or xs k 0 ≡ get_or ys k 0 → ⊥) → set rs k (opened (get_or rs k fresh)) ≡ where_differ opened (take (k + 1) xs) (take (k + 1) ys) rs₀
  opened_more ne =
      let b = ne_eqb (get_or xs k 0) (get_or ys k 0) ne in
      ap (λ x. set x k (opened (get_or x k fresh))) so_far ∙ sym (rw (add-one, wd_more opened fresh k xs ys rs₀ l w, b))

  pub opened_same : get_or xs k 0 ≡ get_or ys k 0 → rs ≡ where_differ opened (take (k + 1) xs) (take (k + 1) ys) rs₀
  opened_same e =
      let b = eq-eqb (get_or xs k 0) (get_or ys k 0) e in
      so_far ∙ sym (rw (add-one, wd_more opened fresh k xs ys rs₀ l w, b))
