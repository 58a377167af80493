-- A pass over tables with room to spare, seen in the records that belong to lines.
use Rattle.std.proofs.Common.{◌≡◌, ℕ, zero, suc, ◌<◌, ◌≤◌, cond, eqb, List, [], ◌∷◌, get_or, take, set, sym, refl, ap, ◌∙◌, subst, arith}
use Rattle.std.proofs.lemmas.List.{get_or-take}
use Rattle.codes.specs.Meaning.{Meaning, differ}
use Rattle.job_rules.specs.declared.records.Standing.{Standing}
use Rattle.job_rules.specs.declared.records.Standing.TheVariants.{Open, Sound, Stuck}
use Rattle.job_rules.specs.Records.{fresh, opened}
use Rattle.job_rules.specs.Lines.{row, decided, where_differ, Seen, InOrder}
use Rattle.job_rules.specs.Passes.{Progress, Turn, turn}
use Rattle.job_rules.specs.Calls.{Delivery}

take_set_any : {X : Type 0} (n : ℕ) (xs : List X) (i : ℕ) (y : X) → take n (set xs i y) ≡ set (take n xs) i y
take_set_any zero xs i y = refl
take_set_any (suc n) [] i y = refl
take_set_any (suc n) (x ∷ xs) zero y = refl
take_set_any (suc n) (x ∷ xs) (suc i) y = ap (λ z. x ∷ z) (take_set_any n xs i y)

take_wd : {X : Type 0} (f : X → X) (n : ℕ) (one two : List ℕ) (xs : List X) → take n (where_differ f one two xs) ≡ where_differ f one two (take n xs)
unfolding where_differ
take_wd f n [] two xs = refl
take_wd f n (a ∷ one) [] xs = refl
take_wd f zero (a ∷ one) (b ∷ two) xs = refl
take_wd f (suc n) (a ∷ one) (b ∷ two) [] = refl
take_wd f (suc n) (a ∷ one) (b ∷ two) (x ∷ xs) = ap (λ z. cond (eqb a b) x (f x) ∷ z) (take_wd f n one two xs)

-- the first n records of the lines that a pass goes over, and the first m across
abbrev pub cut : (n m : ℕ) → Seen → Seen
cut n m s = record { frame = s.frame; on = take n s.on; across = take m s.across }

abbrev pub cut_progress : (n m : ℕ) → Progress → Progress
cut_progress n m w = record { at = cut n m w.at; decodings = w.decodings; changes = w.changes; count = w.count }

module _ (n m : ℕ) (c : Meaning) (view : List ℕ → ℕ → List ℕ) (lines : ℕ) where
  turn_cut : (i : ℕ) (s t : Progress) (st : Standing) → i < n → Turn st c view lines i s t → Turn st c view lines i (cut_progress n m s) (cut_progress n m t)
  turn_cut i s t Open l h =
      let d = h.line in
      let same = get_or-take n s.at.on i fresh l in
      record {
        line = record {
          answer = d.answer;
          line' = d.line';
          decodes = d.decodes;
          frame = d.frame;
          mark = ap (take n) d.mark ∙ take_set_any n s.at.on i _ ∙ ap (λ x. set (take n s.at.on) i (decided x d.answer)) (sym same);
          cross = ap (take m) d.cross ∙ take_wd opened m (view s.at.frame i) d.line' s.at.across;
        };
        decodings = h.decodings;
        changes = h.changes;
        count = h.count;
      }
  turn_cut i s t Sound l h = ap (cut_progress n m) h
  turn_cut i s t Stuck l h = ap (cut_progress n m) h

  pub turns_cut : (k : ℕ) (s t : Progress) → k ≤ n → InOrder (turn c view lines) k s t → InOrder (turn c view lines) k (cut_progress n m s) (cut_progress n m t)
  unfolding InOrder
  turns_cut zero s t l h = ap (cut_progress n m) h
  turns_cut (suc k) s t l (u, h) =
      let same : (get_or (take n u.at.on) k fresh).standing ≡ (get_or u.at.on k fresh).standing = ap (λ x. x.standing) (get_or-take n u.at.on k fresh (omega arith)) in (
        cut_progress n m u,
        (
          turns_cut k s u (omega arith) h.0,
          subst (λ (x : Standing). Turn x c view lines k (cut_progress n m u) (cut_progress n m t)) (sym same)
              (turn_cut k u t (get_or u.at.on k fresh).standing (omega arith) h.1),
        ),
      )

pub delivery_cut : (n m c r i : ℕ) (new : List ℕ) (s t : Seen) → i < n → Delivery c r i new s t → Delivery c r i new (cut n m s) (cut n m t)
delivery_cut n m c r i new s t l h =
    let same = get_or-take n s.on i fresh l in
    let b = eqb (differ (row c s.frame i) new) 0 in
    record {
      frame = h.frame;
      mark = ap (take n) h.mark ∙ take_set_any n s.on i _ ∙ ap (λ x. set (take n s.on) i (cond b x (opened x))) (sym same);
      cross = ap (take m) h.cross ∙ take_wd opened m (row c s.frame i) new s.across;
    }
