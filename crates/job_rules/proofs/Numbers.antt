-- The numbers of the lines that have a standing.
use Rattle.std.proofs.Common.{◌≡◌, ℕ, zero, suc, ◌+◌, ◌<◌, Bool, true, false, cond, List, [], ◌∷◌, length, get_or, Some, None, Option, sym, refl, ap, ◌∙◌, subst, arith, Ok}
use Rattle.std.proofs.lemmas.List.Sums.{sum_by-cons}
use Rattle.codes.specs.Meaning.{Meaning}
use Rattle.job_rules.specs.declared.records.Standing.{Standing}
use Rattle.job_rules.specs.declared.records.Standing.TheVariants.{Stuck}
use Rattle.job_rules.specs.declared.records.Record.{Record}
use Rattle.job_rules.specs.declared.records.Kind.{Kind}
use Rattle.job_rules.specs.declared.answers.PassAnswer.{PassAnswer}
use Rattle.job_rules.specs.declared.answers.Refusal.{Refusal}
use Rattle.job_rules.specs.declared.answers.Outcome.TheVariants.{Passed}
use Rattle.job_rules.specs.Records.{fresh, is_same_standing, how_many}
use Rattle.job_rules.specs.Questions.{pass, refusal}
use Rattle.job_rules.specs.Passes.{State, records}
use Rattle.job_rules.specs.Calls.{Answer, called, pass_answer, Does'}
use Rattle.job_rules.specs.Laws.{Shaped, Has, Numbered, StuckCounts}
use Rattle.job_rules.proofs.Standings.{same_is, same_self}
use Rattle.job_rules.proofs.Whole.{table_long}
use Rattle.job_rules.proofs.Tallied.{pass_shaped}

module _ (st : Standing) where
  -- the numbers from j on
  numbers : ℕ → List Record → List ℕ
  numbers j [] = []
  numbers j (r ∷ rs) = cond (is_same_standing st r.standing) (j ∷ numbers (suc j) rs) (numbers (suc j) rs)

  counted : (j : ℕ) (rs : List Record) → length (numbers j rs) ≡ how_many st rs
  unfolding numbers
  counted j [] = refl
  counted j (r ∷ rs) = at (is_same_standing st r.standing) (counted (suc j) rs) ∙ sym (sum_by-cons (λ x. cond (is_same_standing st x.standing) 1 0) r rs)
    where
      at : (b : Bool) → length (numbers (suc j) rs) ≡ how_many st rs → length (cond b (j ∷ numbers (suc j) rs) (numbers (suc j) rs)) ≡ cond b 1 0 + how_many st rs
      at true e = omega (arith, e)
      at false e = omega (arith, e)

  -- number k of a list stands for a record with that standing
  abbrev Found : (j : ℕ) (rs : List Record) (ns : List ℕ) (k : ℕ) → Type 0
  Found j rs ns k = (i : ℕ) × ((i < length rs) × (get_or ns k 0 ≡ j + i) × ((get_or rs i fresh).standing ≡ st))

  each_one : (j : ℕ) (rs : List Record) (k : ℕ) → k < length (numbers j rs) → Found j rs (numbers j rs) k
  unfolding numbers
  each_one j [] k l = absurd (omega (arith, l))
  each_one j (r ∷ rs) k l = at (is_same_standing st r.standing) refl k (each_one (suc j) rs) l
    where
      at : (b : Bool) → is_same_standing st r.standing ≡ b → (k : ℕ) → ((k : ℕ) → k < length (numbers (suc j) rs) → Found (suc j) rs (numbers (suc j) rs) k) → k < length (cond b (j ∷ numbers (suc j) rs) (numbers (suc j) rs)) → Found j (r ∷ rs) (cond b (j ∷ numbers (suc j) rs) (numbers (suc j) rs)) k
      at true e zero more l = (0, (omega arith, omega arith, same_is st r.standing e))
      at true e (suc k) more l = let f = more k (omega (arith, l)) in (suc f.0, (omega (arith, f.1.0), omega (arith, f.1.1), f.1.2))
      at false e k more l = let f = more k l in (suc f.0, (omega (arith, f.1.0), omega (arith, f.1.1), f.1.2))

  -- and each such record is there
  all_of : (j : ℕ) (rs : List Record) (i m : ℕ) → m ≡ j + i → i < length rs → (get_or rs i fresh).standing ≡ st → Has (numbers j rs) m
  unfolding numbers
  all_of j [] i m e l h = absurd (omega (arith, l))
  all_of j (r ∷ rs) i m e l h = at (is_same_standing st r.standing) refl i e (λ n a b c. all_of (suc j) rs n m a b c) l h
    where
      at : (b : Bool) → is_same_standing st r.standing ≡ b → (i : ℕ) → m ≡ j + i → ((n : ℕ) → m ≡ suc j + n → n < length rs → (get_or rs n fresh).standing ≡ st → Has (numbers (suc j) rs) m) →
          i < length (r ∷ rs) → (get_or (r ∷ rs) i fresh).standing ≡ st → Has (cond b (j ∷ numbers (suc j) rs) (numbers (suc j) rs)) m
      at true q zero e more l h = (0, (omega arith, omega (arith, e)))
      at true q (suc n) e more l h = let f = more n (omega (arith, e)) (omega (arith, l)) h in (suc f.0, (omega (arith, f.1.0), f.1.1))
      at false q zero e more l h = let same = ap (is_same_standing st) h ∙ same_self st in let z : ◌≡◌ {A = ℕ} 0 1 = cc in absurd (omega arith)
      at false q (suc n) e more l h = more n (omega (arith, e)) (omega (arith, l)) h

  rising : (j : ℕ) (rs : List Record) (a b : ℕ) → a < b → b < length (numbers j rs) → get_or (numbers j rs) a 0 < get_or (numbers j rs) b 0
  unfolding numbers
  rising j [] a b lt l = absurd (omega (arith, l))
  rising j (r ∷ rs) a b lt l = at (is_same_standing st r.standing) a b lt (rising (suc j) rs) (each_one (suc j) rs) l
    where
      at : (c : Bool) (a b : ℕ) → a < b → ((a b : ℕ) → a < b → b < length (numbers (suc j) rs) → get_or (numbers (suc j) rs) a 0 < get_or (numbers (suc j) rs) b 0) →
          ((k : ℕ) → k < length (numbers (suc j) rs) → Found (suc j) rs (numbers (suc j) rs) k) →
          b < length (cond c (j ∷ numbers (suc j) rs) (numbers (suc j) rs)) → get_or (cond c (j ∷ numbers (suc j) rs) (numbers (suc j) rs)) a 0 < get_or (cond c (j ∷ numbers (suc j) rs) (numbers (suc j) rs)) b 0
      at true a zero lt more found l = absurd (omega (arith, lt))
      at true zero (suc b) lt more found l = let f = found b (omega (arith, l)) in omega (arith, f.1.1)
      at true (suc a) (suc b) lt more found l = more a b (omega arith) (omega (arith, l))
      at false a b lt more found l = more a b lt l

  pub numbered : (p q : Meaning) (kind : Kind) (s : State) → Shaped p q s → Numbered p q kind st s (how_many st (records kind s))
  numbered p q kind s h =
      let rs = records kind s in
      let long = table_long p q s h kind in
      record {
        numbers = numbers 0 rs;
        rising = rising 0 rs;
        each = λ i f.
            let g = each_one 0 rs f.0 f.1.0 in
            let same : g.0 ≡ i = omega (arith, g.1.1, f.1.1) in
            (omega (arith, g.1.0, same, long), subst (λ (x : ℕ). (get_or rs x fresh).standing ≡ st) same g.1.2);
        all = λ i l e. all_of 0 rs i i (omega arith) (omega (arith, l, long)) e;
        count = counted 0 rs;
      }

passed_same : (a b : PassAnswer) → ◌≡◌ {A = Answer} (Ok (Passed a)) (Ok (Passed b)) → a ≡ b
passed_same a b e = cc

stuck_of : (p q : Meaning) (kind : Kind) (s t : State) (a : PassAnswer) (o : Option Refusal) → Shaped p q s → Does' o p q (pass kind) s (Ok (Passed a)) t → Shaped p q t × (a.stuck ≡ how_many Stuck (records kind t))
stuck_of p q kind s t a (Some why) h d = let e = d.0 in let z : ◌≡◌ {A = ℕ} 0 1 = cc in absurd (omega arith)
stuck_of p q kind s t a None h d =
    (pass_shaped p q kind (called s) t d.0 (record { rows = h.rows; columns = h.columns }) d.1.0, ap (λ x. x.stuck) (passed_same a (pass_answer kind d.0 t) d.1.1))

pub stuck_counts_lem : StuckCounts
stuck_counts_lem p q kind s t a h d =
    let k = stuck_of p q kind s t a (refusal p q (pass kind) s.frame s.counts.calls) h d in
    subst (λ (x : ℕ). Numbered p q kind Stuck t x) (sym k.1) (numbered Stuck p q kind t k.0)
