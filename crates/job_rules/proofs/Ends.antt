-- How runs end.
use Rattle.std.proofs.Common.{◌≡◌, ℕ, zero, suc, ◌<◌, ◌≤◌, Bool, true, false, cond, eqb, ◌⊎◌, get_or, Some, None, Option, sym, refl, ap, ◌∙◌, subst, inl, inr, arith, eqb-true, Ok}
use borrow.Author.Tests.{eqb-false}
use Rattle.std.proofs.lemmas.Bool.{cases_lt}
use Rattle.codes.specs.Meaning.{Meaning}
use Rattle.job_rules.specs.declared.records.Standing.{Standing}
use Rattle.job_rules.specs.declared.records.Standing.TheVariants.{Open, Stuck}
use Rattle.job_rules.specs.declared.records.Kind.{Kind}
use Rattle.job_rules.specs.declared.records.Kind.TheVariants.{Row, Column}
use Rattle.job_rules.specs.declared.answers.Ending.{Ending}
use Rattle.job_rules.specs.declared.answers.Ending.TheVariants.{Whole, Quiet, Limit}
use Rattle.job_rules.specs.declared.answers.RunAnswer.{RunAnswer}
use Rattle.job_rules.specs.declared.answers.Refusal.{Refusal}
use Rattle.job_rules.specs.declared.answers.Outcome.TheVariants.{Ran}
use Rattle.job_rules.specs.Records.{fresh, how_many, crossing}
use Rattle.job_rules.specs.Questions.{run, refusal, lines}
use Rattle.job_rules.specs.Passes.{State, records}
use Rattle.job_rules.specs.Calls.{Answer, standing, ending, Work, Runs, run_answer, called, Does'}
use Rattle.job_rules.specs.Promise.{IsWhole, Exactly}
use Rattle.job_rules.specs.Laws.{Shaped, SomeLine, Endings, RunEndings}
use Rattle.job_rules.proofs.Standings.{one_of, counted_one}
use Rattle.job_rules.proofs.Whole.{whole_from, whole_none}
use Rattle.job_rules.proofs.Lengths.{runs_keep}

-- a line with a standing is counted, and what is counted is a line
pub line_counted : (p q : Meaning) (st : Standing) (s : State) → Shaped p q s → SomeLine p q st s → 1 ≤ standing st s
line_counted p q st s h l = at l.kind l.i l.within l.stands
  where
    at : (kind : Kind) (i : ℕ) → i < lines p q kind → (get_or (records kind s) i fresh).standing ≡ st → 1 ≤ standing st s
    at Row i w e = omega (arith, counted_one st s.rows i (omega (arith, h.rows)) e)
    at Column i w e = omega (arith, counted_one st s.columns i (omega (arith, h.columns)) e)

pub counted_line : (p q : Meaning) (st : Standing) (s : State) → Shaped p q s → 1 ≤ standing st s → SomeLine p q st s
counted_line p q st s h some = go (cases_lt 0 (how_many st s.rows))
  where
    go : (0 < how_many st s.rows) ⊎ (how_many st s.rows ≤ 0) → SomeLine p q st s
    go (inl l) = let f = one_of st s.rows (omega arith) in record { kind = Row; i = f.0; within = omega (arith, f.1.0, h.rows); stands = f.1.1 }
    go (inr l) = let f = one_of st s.columns (omega (arith, some)) in record { kind = Column; i = f.0; within = omega (arith, f.1.0, h.columns); stands = f.1.1 }

-- a run with an open line at its end made all its passes
runs_all : (p q : Meaning) (l : ℕ) (kind : Kind) (s t : State) (w : Work) → Runs p q l kind s t w → 1 ≤ standing Open t → w.passes ≡ l
unfolding Runs
runs_all p q zero kind s t w h o = ap (λ x. x.passes) h.1
runs_all p q (suc l) kind s t w (inl h) o = absurd (omega (arith, h.0, o, ap (standing Open) h.1))
runs_all p q (suc l) kind s t w (inr h) o =
    let g = h.1 in
    omega (arith, ap (λ x. x.passes) g.sum, runs_all p q l (crossing kind) g.next t g.left g.rest o)

-- the three endings, by how many lines are open and stuck
abbrev By : Ending → State → Type 0
By Whole t = (standing Open t ≡ 0) × (standing Stuck t ≡ 0)
By Quiet t = (standing Open t ≡ 0) × (1 ≤ standing Stuck t)
By Limit t = 1 ≤ standing Open t

ends_by : (t : State) → By (ending t) t
ends_by t = at (eqb (standing Open t) 0) (eqb (standing Stuck t) 0) refl refl
  where
    some : (n : ℕ) → (n ≡ 0 → ⊥) → 1 ≤ n
    some n ne = omega arith

    at : (a b : Bool) → eqb (standing Open t) 0 ≡ a → eqb (standing Stuck t) 0 ≡ b → By (cond a (cond b Whole Quiet) Limit) t
    at true true x y = (eqb-true _ _ x, eqb-true _ _ y)
    at true false x y = (eqb-true _ _ x, some (standing Stuck t) (eqb-false _ _ y))
    at false b x y = some (standing Open t) (eqb-false _ _ x)

module _ (p q : Meaning) (t : State) (h : Shaped p q t) where
  open_in : IsWhole p q t → 1 ≤ standing Open t → ⊥
  open_in w o = omega (arith, whole_none p q t h w Open refl, o)

  stuck_in : IsWhole p q t → 1 ≤ standing Stuck t → ⊥
  stuck_in w o = omega (arith, whole_none p q t h w Stuck refl, o)

  whole_is : (e : Ending) → By e t → Exactly (e ≡ Whole) (IsWhole p q t)
  whole_is Whole b = record { when = λ w. refl; only = λ e. whole_from p q t h b.0 b.1 }
  whole_is Quiet b = record { when = λ w. absurd (stuck_in w b.1); only = λ e. let z : ◌≡◌ {A = ℕ} 0 1 = cc in absurd (omega arith) }
  whole_is Limit b = record { when = λ w. absurd (open_in w b); only = λ e. let z : ◌≡◌ {A = ℕ} 0 1 = cc in absurd (omega arith) }

  none_open : standing Open t ≡ 0 → SomeLine p q Open t → ⊥
  none_open e l = omega (arith, e, line_counted p q Open t h l)

  quiet_is : (e : Ending) → By e t → Exactly (e ≡ Quiet) ((SomeLine p q Open t → ⊥) × SomeLine p q Stuck t)
  quiet_is Whole b = record { when = λ k. absurd (omega (arith, b.1, line_counted p q Stuck t h k.1)); only = λ e. let z : ◌≡◌ {A = ℕ} 0 1 = cc in absurd (omega arith) }
  quiet_is Quiet b = record { when = λ k. refl; only = λ e. (none_open b.0, counted_line p q Stuck t h b.1) }
  quiet_is Limit b = record { when = λ k. absurd (k.0 (counted_line p q Open t h b)); only = λ e. let z : ◌≡◌ {A = ℕ} 0 1 = cc in absurd (omega arith) }

  limit_is : (e : Ending) → By e t → Exactly (e ≡ Limit) (SomeLine p q Open t)
  limit_is Whole b = record { when = λ l. absurd (none_open b.0 l); only = λ e. let z : ◌≡◌ {A = ℕ} 0 1 = cc in absurd (omega arith) }
  limit_is Quiet b = record { when = λ l. absurd (none_open b.0 l); only = λ e. let z : ◌≡◌ {A = ℕ} 0 1 = cc in absurd (omega arith) }
  limit_is Limit b = record { when = λ l. refl; only = λ e. counted_line p q Open t h b }

ran_same : (a b : RunAnswer) → ◌≡◌ {A = Answer} (Ok (Ran a)) (Ok (Ran b)) → a ≡ b
ran_same a b e = cc

accepted : (p q : Meaning) (limit : ℕ) (s t : State) (a : RunAnswer) (o : Option Refusal) → Does' o p q (run limit) s (Ok (Ran a)) t →
    (w : Work) × (Runs p q limit Row (called s) t w × (a ≡ run_answer w t))
accepted p q limit s t a (Some why) h = let e = h.0 in let z : ◌≡◌ {A = ℕ} 0 1 = cc in absurd (omega arith)
accepted p q limit s t a None h = (h.0, (h.1.0, ran_same a (run_answer h.0 t) h.1.1))

pub run_endings_lem : RunEndings
run_endings_lem p q limit s t a shaped does =
    let k = accepted p q limit s t a (refusal p q (run limit) s.frame s.counts.calls) does in
    let w = k.0 in
    let runs = k.1.0 in
    let keeps = runs_keep p q limit Row (called s) t w runs in
    let h : Shaped p q t = record { rows = keeps.on ∙ shaped.rows; columns = keeps.across ∙ shaped.columns } in
    let b = ends_by t in
    let lim = limit_is p q t h (ending t) b in
    let endings : Endings p q limit (run_answer w t) t = record {
      whole = whole_is p q t h (ending t) b;
      quiet = quiet_is p q t h (ending t) b;
      limited = lim;
      all = λ e. runs_all p q limit Row (called s) t w runs (line_counted p q Open t h (lim.only e));
    } in
    subst (λ (x : RunAnswer). Endings p q limit x t) (sym k.1.1) endings
