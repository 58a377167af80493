-- The passes of a run.
use Rattle.std.proofs.Common.{◌≡◌, ℕ, zero, suc, ◌+◌, ◌-◌, ◌*◌, ◌<◌, ◌≤◌, length, sym, refl, ap, ◌∙◌, subst, inl, inr, arith, eq-eqb, ne_eqb}
use Rattle.codes.specs.Meaning.{Meaning}
use Rattle.job_rules.specs.declared.records.Standing.TheVariants.{Open, Stuck}
use Rattle.job_rules.specs.declared.records.Kind.{Kind}
use Rattle.job_rules.specs.declared.records.Kind.TheVariants.{Row}
use Rattle.job_rules.specs.declared.answers.Effort.{Effort}
use Rattle.job_rules.specs.declared.answers.Ending.{Ending}
use Rattle.job_rules.specs.declared.answers.Ending.TheVariants.{Whole, Quiet, Limit}
use Rattle.job_rules.specs.declared.answers.RunAnswer.{RunAnswer}
use Rattle.job_rules.specs.Records.{crossing}
use Rattle.job_rules.specs.Bounds.{most_lines, most_changes}
use Rattle.job_rules.specs.Passes.{State, Pass}
use Rattle.job_rules.specs.Calls.{standing, ending, Work, no_work, added, Runs, run_answer}
use Rattle.job_rules.proofs.Lengths.{pass_long}

-- work done, and then more
abbrev on_top : (made d c : ℕ) → Work → Work
on_top made d c w = record { passes = made + w.passes; decodings = d + w.decodings; changes = c + w.changes }

-- a run that has made some passes: whatever a run does from here, with the passes left, the whole run does from the start
pub record Going (p q p' q' : Meaning) (limit made : ℕ) (kind : Kind) (s₀ s : State) (d c : ℕ) : Type 0 where
  pub row : p' ≡ p
  pub column : q' ≡ q
  pub most : made ≤ limit
  pub passes : s.counts.passes ≡ s₀.counts.passes + made
  pub calls : s.counts.calls ≡ s₀.counts.calls
  pub few : d ≤ most_lines * made
  pub low : c ≤ most_changes * made
  pub long : length s.frame ≡ length s₀.frame
  pub then : (t : State) (w : Work) → Runs p q (limit - made) kind s t w → Runs p q limit Row s₀ t (on_top made d c w)

work_same : (a a' b b' c c' : ℕ) → a ≡ a' → b ≡ b' → c ≡ c' → ◌≡◌ {A = Work} (record { passes = a; decodings = b; changes = c }) (record { passes = a'; decodings = b'; changes = c' })
work_same a a' b b' c c' e f g = rw (e, f, g)

on_nothing : (w : Work) → on_top 0 0 0 w ≡ w
on_nothing w = work_same _ _ _ _ _ _ (omega arith) (omega arith) (omega arith)

pub going_none : (p q : Meaning) (limit : ℕ) (s : State) → Going p q p q limit 0 Row s s 0 0
going_none p q limit s = record {
  row = refl;
  column = refl;
  most = omega arith;
  passes = omega arith;
  calls = refl;
  few = omega arith;
  low = omega arith;
  long = refl;
  then = λ t w r.
      let a : limit - 0 ≡ limit = omega arith in
      subst (λ (x : Work). Runs p q limit Row s t x) (sym (on_nothing w)) (rw a at r);
}

runs_more : (p q : Meaning) (l : ℕ) (kind : Kind) (s u t : State) (e : Effort) (w : Work) → 1 ≤ standing Open s → Pass p q kind s u e → Runs p q l (crossing kind) u t w → Runs p q (suc l) kind s t (added e w)
unfolding Runs
runs_more p q l kind s u t e w o h r = inr (o, record { next = u; effort = e; made = h; left = w; rest = r; sum = refl })

runs_end : (p q : Meaning) (l : ℕ) (kind : Kind) (s : State) → standing Open s ≡ 0 → Runs p q l kind s s no_work
unfolding Runs
runs_end p q zero kind s o = (refl, refl)
runs_end p q (suc l) kind s o = inl (o, refl, refl)

runs_limit : (p q : Meaning) (l : ℕ) (kind : Kind) (s : State) → l ≡ 0 → Runs p q l kind s s no_work
unfolding Runs
runs_limit p q zero kind s o = (refl, refl)
runs_limit p q (suc l) kind s o = absurd (omega (arith, o))

module _ (p q p' q' : Meaning) (limit made : ℕ) (kind : Kind) (s₀ s : State) (d c : ℕ) (u : Going p q p' q' limit made kind s₀ s d c) where
  -- one pass more, as the loop has it
  pub going_more : (p'' q'' : Meaning) (kind' : Kind) (t : State) (e : Effort) (o : ℕ) → made < limit → o ≡ standing Open s → (o ≡ 0 → ⊥) → Pass p' q' kind s t e → kind' ≡ crossing kind →
      e.decodings ≤ most_lines → e.changes ≤ most_changes → p'' ≡ p' → q'' ≡ q' → Going p q p'' q'' limit (made + 1) kind' s₀ t (d + e.decodings) (c + e.changes)
  going_more p'' q'' kind' t e o lt eo some h ek few low ep eq =
      let h' = rw (u.row, u.column) at h in
      let opens : 1 ≤ standing Open s = omega (arith, eo, some) in
      record {
        row = ep ∙ u.row;
        column = eq ∙ u.column;
        most = omega arith;
        passes = omega (arith, ap (λ x. x.passes) h.counts, u.passes);
        calls = ap (λ x. x.calls) h.counts ∙ u.calls;
        few = omega (arith, u.few, few);
        low = omega (arith, u.low, low);
        long = pass_long p q kind s t e h' ∙ u.long;
        then = λ x w r.
            let a : limit - made ≡ suc (limit - (made + 1)) = omega arith in
            let r' = subst (λ (z : Kind). Runs p q (limit - (made + 1)) z t x w) ek r in
            let whole = u.then x (added e w) (rw a (runs_more p q (limit - (made + 1)) kind s t x e w opens h' r')) in
            subst (λ (z : Work). Runs p q limit Row s₀ x z) (work_same _ _ _ _ _ _ (omega arith) (omega arith) (omega arith)) whole;
      }

  -- the work done so far
  abbrev pub so_far : Work
  so_far = record { passes = made; decodings = d; changes = c }

  here : Runs p q limit Row s₀ s (on_top made d c no_work) → Runs p q limit Row s₀ s so_far
  here r = subst (λ (z : Work). Runs p q limit Row s₀ s z) (work_same _ _ _ _ _ _ (omega arith) (omega arith) (omega arith)) r

  pub going_ends : standing Open s ≡ 0 → Runs p q limit Row s₀ s so_far
  going_ends o = here (u.then s no_work (runs_end p q (limit - made) kind s o))

  pub going_limit : made ≡ limit → Runs p q limit Row s₀ s so_far
  going_limit e = here (u.then s no_work (runs_limit p q (limit - made) kind s (omega arith)))

-- the ending that the loop yields
pub ends_whole : (s : State) → standing Open s ≡ 0 → standing Stuck s ≡ 0 → Whole ≡ ending s
ends_whole s o k = let a = eq-eqb _ _ o in let b = eq-eqb _ _ k in rw (a, b)

pub ends_quiet : (s : State) → standing Open s ≡ 0 → (standing Stuck s ≡ 0 → ⊥) → Quiet ≡ ending s
ends_quiet s o k = let a = eq-eqb _ _ o in let b = ne_eqb _ _ k in rw (a, b)

pub ends_limit : (s : State) → (standing Open s ≡ 0 → ⊥) → Limit ≡ ending s
ends_limit s o = let a = ne_eqb _ _ o in rw a

abbrev answer_of : Ending → Work → RunAnswer
answer_of e w = record { ending = e; passes = w.passes; effort = record { decodings = w.decodings; changes = w.changes } }

pub answered : (s : State) (w : Work) (e : Ending) → e ≡ ending s → answer_of e w ≡ run_answer w s
answered s w e same = ap (λ x. answer_of x w) same
