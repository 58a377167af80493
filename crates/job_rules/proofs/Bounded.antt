-- How large the counts of a job can grow.
use Rattle.std.proofs.Common.{◌≡◌, ℕ, zero, suc, ◌+◌, ◌*◌, ◌≤◌, List, [], ◌∷◌, replicate, Some, None, Option, sym, refl, ap, ◌∙◌, subst, inl, inr, mul-le-mul_right, mul-le-mul_left, arith}
use Rattle.std.proofs.lemmas.List.Sums.{sum_by-cons}
use Rattle.std.proofs.lemmas.List.{length-replicate}
use Rattle.codes.specs.Meaning.{Meaning, Lawful}
use Rattle.job_rules.specs.declared.records.Kind.{Kind}
use Rattle.job_rules.specs.declared.records.Kind.TheVariants.{Row, Column}
use Rattle.job_rules.specs.declared.answers.Effort.{Effort}
use Rattle.job_rules.specs.declared.answers.Refusal.{Refusal}
use Rattle.job_rules.specs.Records.{fresh, tallies, crossing}
use Rattle.job_rules.specs.Bounds.{most_lines, most_changes, Low}
use Rattle.job_rules.specs.Questions.{Request, pass, run, redeliver, refusal, lines, highest_limit, most_calls}
use Rattle.job_rules.specs.Lines.{row, code}
use Rattle.job_rules.specs.Passes.{State, start, seen, Pass}
use Rattle.job_rules.specs.Calls.{Answer, Work, Runs, Redelivery, called, Accepts, Does', Step, Performs, final, report}
use Rattle.job_rules.specs.Laws.{Shaped, CountsStayLow}
use Rattle.job_rules.proofs.Differ.{differ_le}
use Rattle.job_rules.proofs.Either.{lawful}
use Rattle.job_rules.proofs.Accepted.{accepted_few, accepted_limit, accepted_row}
use Rattle.job_rules.proofs.Lengths.{redelivery_keeps}
use Rattle.job_rules.proofs.Tallied.{pass_kept, pass_sum, pass_shaped, delivery_sum}

-- a reach is at most 127
pub few_changes : (m : Meaning) (n c : ℕ) → Lawful m → n ≤ most_lines → c ≤ n * m.reach → c ≤ most_changes
few_changes m n c law short le =
    let r : m.reach ≤ 127 = omega (arith, law.half, law.short) in
    let a = mul-le-mul_left n r in
    let b = mul-le-mul_right 127 short in
    omega (arith, le, a, b)

few_lines : (p q : Meaning) → Lawful p → Lawful q → (kind : Kind) → lines p q kind ≤ most_lines
few_lines p q lp lq Row = lq.short
few_lines p q lp lq Column = lp.short

-- what holds after each pass, whatever the calls
record Fair (p q : Meaning) (s : State) : Type 0 where
  pub shaped : Shaped p q s
  pub decodings : s.counts.decodings ≤ most_lines * s.counts.passes
  pub changes : (report s).changes ≤ most_changes * s.counts.passes

-- and after each call
record Bounded (p q : Meaning) (s : State) : Type 0 where
  pub fair : Fair p q s
  pub calls : s.counts.calls ≤ most_calls
  pub passes : s.counts.passes ≤ highest_limit * s.counts.calls
  pub redelivered : s.counts.redelivered ≤ most_lines * s.counts.calls

module _ (p q : Meaning) (lp : Lawful p) (lq : Lawful q) where
  pass_fair : (kind : Kind) (s t : State) (e : Effort) → Fair p q s → Pass p q kind s t e → Fair p q t
  pass_fair kind s t e u d =
      let k = pass_kept p q kind s t e u.shaped d in
      let short = few_lines p q lp lq kind in
      let low = few_changes (code p q kind) (lines p q kind) e.changes (lawful p q lp lq kind) short (omega (arith, k.low)) in
      record {
        shaped = pass_shaped p q kind s t e u.shaped d;
        decodings = omega (arith, u.decodings, k.few, short, ap (λ x. x.decodings) d.counts, ap (λ x. x.passes) d.counts);
        changes = omega (arith, u.changes, pass_sum p q kind s t e u.shaped d, low, ap (λ x. x.passes) d.counts);
      }

  -- a run adds at most its limit to the passes, and nothing to calls and redelivered places
  record Ran (l : ℕ) (s t : State) : Type 0 where
    pub fair : Fair p q t
    pub passes : t.counts.passes ≤ s.counts.passes + l
    pub calls : t.counts.calls ≡ s.counts.calls
    pub redelivered : t.counts.redelivered ≡ s.counts.redelivered

  stays : (l : ℕ) (s t : State) → Fair p q s → t ≡ s → Ran l s t
  stays l s t u e = subst (λ (x : State). Ran l s x) (sym e) (record { fair = u; passes = omega arith; calls = refl; redelivered = refl })

  runs_fair : (l : ℕ) (kind : Kind) (s t : State) (w : Work) → Fair p q s → Runs p q l kind s t w → Ran l s t
  unfolding Runs
  runs_fair zero kind s t w u h = stays zero s t u h.0
  runs_fair (suc l) kind s t w u (inl h) = stays (suc l) s t u h.1
  runs_fair (suc l) kind s t w u (inr h) =
      let g = h.1 in
      let c = g.made.counts in
      let r = runs_fair l (crossing kind) g.next t g.left (pass_fair kind s g.next g.effort u g.made) g.rest in
      record {
        fair = r.fair;
        passes = omega (arith, r.passes, ap (λ x. x.passes) c);
        calls = r.calls ∙ ap (λ x. x.calls) c;
        redelivered = r.redelivered ∙ ap (λ x. x.redelivered) c;
      }

  called_fair : (s : State) → Fair p q s → Fair p q (called s)
  called_fair s u = record { shaped = record { rows = u.shaped.rows; columns = u.shaped.columns }; decodings = u.decodings; changes = u.changes }

  redelivery_fair : (i : ℕ) (new : List ℕ) (s t : State) → Fair p q s → Redelivery p q i new s t → Fair p q t
  redelivery_fair i new s t u d =
      let k = redelivery_keeps p q i new s t d in
      let sums = delivery_sum p.size q.size i new (seen Row s) (seen Row t) d.delivers in
      record {
        shaped = record { rows = k.on ∙ u.shaped.rows; columns = k.across ∙ u.shaped.columns };
        decodings = omega (arith, u.decodings, ap (λ x. x.decodings) d.counts, ap (λ x. x.passes) d.counts);
        changes = omega (arith, u.changes, sums.0, sums.1, ap (λ x. x.passes) d.counts);
      }

  accepts_bounded : (x : Request) (s t : State) (r : Answer) → refusal p q x s.frame s.counts.calls ≡ None → Bounded p q s → Accepts p q x s r t → Bounded p q t
  accepts_bounded (pass kind) s t r e u h =
      let few = accepted_few p q (pass kind) s.frame s.counts.calls e in
      let d = h.1.0 in
      let c = d.counts in
      record {
        fair = pass_fair kind (called s) t h.0 (called_fair s u.fair) d;
        calls = omega (arith, few, ap (λ x. x.calls) c);
        passes = omega (arith, u.passes, ap (λ x. x.passes) c, ap (λ x. x.calls) c);
        redelivered = omega (arith, u.redelivered, ap (λ x. x.redelivered) c, ap (λ x. x.calls) c);
      }
  accepts_bounded (run l) s t r e u h =
      let ok = accepted_limit p q l s.frame s.counts.calls e in
      let k = runs_fair l Row (called s) t h.0 (called_fair s u.fair) h.1.0 in
      record {
        fair = k.fair;
        calls = omega (arith, ok.2, k.calls);
        passes = omega (arith, u.passes, ok.1, k.passes, k.calls);
        redelivered = omega (arith, u.redelivered, k.redelivered, k.calls);
      }
  accepts_bounded (redeliver i new) s t r e u h =
      let ok = accepted_row p q i new s.frame s.counts.calls e in
      let d = h.0 in
      let c = d.counts in
      let k = differ_le (row p.size s.frame i) new in
      record {
        fair = redelivery_fair i new (called s) t (called_fair s u.fair) d;
        calls = omega (arith, ok.2, ap (λ x. x.calls) c);
        passes = omega (arith, u.passes, ap (λ x. x.passes) c, ap (λ x. x.calls) c);
        redelivered = omega (arith, u.redelivered, ap (λ x. x.redelivered) c, ap (λ x. x.calls) c, k, ok.1, lp.short);
      }

  does_bounded : (x : Request) (s t : State) (r : Answer) (o : Option Refusal) → refusal p q x s.frame s.counts.calls ≡ o → Bounded p q s → Does' o p q x s r t → Bounded p q t
  does_bounded x s t r (Some why) e u h = subst (λ (z : State). Bounded p q z) (sym h.1) u
  does_bounded x s t r None e u h = accepts_bounded x s t r e u h

  performs_bounded : (requests : List Request) (s : State) (steps : List Step) → Performs p q requests s steps → Bounded p q s → Bounded p q (final s steps)
  unfolding Performs
  performs_bounded [] s [] h u = u
  performs_bounded [] s (g ∷ steps) h u = absurd h
  performs_bounded (x ∷ requests) s [] h u = absurd h
  performs_bounded (x ∷ requests) s (g ∷ steps) h u =
      performs_bounded requests g.after steps h.1 (does_bounded x s g.after g.answer (refusal p q x s.frame s.counts.calls) refl u h.0)

no_tallies : (n : ℕ) → tallies (replicate n fresh) ≡ 0
no_tallies zero = refl
no_tallies (suc n) = omega (arith, sum_by-cons (λ r. r.tally) fresh (replicate n fresh), no_tallies n)

pub start_shaped : (p q : Meaning) (first : List ℕ) (m n : ℕ) → Shaped p q (start p q first m n)
start_shaped p q first m n = record { rows = length-replicate q.size fresh; columns = length-replicate p.size fresh }

start_bounded : (p q : Meaning) (first : List ℕ) (m n : ℕ) → Bounded p q (start p q first m n)
start_bounded p q first m n = record {
  fair = record { shaped = start_shaped p q first m n; decodings = omega arith; changes = omega (arith, no_tallies q.size, no_tallies p.size) };
  calls = omega arith;
  passes = omega arith;
  redelivered = omega arith;
}

low : (p q : Meaning) (s : State) → Bounded p q s → Low (report s)
low p q s u = record {
  passes = omega (arith, u.passes, u.calls);
  decodings = omega (arith, u.fair.decodings, u.passes, u.calls);
  redelivered = omega (arith, u.redelivered, u.calls);
  changes = omega (arith, u.fair.changes, u.passes, u.calls);
}

pub counts_stay_low_lem : CountsStayLow
counts_stay_low_lem p q lp lq first m n requests steps h =
    low p q _ (performs_bounded p q lp lq requests (start p q first m n) steps h (start_bounded p q first m n))
