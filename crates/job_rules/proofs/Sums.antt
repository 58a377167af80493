-- The report is the sum of the answers, after each call.
use Rattle.std.proofs.Common.{◌≡◌, ℕ, zero, suc, ◌+◌, List, [], ◌∷◌, map, take, Some, None, sum_by, Option, sym, ap, ◌∙◌, subst, inl, inr, arith}
use Rattle.std.proofs.lemmas.List.Sums.{sum_by-cons}
use Rattle.std.proofs.lemmas.List.{take-map}
use Rattle.codes.specs.Meaning.{Meaning}
use Rattle.job_rules.specs.declared.records.Counts.{Counts}
use Rattle.job_rules.specs.declared.records.Kind.{Kind}
use Rattle.job_rules.specs.declared.records.Kind.TheVariants.{Row}
use Rattle.job_rules.specs.declared.answers.Refusal.{Refusal}
use Rattle.job_rules.specs.Records.{crossing}
use Rattle.job_rules.specs.Questions.{Request, pass, run, redeliver, refusal}
use Rattle.job_rules.specs.Passes.{State, start}
use Rattle.job_rules.specs.Calls.{Answer, Work, Runs, called, Accepts, Does', Step, Performs, final, passes_of, decodings_of, redelivered_of, Summed}

-- what a run adds to the counts
pub record Adds (w : Work) (n n' : Counts) : Type 0 where
  pub passes : n'.passes ≡ n.passes + w.passes
  pub decodings : n'.decodings ≡ n.decodings + w.decodings
  pub redelivered : n'.redelivered ≡ n.redelivered
  pub calls : n'.calls ≡ n.calls

no_adds : (s t : State) (w : Work) → t ≡ s → w ≡ record { passes = 0; decodings = 0; changes = 0 } → Adds w s.counts t.counts
no_adds s t w e f = record {
  passes = omega (arith, ap (λ x. x.counts.passes) e, ap (λ x. x.passes) f);
  decodings = omega (arith, ap (λ x. x.counts.decodings) e, ap (λ x. x.decodings) f);
  redelivered = ap (λ x. x.counts.redelivered) e;
  calls = ap (λ x. x.counts.calls) e;
}

pub runs_add : (p q : Meaning) (l : ℕ) (kind : Kind) (s t : State) (w : Work) → Runs p q l kind s t w → Adds w s.counts t.counts
unfolding Runs
runs_add p q zero kind s t w h = no_adds s t w h.0 h.1
runs_add p q (suc l) kind s t w (inl h) = no_adds s t w h.1 h.2
runs_add p q (suc l) kind s t w (inr h) =
    let g = h.1 in
    let c = g.made.counts in
    let r = runs_add p q l (crossing kind) g.next t g.left g.rest in
    record {
      passes = omega (arith, r.passes, ap (λ x. x.passes) c, ap (λ x. x.passes) g.sum);
      decodings = omega (arith, r.decodings, ap (λ x. x.decodings) c, ap (λ x. x.decodings) g.sum);
      redelivered = r.redelivered ∙ ap (λ x. x.redelivered) c;
      calls = r.calls ∙ ap (λ x. x.calls) c;
    }

-- from s to t the counts grow by what the answer says
record Grows (r : Answer) (s t : State) : Type 0 where
  pub passes : t.counts.passes ≡ s.counts.passes + passes_of r
  pub decodings : t.counts.decodings ≡ s.counts.decodings + decodings_of r
  pub redelivered : t.counts.redelivered ≡ s.counts.redelivered + redelivered_of r

accepts_grow : (p q : Meaning) (x : Request) (s t : State) (r : Answer) → Accepts p q x s r t → Grows r s t
accepts_grow p q (pass kind) s t r h =
    let c = h.1.0.counts in
    subst (λ (z : Answer). Grows z s t) (sym h.1.1) (record {
      passes = ap (λ x. x.passes) c;
      decodings = ap (λ x. x.decodings) c;
      redelivered = omega (arith, ap (λ x. x.redelivered) c);
    })
accepts_grow p q (run l) s t r h =
    let a = runs_add p q l Row (called s) t h.0 h.1.0 in
    subst (λ (z : Answer). Grows z s t) (sym h.1.1) (record { passes = a.passes; decodings = a.decodings; redelivered = omega (arith, a.redelivered) })
accepts_grow p q (redeliver i new) s t r h =
    let c = h.0.counts in
    subst (λ (z : Answer). Grows z s t) (sym h.1) (record {
      passes = omega (arith, ap (λ x. x.passes) c);
      decodings = omega (arith, ap (λ x. x.decodings) c);
      redelivered = ap (λ x. x.redelivered) c;
    })

does_grow : (p q : Meaning) (x : Request) (s t : State) (r : Answer) (o : Option Refusal) → Does' o p q x s r t → Grows r s t
does_grow p q x s t r (Some why) h =
    subst (λ (z : Answer). Grows z s t) (sym h.0) (record {
      passes = omega (arith, ap (λ x. x.counts.passes) h.1);
      decodings = omega (arith, ap (λ x. x.counts.decodings) h.1);
      redelivered = omega (arith, ap (λ x. x.counts.redelivered) h.1);
    })
does_grow p q x s t r None h = accepts_grow p q x s t r h

record All (answers : List Answer) (s t : State) : Type 0 where
  pub passes : t.counts.passes ≡ s.counts.passes + sum_by passes_of answers
  pub decodings : t.counts.decodings ≡ s.counts.decodings + sum_by decodings_of answers
  pub redelivered : t.counts.redelivered ≡ s.counts.redelivered + sum_by redelivered_of answers

nothing_yet : (s : State) → All [] s s
nothing_yet s = record { passes = omega arith; decodings = omega arith; redelivered = omega arith }

-- after any number of calls
performs_sum : (p q : Meaning) (k : ℕ) (requests : List Request) (s : State) (ours : List Step) → Performs p q requests s ours → All (map (λ g. g.answer) (take k ours)) s (final s (take k ours))
unfolding Performs
performs_sum p q zero requests s ours h = nothing_yet s
performs_sum p q (suc k) requests s [] h = nothing_yet s
performs_sum p q (suc k) [] s (x ∷ ours) h = absurd h
performs_sum p q (suc k) (a ∷ requests) s (x ∷ ours) h =
    let g = does_grow p q a s x.after x.answer (refusal p q a s.frame s.counts.calls) h.0 in
    let r = performs_sum p q k requests x.after ours h.1 in
    let rest = map (λ g. g.answer) (take k ours) in
    record {
      passes = omega (arith, g.passes, r.passes, sum_by-cons passes_of x.answer rest);
      decodings = omega (arith, g.decodings, r.decodings, sum_by-cons decodings_of x.answer rest);
      redelivered = omega (arith, g.redelivered, r.redelivered, sum_by-cons redelivered_of x.answer rest);
    }

pub summed : (p q : Meaning) (first : List ℕ) (m n : ℕ) (requests : List Request) (ours : List Step) (answers : List Answer) → Performs p q requests (start p q first m n) ours →
    map (λ g. g.answer) ours ≡ answers → (k : ℕ) → Summed (take k answers) (final (start p q first m n) (take k ours))
summed p q first m n requests ours answers h e k =
    let r = performs_sum p q k requests (start p q first m n) ours h in
    let same : map (λ g. g.answer) (take k ours) ≡ take k answers = sym (take-map (λ g. g.answer) k ours) ∙ ap (take k) e in
    rw (← same) (record { passes = omega (arith, r.passes); decodings = omega (arith, r.decodings); redelivered = omega (arith, r.redelivered) })
