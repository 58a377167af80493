-- The counts of the two codes grow together by the decodings.
use Rattle.std.proofs.Common.{◌≡◌, ℕ, zero, suc, ◌+◌, ◌%◌, ◌^◌, List, get_or, Some, None, Option, sym, ap, subst, inl, inr, arith}
use Rattle.codes.specs.Meaning.{Meaning}
use Rattle.job_rules.specs.declared.records.Standing.{Standing}
use Rattle.job_rules.specs.declared.records.Standing.TheVariants.{Open, Sound, Stuck}
use Rattle.job_rules.specs.declared.records.Kind.{Kind}
use Rattle.job_rules.specs.declared.records.Kind.TheVariants.{Row, Column}
use Rattle.job_rules.specs.declared.answers.Effort.{Effort}
use Rattle.job_rules.specs.declared.answers.Refusal.{Refusal}
use Rattle.job_rules.specs.Records.{fresh, crossing}
use Rattle.job_rules.specs.Questions.{Request, pass, run, redeliver, lines}
use Rattle.job_rules.specs.Lines.{line, code, InOrder}
use Rattle.job_rules.specs.Passes.{State, Progress, Turn, turn, code_count, progress, no_effort, Pass}
use Rattle.job_rules.specs.Calls.{Answer, Work, Runs, called, Accepts, Does'}

-- a count and another are b and the decodings, modulo 2^64
abbrev pub Counted : (b count other decodings : ℕ) → Type 0
Counted b count other decodings = (count + other) % 2 ^ 64 ≡ (b + decodings) % 2 ^ 64

one_more : (b c o d : ℕ) → Counted b c o d → Counted b ((c + 1) % 2 ^ 64) o (d + 1)
one_more b c o d h = omega (arith, h)

module _ (b o : ℕ) (m : Meaning) (view : List ℕ → ℕ → List ℕ) (n : ℕ) where
  abbrev CountedIn : Progress → Type 0
  CountedIn w = Counted b w.count o w.decodings

  turn_counts : (i : ℕ) (s t : Progress) (st : Standing) → Turn st m view n i s t → CountedIn s → CountedIn t
  turn_counts i s t Open h k = rw (h.decodings, h.count) (one_more b s.count o s.decodings k)
  turn_counts i s t Sound h k = subst (λ (x : Progress). CountedIn x) (sym h) k
  turn_counts i s t Stuck h k = subst (λ (x : Progress). CountedIn x) (sym h) k

  turns_count : (k : ℕ) (s t : Progress) → InOrder (turn m view n) k s t → CountedIn s → CountedIn t
  unfolding InOrder
  turns_count zero s t h c = subst (λ (x : Progress). CountedIn x) (sym h) c
  turns_count (suc k) s t (u, h) c = turn_counts k u t (get_or u.at.on k fresh).standing h.1 (turns_count k s u h.0 c)

abbrev pub CountedAt : ℕ → State → Type 0
CountedAt b s = Counted b s.row_count s.column_count s.counts.decodings

-- seen from either kind
from : (b d : ℕ) (kind : Kind) (s : State) → Counted b s.row_count s.column_count d → Counted b (code_count kind s) (code_count (crossing kind) s) d
from b d Row s h = h
from b d Column s h = omega (arith, h)

to : (b d : ℕ) (kind : Kind) (s : State) → Counted b (code_count kind s) (code_count (crossing kind) s) d → Counted b s.row_count s.column_count d
to b d Row s h = h
to b d Column s h = omega (arith, h)

pass_counts : (b : ℕ) (p q : Meaning) (kind : Kind) (s t : State) (e : Effort) → Pass p q kind s t e → CountedAt b s → CountedAt b t
pass_counts b p q kind s t e h k =
    let b₁ = b + s.counts.decodings in
    let k₀ : Counted b₁ s.row_count s.column_count 0 = omega (arith, k) in
    let o = code_count (crossing kind) s in
    let k₁ = turns_count b₁ o (code p q kind) (line p q kind) (lines p q kind) (lines p q kind) (progress kind s no_effort) (progress kind t e) h.turns (from b₁ 0 kind s k₀) in
    let k₂ = to b₁ e.decodings kind t (subst (λ (x : ℕ). Counted b₁ (code_count kind t) x e.decodings) (sym h.other) k₁) in
    omega (arith, k₂, ap (λ x. x.decodings) h.counts)

runs_count : (b : ℕ) (p q : Meaning) (l : ℕ) (kind : Kind) (s t : State) (w : Work) → Runs p q l kind s t w → CountedAt b s → CountedAt b t
unfolding Runs
runs_count b p q zero kind s t w h k = subst (CountedAt b) (sym h.0) k
runs_count b p q (suc l) kind s t w (inl h) k = subst (CountedAt b) (sym h.1) k
runs_count b p q (suc l) kind s t w (inr h) k =
    let g = h.1 in
    runs_count b p q l (crossing kind) g.next t g.left g.rest (pass_counts b p q kind s g.next g.effort g.made k)

accepts_count : (b : ℕ) (p q : Meaning) (x : Request) (s t : State) (r : Answer) → Accepts p q x s r t → CountedAt b s → CountedAt b t
accepts_count b p q (pass kind) s t r h k = pass_counts b p q kind (called s) t h.0 h.1.0 k
accepts_count b p q (run l) s t r h k = runs_count b p q l Row (called s) t h.0 h.1.0 k
accepts_count b p q (redeliver i new) s t r h k = rw (h.0.row_count, h.0.column_count, ap (λ x. x.decodings) h.0.counts) k

pub does_count : (b : ℕ) (p q : Meaning) (x : Request) (s t : State) (r : Answer) (o : Option Refusal) → Does' o p q x s r t → CountedAt b s → CountedAt b t
does_count b p q x s t r (Some why) h k = subst (CountedAt b) (sym h.1) k
does_count b p q x s t r None h k = accepts_count b p q x s t r h k
