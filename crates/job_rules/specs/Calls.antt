-- What runs, redeliveries and lists of calls do, and what they answer.
use Rattle.std.specs.Prelude.{◌≡◌, ℕ, zero, suc, ◌+◌, ◌≤◌, cond, ◌⊎◌, List, [], ◌∷◌, Some, None, Ok, Err, sum_by, Option, Result, ◌==◌, slice_index_or, slice_set}
use Rattle.codes.specs.Meaning.{Meaning, differ}
use Rattle.job_rules.specs.declared.records.Standing.{Standing}
use Rattle.job_rules.specs.declared.records.Standing.TheVariants.{Open, Stuck}
use Rattle.job_rules.specs.declared.records.Counts.{Counts}
use Rattle.job_rules.specs.declared.records.Kind.{Kind}
use Rattle.job_rules.specs.declared.records.Kind.TheVariants.{Row}
use Rattle.job_rules.specs.declared.answers.Effort.{Effort}
use Rattle.job_rules.specs.declared.answers.Ending.{Ending}
use Rattle.job_rules.specs.declared.answers.Ending.TheVariants.{Whole, Quiet, Limit}
use Rattle.job_rules.specs.declared.answers.PassAnswer.{PassAnswer}
use Rattle.job_rules.specs.declared.answers.RunAnswer.{RunAnswer}
use Rattle.job_rules.specs.declared.answers.Refusal.{Refusal}
use Rattle.job_rules.specs.declared.answers.Report.{Report}
use Rattle.job_rules.specs.declared.answers.Outcome.{Outcome}
use Rattle.job_rules.specs.declared.answers.Outcome.TheVariants.{Passed, Ran, Redelivered}
use Rattle.job_rules.specs.Records.{fresh, opened, how_many, tallies, crossing}
use Rattle.job_rules.specs.Questions.{Request, pass, run, redeliver, refusal}
use Rattle.job_rules.specs.Lines.{row, where_differ, Seen, Becomes}
use Rattle.job_rules.specs.Passes.{State, records, seen, Pass}

-- how many lines of both kinds have this standing
abbrev pub standing : Standing → State → ℕ
standing st s = how_many st s.rows + how_many st s.columns

-- how a run ends that leaves its passes here
abbrev pub ending : State → Ending
ending s = cond (standing Open s == 0) (cond (standing Stuck s == 0) Whole Quiet) Limit

-- what a run took: its passes, with their decodings and changed places
pub record Work : Type 0 where
  pub passes : ℕ
  pub decodings : ℕ
  pub changes : ℕ

-- no pass
abbrev pub no_work : Work
no_work = record { passes = 0; decodings = 0; changes = 0 }

-- a pass, and then this work
abbrev pub added : Effort → Work → Work
added e w = record { passes = 1 + w.passes; decodings = e.decodings + w.decodings; changes = e.changes + w.changes }

-- a pass over the lines of a kind, and then the rest
pub record Goes (p q : Meaning) (kind : Kind) (s : State) (work : Work) (Rest : State → Work → Type 0) : Type 0 where
  pub next : State
  pub effort : Effort
  pub made : Pass p q kind s next effort
  pub left : Work
  pub rest : Rest next left
  pub sum : work ≡ added effort left

-- at most l passes over the two kinds in turn, this kind first: they are left as soon as no line is open
unfoldable pub Runs : (p q : Meaning) → ℕ → Kind → (s t : State) → Work → Type 0
Runs p q zero kind s t work = (t ≡ s) × (work ≡ no_work)
Runs p q (suc l) kind s t work =
    ((standing Open s ≡ 0) × (t ≡ s) × (work ≡ no_work)) ⊎
    ((1 ≤ standing Open s) × Goes p q kind s work (λ u rest. Runs p q l (crossing kind) u t rest))

-- row i is given new bytes: the column of each place that changes is opened, and the row if there is one
pub record Delivery (c r i : ℕ) (bytes : List ℕ) (s t : Seen) : Type 0 where
  pub frame : Becomes (row c) r i bytes s.frame t.frame
  pub mark : t.on ≡ slice_set s.on i (cond (differ (row c s.frame i) bytes == 0) (slice_index_or s.on i fresh) (opened (slice_index_or s.on i fresh)))
  pub cross : t.across ≡ where_differ opened (row c s.frame i) bytes s.across

-- so many redelivered places more
abbrev pub delivered : ℕ → Counts → Counts
delivered k n = record { calls = n.calls; passes = n.passes; decodings = n.decodings; redelivered = n.redelivered + k }

-- a redelivery, which decodes nothing
pub record Redelivery (p q : Meaning) (i : ℕ) (bytes : List ℕ) (s t : State) : Type 0 where
  pub delivers : Delivery p.size q.size i bytes (seen Row s) (seen Row t)
  pub counts : t.counts ≡ delivered (differ (row p.size s.frame i) bytes) s.counts
  pub row_count : t.row_count ≡ s.row_count
  pub column_count : t.column_count ≡ s.column_count

-- one accepted call more
abbrev pub called : State → State
called s = record {
  frame = s.frame;
  rows = s.rows;
  columns = s.columns;
  counts = record { calls = s.counts.calls + 1; passes = s.counts.passes; decodings = s.counts.decodings; redelivered = s.counts.redelivered };
  row_count = s.row_count;
  column_count = s.column_count;
}

-- the answer to a call: what it came to, or why it is refused
abbrev pub Answer : Type 0
Answer = Result Outcome Refusal

-- what a pass answers that leaves t: also how many lines of its kind stand stuck then
abbrev pub pass_answer : Kind → Effort → (t : State) → PassAnswer
pass_answer kind e t = record { effort = e; stuck = how_many Stuck (records kind t) }

-- what a run answers that leaves t
abbrev pub run_answer : Work → (t : State) → RunAnswer
run_answer w t = record { ending = ending t; passes = w.passes; effort = record { decodings = w.decodings; changes = w.changes } }

-- an accepted call. A run begins with the rows
abbrev pub Accepts : (p q : Meaning) → Request → (s : State) → Answer → (t : State) → Type 0
Accepts p q (pass kind) s answer t = (e : Effort) × (Pass p q kind (called s) t e × (answer ≡ Ok (Passed (pass_answer kind e t))))
Accepts p q (run limit) s answer t = (w : Work) × (Runs p q limit Row (called s) t w × (answer ≡ Ok (Ran (run_answer w t))))
Accepts p q (redeliver i bytes) s answer t = Redelivery p q i bytes (called s) t × (answer ≡ Ok (Redelivered (differ (row p.size s.frame i) bytes)))

-- a call that is refused changes nothing
abbrev pub Does' : Option Refusal → (p q : Meaning) → Request → (s : State) → Answer → (t : State) → Type 0
Does' (Some why) p q request s answer t = (answer ≡ Err why) × (t ≡ s)
Does' None p q request s answer t = Accepts p q request s answer t

-- a call of a job that has s gets this answer, and leaves t
abbrev pub Does : (p q : Meaning) → Request → (s : State) → Answer → (t : State) → Type 0
Does p q request s answer t = Does' (refusal p q request s.frame s.counts.calls) p q request s answer t

-- the answer to a call, and what the job has after it
pub record Step : Type 0 where
  pub answer : Answer
  pub after : State

-- a job that has s does these calls, one after the other, in these steps
unfoldable pub Performs : (p q : Meaning) → List Request → State → List Step → Type 0
Performs p q [] s [] = Unit {0}
Performs p q [] s (g ∷ steps) = ⊥
Performs p q (x ∷ requests) s [] = ⊥
Performs p q (x ∷ requests) s (g ∷ steps) = Does p q x s g.answer g.after × Performs p q requests g.after steps

-- what the job has at the end
abbrev pub final : State → List Step → State
final s [] = s
final s (g ∷ steps) = final g.after steps

-- what an answer adds to the report: the passes
abbrev pub passes_of : Answer → ℕ
passes_of (Ok (Passed a)) = 1
passes_of (Ok (Ran a)) = a.passes
passes_of (Ok (Redelivered n)) = 0
passes_of (Err why) = 0

-- the decodings
abbrev pub decodings_of : Answer → ℕ
decodings_of (Ok (Passed a)) = a.effort.decodings
decodings_of (Ok (Ran a)) = a.effort.decodings
decodings_of (Ok (Redelivered n)) = 0
decodings_of (Err why) = 0

-- the places changed by redeliveries
abbrev pub redelivered_of : Answer → ℕ
redelivered_of (Ok (Passed a)) = 0
redelivered_of (Ok (Ran a)) = 0
redelivered_of (Ok (Redelivered n)) = n
redelivered_of (Err why) = 0

-- the counts of the report are sums over the answers given
pub record Summed (answers : List Answer) (s : State) : Type 0 where
  pub passes : s.counts.passes ≡ sum_by passes_of answers
  pub decodings : s.counts.decodings ≡ sum_by decodings_of answers
  pub redelivered : s.counts.redelivered ≡ sum_by redelivered_of answers

-- the report of a job that has s: mended bytes are the sum of all tallies, here called changes
abbrev pub report : State → Report
report s = record { passes = s.counts.passes; decodings = s.counts.decodings; redelivered = s.counts.redelivered; changes = tallies s.rows + tallies s.columns }
