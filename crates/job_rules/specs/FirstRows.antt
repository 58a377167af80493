-- The first row pass of a job.
use Rattle.std.specs.Prelude.{◌≡◌, ℕ, suc, ◌*◌, ◌<◌, ◌≤◌, List, [], ◌∷◌, length, Ok, Err, None, slice_index_or}
use Rattle.codes.specs.Meaning.{Meaning, Lawful, Word, Below, differ}
use Rattle.job_rules.specs.declared.records.Standing.TheVariants.{Sound}
use Rattle.job_rules.specs.declared.records.Kind.TheVariants.{Row, Column}
use Rattle.job_rules.specs.declared.answers.Effort.{Effort}
use Rattle.job_rules.specs.Records.{fresh}
use Rattle.job_rules.specs.Questions.{Request, pass, run, redeliver, refusal}
use Rattle.job_rules.specs.Lines.{row}
use Rattle.job_rules.specs.Passes.{State, start, Pass}
use Rattle.job_rules.specs.Calls.{Answer, Work, Runs, called, Does, Step, Performs, final}

-- a call that was refused
abbrev pub WasRefused : Answer → Type 0
WasRefused (Ok outcome) = ⊥
WasRefused (Err why) = Unit {0}

-- a call that decodes no row: a column pass, a redelivery, or one that was refused
abbrev pub NoRows : Request → Answer → Type 0
NoRows (pass Row) answer = WasRefused answer
NoRows (pass Column) answer = Unit {0}
NoRows (run limit) answer = WasRefused answer
NoRows (redeliver i bytes) answer = Unit {0}

-- no call of the list decodes a row
abbrev pub NoRowsYet : List Request → List Step → Type 0
NoRowsYet [] steps = Unit {0}
NoRowsYet (x ∷ requests) [] = Unit {0}
NoRowsYet (x ∷ requests) (g ∷ steps) = NoRows x g.answer × NoRowsYet requests steps

-- a new job after such a list
pub record BeforeRows (p q : Meaning) (s : State) : Type 0 where
  pub first : List ℕ
  pub m : ℕ
  pub n : ℕ
  pub requests : List Request
  pub steps : List Step
  pub performs : Performs p q requests (start p q first m n) steps
  pub none : NoRowsYet requests steps
  pub is : s ≡ final (start p q first m n) steps

-- a target whose rows are all codewords, from which no row of the frame differs at more places than the reach; the frame's bytes are of the code's alphabet
pub record RowsInReach (p q : Meaning) (frame target : List ℕ) : Type 0 where
  pub size : length target ≡ q.size * p.size
  pub words : (i : ℕ) → i < q.size → Word p (row p.size target i)
  pub below : (i : ℕ) → i < q.size → Below p.alphabet (row p.size frame i)
  pub near : (i : ℕ) → i < q.size → differ (row p.size frame i) (row p.size target i) ≤ p.reach

-- every row is that frame's, and sound
pub record Restored (p q : Meaning) (target : List ℕ) (t : State) : Type 0 where
  pub rows : (i : ℕ) → i < q.size → row p.size t.frame i ≡ row p.size target i
  pub sound : (i : ℕ) → i < q.size → (slice_index_or t.rows i fresh).standing ≡ Sound
  pub frame : t.frame ≡ target

-- a run whose first pass, over the rows, leaves u
pub record BeginsWith (p q : Meaning) (limit : ℕ) (s u t : State) : Type 0 where
  pub effort : Effort
  pub made : Pass p q Row s u effort
  pub left : ℕ
  pub limit_is : limit ≡ suc left
  pub work : Work
  pub rest : Runs p q left Column u t work

-- The first row pass that is accepted, by itself or as the first pass of a run: a frame it finds in reach of rows that are all codewords is restored to them.
pub record FirstRowPass (p q : Meaning) (s : State) (target : List ℕ) : Type 0 where
  pub by_itself : (answer : Answer) (t : State) → refusal p q (pass Row) s.frame s.counts.calls ≡ None → Does p q (pass Row) s answer t → Restored p q target t
  pub in_a_run : (limit : ℕ) (answer : Answer) (t : State) → refusal p q (run limit) s.frame s.counts.calls ≡ None → Does p q (run limit) s answer t →
      (u : State) × (BeginsWith p q limit (called s) u t × Restored p q target u)

-- for every two codes, after every list that decodes no row
abbrev pub FirstRowPassRestores : Type 0
FirstRowPassRestores = (p q : Meaning) → Lawful p → Lawful q → (s : State) → BeforeRows p q s → (target : List ℕ) → RowsInReach p q s.frame target → FirstRowPass p q s target
