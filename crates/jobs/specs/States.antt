-- From what the program holds to what the rules speak of.
use Rattle.std.specs.Prelude.{◌≡◌, ℕ, ◌≤◌, List, take, true, false, Ok, Err, Result}
use Rattle.codes.specs.Meaning.{Meaning}
use Rattle.codes.specs.declared.LineCode.{Ghosts}
use Rattle.job_rules.specs.declared.records.Kind.{Kind}
use Rattle.job_rules.specs.declared.records.Kind.TheVariants.{Row, Column}
use Rattle.job_rules.specs.declared.answers.Effort.{Effort}
use Rattle.job_rules.specs.declared.answers.PassAnswer.{PassAnswer}
use Rattle.job_rules.specs.declared.answers.RunAnswer.{RunAnswer}
use Rattle.job_rules.specs.declared.answers.Refusal.{Refusal}
use Rattle.job_rules.specs.declared.answers.Outcome.TheVariants.{Passed, Ran, Redelivered}
use Rattle.job_rules.specs.Records.{on}
use Rattle.job_rules.specs.Questions.{Request, Question}
use Rattle.job_rules.specs.Passes.{State, Pass}
use Rattle.job_rules.specs.Calls.{Answer, Work, Runs, run_answer, Does}
use Rattle.job_rules.specs.Bounds.{most_lines, most_changes}
use Rattle.jobs.specs.declared.job.Job.{Job}

-- what the job's row code means
abbrev pub row_meaning : {P Q : Type 0} {g : Ghosts Q} (f : Ghosts P) → Job P Q f g → Meaning
row_meaning f job = f.meaning job.row_code

-- what the job's column code means
abbrev pub column_meaning : {P Q : Type 0} {f : Ghosts P} (g : Ghosts Q) → Job P Q f g → Meaning
column_meaning g job = g.meaning job.column_code

-- what a job has that is lent this frame: of its tables, the records of its R rows and C columns
abbrev pub state : {P Q : Type 0} (f : Ghosts P) (g : Ghosts Q) → Job P Q f g → List ℕ → State
state f g job frame = record {
  frame = frame;
  rows = take (column_meaning g job).size (on Row job.lines);
  columns = take (row_meaning f job).size (on Column job.lines);
  counts = job.counts;
  row_count = f.count job.row_code;
  column_count = g.count job.column_code;
}

-- one question is answered yes, or with its refusal
abbrev pub Told : Question → Result (Unit {0}) Refusal → Type 0
Told x (Ok done) = x.holds ≡ true
Told x (Err why) = (x.holds ≡ false) × (why ≡ x.otherwise)

-- the answers of the four calls, as answers to a call of a list
abbrev pub answer_of_pass : Result PassAnswer Refusal → Answer
answer_of_pass (Ok a) = Ok (Passed a)
answer_of_pass (Err why) = Err why

abbrev pub answer_of_run : Result RunAnswer Refusal → Answer
answer_of_run (Ok a) = Ok (Ran a)
answer_of_run (Err why) = Err why

abbrev pub answer_of_delivery : Result ℕ Refusal → Answer
answer_of_delivery (Ok n) = Ok (Redelivered n)
answer_of_delivery (Err why) = Err why

-- a call of a job: its codes mean what they meant, and all else is as the rules say
pub record Called {P Q : Type 0} (f : Ghosts P) (g : Ghosts Q) (job job' : Job P Q f g) (frame frame' : List ℕ) (request : Request) (answer : Answer) : Type 0 where
  pub rows : row_meaning f job' ≡ row_meaning f job
  pub columns : column_meaning g job' ≡ column_meaning g job
  pub does : Does (row_meaning f job) (column_meaning g job) request (state f g job frame) answer (state f g job' frame')

-- one pass of a job
pub record PassMade {P Q : Type 0} (f : Ghosts P) (g : Ghosts Q) (job job' : Job P Q f g) (frame frame' : List ℕ) (kind : Kind) (e : Effort) : Type 0 where
  pub rows : row_meaning f job' ≡ row_meaning f job
  pub columns : column_meaning g job' ≡ column_meaning g job
  pub made : Pass (row_meaning f job) (column_meaning g job) kind (state f g job frame) (state f g job' frame') e
  pub few : e.decodings ≤ most_lines
  pub low : e.changes ≤ most_changes

-- the passes of a run
pub record RunMade {P Q : Type 0} (f : Ghosts P) (g : Ghosts Q) (job job' : Job P Q f g) (frame frame' : List ℕ) (limit : ℕ) (answer : RunAnswer) : Type 0 where
  pub rows : row_meaning f job' ≡ row_meaning f job
  pub columns : column_meaning g job' ≡ column_meaning g job
  pub work : Work
  pub runs : Runs (row_meaning f job) (column_meaning g job) limit Row (state f g job frame) (state f g job' frame') work
  pub is : answer ≡ run_answer work (state f g job' frame')
