-- What correcting a frame promises.
use Rattle.std.specs.Prelude.{◌≡◌, ℕ, List, [], ◌∷◌, Result}
use Rattle.codes.specs.declared.LineCode.{Ghosts}
use Rattle.job_rules.specs.declared.answers.RunAnswer.{RunAnswer}
use Rattle.job_rules.specs.declared.answers.Refusal.{Refusal}
use Rattle.job_rules.specs.Questions.{run}
use Rattle.job_rules.specs.Promise.{Promise}
use Rattle.jobs.specs.declared.job.Job.{Job}
use Rattle.jobs.specs.States.{row_meaning, column_meaning, state, answer_of_run}

-- the most passes that correcting a frame takes
abbrev pub passes_offered : ℕ
passes_offered = 6

-- a new job over these codes was given one call, a run with this limit, and kept the promise over every list of calls
pub record RanOnce {P Q : Type 0} (f : Ghosts P) (g : Ghosts Q) (row : P) (column : Q) (limit : ℕ) (frame frame' : List ℕ) (job : Job P Q f g) (answer : Result RunAnswer Refusal) : Type 0 where
  pub rows : row_meaning f job ≡ f.meaning row
  pub columns : column_meaning g job ≡ g.meaning column
  pub promise : Promise (f.meaning row) (g.meaning column) frame (f.count row) (g.count column) (run limit ∷ []) (answer_of_run answer ∷ []) (state f g job frame')
