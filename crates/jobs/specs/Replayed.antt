-- What the replay of a list of calls promises.
use Rattle.std.specs.Prelude.{◌≡◌, ℕ, List, map, Some}
use Rattle.codes.specs.declared.LineCode.{Ghosts}
use Rattle.job_rules.specs.declared.calls.Entry.{Entry}
use Rattle.job_rules.specs.Calls.{Answer}
use Rattle.job_rules.specs.Lists.{request_of}
use Rattle.job_rules.specs.Promise.{Promise}
use Rattle.jobs.specs.declared.job.Job.{Job}
use Rattle.jobs.specs.States.{row_meaning, column_meaning, state, Called}

-- one entry of the list: its call is made, and its answer stands in it
pub record Answered {P Q : Type 0} (f : Ghosts P) (g : Ghosts Q) (job job' : Job P Q f g) (frame frame' : List ℕ) (entry entry' : Entry) : Type 0 where
  pub kept : entry'.call ≡ entry.call
  pub reply : Answer
  pub given : entry'.answer ≡ Some reply
  pub called : Called f g job job' frame frame' (request_of entry.call) reply

-- a new job over these two codes did all calls of the list to the frame, wrote each answer into its entry, and kept the promise
pub record Replayed {P Q : Type 0} (f : Ghosts P) (g : Ghosts Q) (row : P) (column : Q) (frame frame' : List ℕ) (list list' : List Entry) (job : Job P Q f g) : Type 0 where
  pub rows : row_meaning f job ≡ f.meaning row
  pub columns : column_meaning g job ≡ g.meaning column
  pub kept : map (λ e. e.call) list' ≡ map (λ e. e.call) list
  pub answers : List Answer
  pub given : map (λ e. e.answer) list' ≡ map Some answers
  pub promise : Promise (f.meaning row) (g.meaning column) frame (f.count row) (g.count column) (map (λ e. request_of e.call) list) answers (state f g job frame')
