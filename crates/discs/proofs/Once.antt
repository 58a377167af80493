-- A new job that was given one call, a run.
use Rattle.std.proofs.Common.{◌≡◌, ℕ, List, [], ◌∷◌, Result, refl, ap, ◌∙◌}
use Rattle.codes.specs.Meaning.{Meaning, Lawful}
use Rattle.codes.specs.declared.LineCode.{Ghosts}
use Rattle.job_rules.specs.declared.answers.RunAnswer.{RunAnswer}
use Rattle.job_rules.specs.declared.answers.Refusal.{Refusal}
use Rattle.job_rules.specs.Questions.{Request, run}
use Rattle.job_rules.specs.Passes.{State, start}
use Rattle.job_rules.specs.Calls.{Answer, Does, Performs}
use Rattle.job_rules.specs.Promise.{Gives}
use Rattle.job_rules.proofs.Promised.{promised}
use Rattle.jobs.specs.declared.job.Job.{Job}
use Rattle.jobs.specs.States.{row_meaning, column_meaning, state, answer_of_run, Called}
use Rattle.jobs.proofs.Performing.{gives_same}
use Rattle.discs.specs.Correcting.{RanOnce}

-- one call is a list of calls
gives_one : (p q : Meaning) (x : Request) (s t : State) (a : Answer) → Does p q x s a t → Gives p q (x ∷ []) s (a ∷ []) t
unfolding Performs
gives_one p q x s t a d = record { ours = record { answer = a; after = t } ∷ []; performs = (d, tt); answers_are = refl; end_is = refl }

pub ran_once : {P Q : Type 0} (f : Ghosts P) (g : Ghosts Q) (row : P) (column : Q) (limit : ℕ) (frame frame' : List ℕ) (new job : Job P Q f g) (answer : Result RunAnswer Refusal) →
    Lawful (f.meaning row) → Lawful (g.meaning column) → new.row_code ≡ row → new.column_code ≡ column →
    state f g new frame ≡ start (f.meaning row) (g.meaning column) frame (f.count row) (g.count column) →
    Called f g new job frame frame' (run limit) (answer_of_run answer) → RanOnce f g row column limit frame frame' job answer
ran_once f g row column limit frame frame' new job answer lp lq r c s h =
    let p = ap f.meaning r in
    let q = ap g.meaning c in
    let end = state f g job frame' in
    let one = gives_one (row_meaning f new) (column_meaning g new) (run limit) (state f g new frame) end (answer_of_run answer) h.does in
    record {
      rows = h.rows ∙ p;
      columns = h.columns ∙ q;
      promise = promised (f.meaning row) (g.meaning column) lp lq frame (f.count row) (g.count column) (run limit ∷ []) (answer_of_run answer ∷ []) end
          (gives_same _ _ _ _ (run limit ∷ []) _ _ (answer_of_run answer ∷ []) end p q s one);
    }
