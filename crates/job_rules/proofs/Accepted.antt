-- What is known of a call that is not refused.
use Rattle.std.proofs.Common.{◌≡◌, ℕ, ◌<◌, ◌≤◌, Bool, true, false, cond, leb, List, [], ◌∷◌, length, Some, None, Option, refl, arith, ltb-true, eqb-true, leb-true}
use Rattle.std.proofs.lemmas.Bool.{and_parts}
use Rattle.codes.specs.Meaning.{Meaning}
use Rattle.job_rules.specs.declared.answers.Refusal.{Refusal}
use Rattle.job_rules.specs.Questions.{Request, pass, run, redeliver, refusal, highest_limit, most_calls, Question, first_no, frame_fits, line_exists, line_fits, limit_allowed, call_left}
use Rattle.job_rules.specs.declared.records.Kind.TheVariants.{Row}
use Rattle.job_rules.proofs.Either.{bytes}

-- the first question was answered yes, and the rest is not refused
pub yes_first : (x : Question) (rest : List Question) → first_no (x ∷ rest) ≡ None → (x.holds ≡ true) × (first_no rest ≡ None)
yes_first x rest e = at x.holds (first_no rest) x.otherwise e
  where
    at : (a : Bool) (o : Option Refusal) (b : Refusal) → cond a o (Some b) ≡ None → (a ≡ true) × (o ≡ None)
    at true o b e = (refl, e)
    at false o b e = let z : ◌≡◌ {A = ℕ} 0 1 = cc in absurd (omega arith)

module _ (p q : Meaning) where
  pub accepted_fits : (x : Request) (frame : List ℕ) (calls : ℕ) → refusal p q x frame calls ≡ None → length frame ≡ bytes p q
  accepted_fits (pass kind) frame calls h = eqb-true _ _ (yes_first (frame_fits p q frame) (call_left calls ∷ []) h).0
  accepted_fits (run l) frame calls h = eqb-true _ _ (yes_first (frame_fits p q frame) (limit_allowed l ∷ call_left calls ∷ []) h).0
  accepted_fits (redeliver i new) frame calls h =
      eqb-true _ _ (yes_first (frame_fits p q frame) (line_exists p q Row i ∷ line_fits p new ∷ call_left calls ∷ []) h).0

  pub accepted_limit : (l : ℕ) (frame : List ℕ) (calls : ℕ) → refusal p q (run l) frame calls ≡ None → (1 ≤ l) × (l ≤ highest_limit) × (calls < most_calls)
  accepted_limit l frame calls h =
      let one = yes_first (frame_fits p q frame) (limit_allowed l ∷ call_left calls ∷ []) h in
      let two = yes_first (limit_allowed l) (call_left calls ∷ []) one.1 in
      let three = yes_first (call_left calls) [] two.1 in
      let both = and_parts (leb 1 l) (leb l highest_limit) two.0 in
      (leb-true 1 l both.0, leb-true l highest_limit both.1, ltb-true calls most_calls three.0)

  pub accepted_row : (i : ℕ) (new frame : List ℕ) (calls : ℕ) → refusal p q (redeliver i new) frame calls ≡ None → (i < q.size) × (length new ≡ p.size) × (calls < most_calls)
  accepted_row i new frame calls h =
      let one = yes_first (frame_fits p q frame) (line_exists p q Row i ∷ line_fits p new ∷ call_left calls ∷ []) h in
      let two = yes_first (line_exists p q Row i) (line_fits p new ∷ call_left calls ∷ []) one.1 in
      let three = yes_first (line_fits p new) (call_left calls ∷ []) two.1 in
      let four = yes_first (call_left calls) [] three.1 in
      (ltb-true i q.size two.0, eqb-true (length new) p.size three.0, ltb-true calls most_calls four.0)

  pub accepted_few : (x : Request) (frame : List ℕ) (calls : ℕ) → refusal p q x frame calls ≡ None → calls < most_calls
  accepted_few (pass kind) frame calls h =
      let one = yes_first (frame_fits p q frame) (call_left calls ∷ []) h in
      let two = yes_first (call_left calls) [] one.1 in
      ltb-true calls most_calls two.0
  accepted_few (run l) frame calls h = (accepted_limit l frame calls h).2
  accepted_few (redeliver i new) frame calls h = (accepted_row i new frame calls h).2
