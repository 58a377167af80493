-- What a job does at a list of calls leaves no choice.
use Rattle.std.proofs.Common.{◌≡◌, ℕ, zero, suc, ◌+◌, ◌≤◌, List, [], ◌∷◌, map, length, get_or, Some, None, Option, sym, refl, ap, ◌∙◌, subst, inl, inr, arith, Ok}
use Rattle.codes.specs.Meaning.{Meaning, Lawful, differ}
use Rattle.job_rules.specs.declared.records.Standing.{Standing}
use Rattle.job_rules.specs.declared.records.Standing.TheVariants.{Open, Sound, Stuck}
use Rattle.job_rules.specs.declared.records.Record.{Record}
use Rattle.job_rules.specs.declared.records.Counts.{Counts}
use Rattle.job_rules.specs.declared.records.Kind.{Kind}
use Rattle.job_rules.specs.declared.records.Kind.TheVariants.{Row, Column}
use Rattle.job_rules.specs.declared.answers.Effort.{Effort}
use Rattle.job_rules.specs.declared.answers.Refusal.{Refusal}
use Rattle.job_rules.specs.declared.answers.Outcome.TheVariants.{Passed, Ran}
use Rattle.job_rules.specs.Records.{fresh, crossing}
use Rattle.job_rules.specs.Questions.{Request, pass, run, redeliver, refusal, lines}
use Rattle.job_rules.specs.Lines.{line, code, Seen, InOrder}
use Rattle.job_rules.specs.Passes.{State, start, Progress, Turn, turn, seen, code_count, progress, no_effort, passed, Pass}
use Rattle.job_rules.specs.Calls.{Answer, standing, Work, added, Runs, Redelivery, called, pass_answer, run_answer, Accepts, Does', Step, Performs, final}
use Rattle.job_rules.specs.Laws.{Pinned}
use Rattle.codes.proofs.Views.{Shows}
use Rattle.job_rules.proofs.Either.{bytes, shows, lawful}
use Rattle.job_rules.proofs.Unique.{decoding_one, delivery_one}
use Rattle.job_rules.proofs.Lengths.{turns_long, pass_long}
use Rattle.job_rules.proofs.Accepted.{accepted_fits}

abbrev progress_of : Seen → (d c n : ℕ) → Progress
progress_of a d c n = record { at = a; decodings = d; changes = c; count = n }

progress_same : (a a' : Seen) (d d' c c' n n' : ℕ) → a ≡ a' → d ≡ d' → c ≡ c' → n ≡ n' → progress_of a d c n ≡ progress_of a' d' c' n'
progress_same a a' d d' c c' n n' v w x y = rw (v, w, x, y)

abbrev state_of : List ℕ → (r c : List Record) → Counts → (m n : ℕ) → State
state_of f r c k m n = record { frame = f; rows = r; columns = c; counts = k; row_count = m; column_count = n }

states_same : (f f' : List ℕ) (r r' c c' : List Record) (k k' : Counts) (m m' n n' : ℕ) → f ≡ f' → r ≡ r' → c ≡ c' → k ≡ k' → m ≡ m' → n ≡ n' → state_of f r c k m n ≡ state_of f' r' c' k' m' n'
states_same f f' r r' c c' k k' m m' n n' u v w x y z = rw (u, v, w, x, y, z)

abbrev effort_of : ℕ → ℕ → Effort
effort_of d c = record { decodings = d; changes = c }

module _ (m : Meaning) (law : Lawful m) (view : List ℕ → ℕ → List ℕ) (n len : ℕ) (shows : Shows view n len) where
  turn_one : (i : ℕ) (s t u : Progress) (st : Standing) → length s.at.frame ≡ len → Turn st m view n i s t → Turn st m view n i s u → t ≡ u
  turn_one i s t u Open size d e =
      let at = decoding_one m law view n len shows i s.at t.at u.at size d.line e.line in
      progress_same t.at u.at t.decodings u.decodings t.changes u.changes t.count u.count at
      (d.decodings ∙ sym e.decodings)
      (d.changes ∙ ap (λ x. s.changes + differ (view s.at.frame i) (view x.frame i)) at ∙ sym e.changes)
      (d.count ∙ sym e.count)
  turn_one i s t u Sound size d e = d ∙ sym e
  turn_one i s t u Stuck size d e = d ∙ sym e

  turns_one : (k : ℕ) (s t u : Progress) → length s.at.frame ≡ len → InOrder (turn m view n) k s t → InOrder (turn m view n) k s u → t ≡ u
  unfolding InOrder
  turns_one zero s t u size d e = d ∙ sym e
  turns_one (suc k) s t u size (v, d) (w, e) =
      let same = turns_one k s v w size d.0 e.0 in
      let e' = subst (λ (x : Progress). turn m view n k x u) (sym same) e.1 in
      turn_one k v t u (get_or v.at.on k fresh).standing (turns_long m view n k s v d.0 ∙ size) d.1 e'

module _ (p q : Meaning) (lp : Lawful p) (lq : Lawful q) where
  abbrev Fit : State → Type 0
  Fit s = length s.frame ≡ bytes p q

  pass_one : (kind : Kind) (s t u : State) (a b : Effort) → Fit s → Pass p q kind s t a → Pass p q kind s u b → (t ≡ u) × (a ≡ b)
  pass_one kind s t u a b f d e =
      let same = turns_one (code p q kind) (lawful p q lp lq kind) (line p q kind) (lines p q kind) (bytes p q) (shows p q kind) (lines p q kind) (progress kind s no_effort) (progress kind t a) (progress kind u b) f d.turns e.turns in
      let efforts : a ≡ b = ap (λ x. effort_of x.decodings x.changes) same in
      let counts = d.counts ∙ ap (λ x. passed x s.counts) efforts ∙ sym e.counts in
      (states kind same counts (d.other ∙ sym e.other), efforts)
    where
      states : (kind : Kind) → progress kind t a ≡ progress kind u b → t.counts ≡ u.counts → code_count (crossing kind) t ≡ code_count (crossing kind) u → t ≡ u
      states Row h k o =
          states_same t.frame u.frame t.rows u.rows t.columns u.columns t.counts u.counts t.row_count u.row_count t.column_count u.column_count
          (ap (λ x. x.at.frame) h) (ap (λ x. x.at.on) h) (ap (λ x. x.at.across) h) k (ap (λ x. x.count) h) o
      states Column h k o =
          states_same t.frame u.frame t.rows u.rows t.columns u.columns t.counts u.counts t.row_count u.row_count t.column_count u.column_count
          (ap (λ x. x.at.frame) h) (ap (λ x. x.at.across) h) (ap (λ x. x.at.on) h) k o (ap (λ x. x.count) h)

  clash : {A : Type 0} (n : ℕ) → n ≡ 0 → 1 ≤ n → A
  clash n e f = absurd (omega arith)

  runs_one : (l : ℕ) (kind : Kind) (s t u : State) (a b : Work) → Fit s → Runs p q l kind s t a → Runs p q l kind s u b → (t ≡ u) × (a ≡ b)
  unfolding Runs
  runs_one zero kind s t u a b f x y = (x.0 ∙ sym y.0, x.1 ∙ sym y.1)
  runs_one (suc l) kind s t u a b f (inl x) (inl y) = (x.1 ∙ sym y.1, x.2 ∙ sym y.2)
  runs_one (suc l) kind s t u a b f (inl x) (inr y) = clash (standing Open s) x.0 y.0
  runs_one (suc l) kind s t u a b f (inr x) (inl y) = clash (standing Open s) y.0 x.0
  runs_one (suc l) kind s t u a b f (inr x) (inr y) =
      let g = x.1 in let h = y.1 in
      let first = pass_one kind s g.next h.next g.effort h.effort f g.made h.made in
      let h' = subst (λ (z : State). Runs p q l (crossing kind) z u h.left) (sym first.0) h.rest in
      let rest = runs_one l (crossing kind) g.next t u g.left h.left (pass_long p q kind s g.next g.effort g.made ∙ f) g.rest h' in
      (rest.0, g.sum ∙ ap (λ z. added z g.left) first.1 ∙ ap (added h.effort) rest.1 ∙ sym h.sum)

  redelivery_one : (i : ℕ) (new : List ℕ) (s t u : State) → Fit s → Redelivery p q i new s t → Redelivery p q i new s u → t ≡ u
  redelivery_one i new s t u f a b =
      let h = delivery_one p.size q.size i new (seen Row s) (seen Row t) (seen Row u) (shows p q Row) f a.delivers b.delivers in
      states_same t.frame u.frame t.rows u.rows t.columns u.columns t.counts u.counts t.row_count u.row_count t.column_count u.column_count
      (ap (λ x. x.frame) h) (ap (λ x. x.on) h) (ap (λ x. x.across) h) (a.counts ∙ sym b.counts) (a.row_count ∙ sym b.row_count) (a.column_count ∙ sym b.column_count)

  abbrev step_of : Answer → State → Step
  step_of r s = record { answer = r; after = s }

  steps_same : (g h : Step) → g.answer ≡ h.answer → g.after ≡ h.after → g ≡ h
  steps_same g h a b = ap (λ z. step_of z g.after) a ∙ ap (step_of h.answer) b

  accepts_one : (x : Request) (s : State) (g h : Step) → Fit s → Accepts p q x s g.answer g.after → Accepts p q x s h.answer h.after → g ≡ h
  accepts_one (pass kind) s g h f a b =
      let same = pass_one kind (called s) g.after h.after a.0 b.0 f a.1.0 b.1.0 in
      steps_same g h (a.1.1 ∙ ap (λ z. Ok (Passed (pass_answer kind z g.after))) same.1 ∙ ap (λ z. Ok (Passed (pass_answer kind b.0 z))) same.0 ∙ sym b.1.1) same.0
  accepts_one (run l) s g h f a b =
      let same = runs_one l Row (called s) g.after h.after a.0 b.0 f a.1.0 b.1.0 in
      steps_same g h (a.1.1 ∙ ap (λ z. Ok (Ran (run_answer z g.after))) same.1 ∙ ap (λ z. Ok (Ran (run_answer b.0 z))) same.0 ∙ sym b.1.1) same.0
  accepts_one (redeliver i new) s g h f a b = steps_same g h (a.1 ∙ sym b.1) (redelivery_one i new (called s) g.after h.after f a.0 b.0)

  does_one : (x : Request) (s : State) (g h : Step) (o : Option Refusal) → refusal p q x s.frame s.counts.calls ≡ o → Does' o p q x s g.answer g.after → Does' o p q x s h.answer h.after → g ≡ h
  does_one x s g h (Some why) e a b = steps_same g h (a.0 ∙ sym b.0) (a.1 ∙ sym b.1)
  does_one x s g h None e a b = accepts_one x s g h (accepted_fits p q x s.frame s.counts.calls e) a b

  performs_one : (requests : List Request) (s : State) (g h : List Step) → Performs p q requests s g → Performs p q requests s h → g ≡ h
  unfolding Performs
  performs_one [] s [] [] x y = refl
  performs_one [] s [] (k ∷ h) x y = absurd y
  performs_one [] s (k ∷ g) h x y = absurd x
  performs_one (a ∷ requests) s [] h x y = absurd x
  performs_one (a ∷ requests) s (k ∷ g) [] x y = absurd y
  performs_one (a ∷ requests) s (k ∷ g) (l ∷ h) x y =
      let same = does_one a s k l (refusal p q a s.frame s.counts.calls) refl x.0 y.0 in
      let y' = subst (λ (z : Step). Performs p q requests z.after h) (sym same) y.1 in
      let rest = performs_one requests k.after g h x.1 y' in
      cc

pub pinned : Pinned
pinned p q lp lq first m n requests a a' e e' x y =
    let s = start p q first m n in
    let same = performs_one p q lp lq requests s x.ours y.ours x.performs y.performs in
    (sym x.answers_are ∙ ap (map (λ g. g.answer)) same ∙ y.answers_are, x.end_is ∙ ap (final s) same ∙ sym y.end_is)
