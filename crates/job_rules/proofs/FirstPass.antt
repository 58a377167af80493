-- The first row pass decodes every row.
use Rattle.std.proofs.Common.{◌≡◌, ℕ, zero, suc, ◌*◌, ◌<◌, ◌≤◌, Bool, true, false, cond, eqb, ◌⊎◌, List, [], ◌∷◌, length, get_or, set, Some, None, Option, sym, refl, ap, ◌∙◌, subst, inl, inr, arith}
use Rattle.std.proofs.lemmas.List.{get_or-set_same, get_or-set_other, set_past}
use Rattle.std.proofs.lemmas.Bool.{cases_eq, cases_lt}
use Rattle.codes.specs.Meaning.{Meaning, Lawful, differ}
use Rattle.codes.specs.Answers.{Decodes}
use Rattle.job_rules.specs.declared.records.Standing.{Standing}
use Rattle.job_rules.specs.declared.records.Standing.TheVariants.{Open, Sound, Stuck}
use Rattle.job_rules.specs.declared.records.Record.{Record}
use Rattle.job_rules.specs.declared.records.Kind.TheVariants.{Row, Column}
use Rattle.job_rules.specs.declared.answers.Effort.{Effort}
use Rattle.job_rules.specs.declared.answers.Refusal.{Refusal}
use Rattle.job_rules.specs.Records.{fresh, opened}
use Rattle.job_rules.specs.Questions.{Request, pass, run, redeliver, refusal}
use Rattle.job_rules.specs.Lines.{row, column, decided, where_differ, InOrder}
use Rattle.job_rules.specs.Passes.{State, start, Progress, Turn, turn, progress, no_effort, Pass}
use Rattle.job_rules.specs.Calls.{Answer, Work, Runs, Redelivery, called, Accepts, Does', Step, Performs, final}
use Rattle.job_rules.specs.Laws.{Shaped}
use Rattle.job_rules.specs.FirstRows.{WasRefused, NoRows, NoRowsYet, BeforeRows, RowsInReach, Restored, BeginsWith, FirstRowPassRestores}
use Rattle.codes.proofs.Views.{rows_show, row_long}
use Rattle.job_rules.proofs.Accepted.{accepted_fits, accepted_limit}
use Rattle.job_rules.proofs.Unique.{decodes_one}
use Rattle.job_rules.proofs.Lengths.{pass_keeps, turns_lengths, redelivery_keeps}
use Rattle.job_rules.proofs.Ends.{line_counted}
use Rattle.job_rules.proofs.Promised.{open_at}
use Rattle.job_rules.proofs.Bounded.{start_shaped}

abbrev Opens : List Record → ℕ → Type 0
Opens rs k = (get_or rs k fresh).standing ≡ Open

-- opening lines leaves open ones open
wd_open : (xs ys : List ℕ) (rs : List Record) (k : ℕ) → Opens rs k → Opens (where_differ opened xs ys rs) k
unfolding where_differ
wd_open [] ys rs k e = e
wd_open (x ∷ xs) [] rs k e = e
wd_open (x ∷ xs) (y ∷ ys) [] k e = e
wd_open (x ∷ xs) (y ∷ ys) (r ∷ rs) zero e = at (eqb x y)
  where
    at : (b : Bool) → (cond b r (opened r)).standing ≡ Open
    at true = e
    at false = refl
wd_open (x ∷ xs) (y ∷ ys) (r ∷ rs) (suc k) e = wd_open xs ys rs k e

set_open : (rs : List Record) (i k : ℕ) (r : Record) → r.standing ≡ Open → Opens rs k → Opens (set rs i r) k
set_open rs i k r h e = at (cases_eq k i) (cases_lt i (length rs))
  where
    at : (k ≡ i) ⊎ (k ≡ i → ⊥) → (i < length rs) ⊎ (length rs ≤ i) → Opens (set rs i r) k
    at (inl q) (inl l) = rw q (ap (λ x. x.standing) (get_or-set_same rs i r fresh l) ∙ h)
    at (inl q) (inr l) = ap (λ x. (get_or x k fresh).standing) (set_past rs i r l) ∙ e
    at (inr ne) l = ap (λ x. x.standing) (get_or-set_other rs i k r fresh ne) ∙ e

-- every row is open
record AllOpen (p q : Meaning) (s : State) : Type 0 where
  pub shaped : Shaped p q s
  pub rows : (k : ℕ) → Opens s.rows k

module _ (p q : Meaning) where
  column_turn : (i : ℕ) (s t : Progress) (st : Standing) → Turn st q (column p.size q.size) p.size i s t → ((k : ℕ) → Opens s.at.across k) → (k : ℕ) → Opens t.at.across k
  column_turn i s t Open h o k = ap (λ x. (get_or x k fresh).standing) h.line.cross ∙ wd_open _ h.line.line' s.at.across k (o k)
  column_turn i s t Sound h o k = ap (λ x. (get_or x.at.across k fresh).standing) h ∙ o k
  column_turn i s t Stuck h o k = ap (λ x. (get_or x.at.across k fresh).standing) h ∙ o k

  column_turns : (n : ℕ) (s t : Progress) → InOrder (turn q (column p.size q.size) p.size) n s t → ((k : ℕ) → Opens s.at.across k) → (k : ℕ) → Opens t.at.across k
  unfolding InOrder
  column_turns zero s t h o k = ap (λ x. (get_or x.at.across k fresh).standing) h ∙ o k
  column_turns (suc n) s t (u, h) o k = column_turn n u t (get_or u.at.on n fresh).standing h.1 (column_turns n s u h.0 o) k

  columns_open : (s t : State) (e : Effort) → AllOpen p q s → Pass p q Column s t e → AllOpen p q t
  columns_open s t e u d =
      let k = pass_keeps p q Column s t e d in
      record { shaped = record { rows = k.on ∙ u.shaped.rows; columns = k.across ∙ u.shaped.columns }; rows = column_turns p.size (progress Column s no_effort) (progress Column t e) d.turns u.rows }

  redelivery_open : (i : ℕ) (new : List ℕ) (s t : State) → AllOpen p q s → Redelivery p q i new s t → AllOpen p q t
  redelivery_open i new s t u d =
      let k = redelivery_keeps p q i new s t d in
      let b = eqb (differ (row p.size s.frame i) new) 0 in
      record {
        shaped = record { rows = k.on ∙ u.shaped.rows; columns = k.across ∙ u.shaped.columns };
        rows = λ j. ap (λ x. (get_or x j fresh).standing) d.delivers.mark ∙ set_open s.rows i j (cond b (get_or s.rows i fresh) (opened (get_or s.rows i fresh))) (either b (get_or s.rows i fresh) (u.rows i)) (u.rows j);
      }
    where
      either : (b : Bool) (r : Record) → r.standing ≡ Open → (cond b r (opened r)).standing ≡ Open
      either true r e = e
      either false r e = refl

  called_open : (s : State) → AllOpen p q s → AllOpen p q (called s)
  called_open s u = record { shaped = record { rows = u.shaped.rows; columns = u.shaped.columns }; rows = u.rows }

  accepts_open : (x : Request) (s t : State) (r : Answer) → NoRows x r → AllOpen p q s → Accepts p q x s r t → AllOpen p q t
  accepts_open (pass Row) s t r n u h = absurd (subst WasRefused h.1.1 n)
  accepts_open (pass Column) s t r n u h = columns_open (called s) t h.0 (called_open s u) h.1.0
  accepts_open (run l) s t r n u h = absurd (subst WasRefused h.1.1 n)
  accepts_open (redeliver i new) s t r n u h = redelivery_open i new (called s) t (called_open s u) h.0

  does_open : (x : Request) (s t : State) (r : Answer) (o : Option Refusal) → NoRows x r → AllOpen p q s → Does' o p q x s r t → AllOpen p q t
  does_open x s t r (Some why) n u h = subst (λ (z : State). AllOpen p q z) (sym h.1) u
  does_open x s t r None n u h = accepts_open x s t r n u h

  performs_open : (requests : List Request) (s : State) (steps : List Step) → Performs p q requests s steps → NoRowsYet requests steps → AllOpen p q s → AllOpen p q (final s steps)
  unfolding Performs
  performs_open [] s [] h n u = u
  performs_open [] s (g ∷ steps) h n u = absurd h
  performs_open (x ∷ requests) s [] h n u = absurd h
  performs_open (x ∷ requests) s (g ∷ steps) h n u =
      performs_open requests g.after steps h.1 n.1 (does_open x s g.after g.answer (refusal p q x s.frame s.counts.calls) n.0 u h.0)

  before_open : (s : State) → BeforeRows p q s → AllOpen p q s
  before_open s b = subst (λ (z : State). AllOpen p q z) (sym b.is)
      (performs_open b.requests (start p q b.first b.m b.n) b.steps b.performs b.none
      (record { shaped = start_shaped p q b.first b.m b.n; rows = λ k. ap (λ x. x.standing) (open_at p q q.size k) }))

  -- a row pass over open rows that has come to row k: those before are the target's and sound, the others as they were
  record Coming (target : List ℕ) (k : ℕ) (s w : Progress) : Type 0 where
    pub done : (i : ℕ) → i < k → i < q.size → (row p.size w.at.frame i ≡ row p.size target i) × ((get_or w.at.on i fresh).standing ≡ Sound)
    pub left : (i : ℕ) → k ≤ i → i < q.size → (row p.size w.at.frame i ≡ row p.size s.at.frame i) × Opens w.at.on i

  module _ (lp : Lawful p) (target : List ℕ) (s : Progress) (size : length s.at.frame ≡ q.size * p.size) (r : RowsInReach p q s.at.frame target)
      (tall : q.size ≤ length s.at.on) (opens : (i : ℕ) → Opens s.at.on i) where
    module _ (k : ℕ) (within : k < q.size) (w t : Progress) (long : length w.at.on ≡ length s.at.on) (u : Coming target k s w) where
      -- the row is decoded to the target's
      decoded_to : Turn Open p (row p.size) q.size k w t → Coming target (suc k) s t
      decoded_to h =
          let d = h.line in
          let same = (u.left k (omega arith) within).0 in
          let near = r.near k within in
          let target_row = row p.size target k in
          let was : length (row p.size s.at.frame k) ≡ p.size = row_long p.size q.size k s.at.frame size within in
          let meant : Decodes p (row p.size s.at.frame k) target_row (Some (differ (row p.size s.at.frame k) target_row)) =
          record { long = was; below = r.below k within; word = r.words k within; changes = refl; near = near } in
          let here = subst (λ (x : List ℕ). Decodes p x d.line' d.answer) same d.decodes in
          let both = decodes_one p lp (row p.size s.at.frame k) d.line' target_row d.answer (Some (differ (row p.size s.at.frame k) target_row)) here meant in
          let record_is : get_or t.at.on k fresh ≡ decided (get_or w.at.on k fresh) d.answer = ap (λ x. get_or x k fresh) d.mark ∙ get_or-set_same w.at.on k _ fresh (omega arith) in
          let sound : (get_or t.at.on k fresh).standing ≡ Sound = ap (λ x. x.standing) record_is ∙ ap (λ x. (decided (get_or w.at.on k fresh) x).standing) both.0 in
          record {
            done = λ i l m. at i l m (cases_eq i k) (d.frame.here ∙ both.1) sound (λ ne. d.frame.others i m ne) (λ ne. ap (λ x. get_or x i fresh) d.mark ∙ get_or-set_other w.at.on k i _ fresh ne);
            left = λ i l m.
                let ne : i ≡ k → ⊥ = λ e. absurd (omega arith) in
                let v = u.left i (omega arith) m in
                (d.frame.others i m ne ∙ v.0, ap (λ x. x.standing) (ap (λ x. get_or x i fresh) d.mark ∙ get_or-set_other w.at.on k i _ fresh ne) ∙ v.1);
          }
        where
          at : (i : ℕ) → i < suc k → i < q.size → (i ≡ k) ⊎ (i ≡ k → ⊥) → row p.size t.at.frame k ≡ row p.size target k → (get_or t.at.on k fresh).standing ≡ Sound →
              ((i ≡ k → ⊥) → row p.size t.at.frame i ≡ row p.size w.at.frame i) → ((i ≡ k → ⊥) → get_or t.at.on i fresh ≡ get_or w.at.on i fresh) →
              (row p.size t.at.frame i ≡ row p.size target i) × ((get_or t.at.on i fresh).standing ≡ Sound)
          at i l m (inl e) here sound others marks = rw e (here, sound)
          at i l m (inr ne) here sound others marks = let v = u.done i (omega arith) m in (others ne ∙ v.0, ap (λ x. x.standing) (marks ne) ∙ v.1)

      come : (st : Standing) → (get_or w.at.on k fresh).standing ≡ st → Turn st p (row p.size) q.size k w t → Coming target (suc k) s t
      come Open e h = decoded_to h
      come Sound e h = let o = (u.left k (omega arith) within).1 in let z : ◌≡◌ {A = ℕ} 0 1 = cc in absurd (omega arith)
      come Stuck e h = let o = (u.left k (omega arith) within).1 in let z : ◌≡◌ {A = ℕ} 0 1 = cc in absurd (omega arith)

    coming : (k : ℕ) → k ≤ q.size → (t : Progress) → InOrder (turn p (row p.size) q.size) k s t → Coming target k s t
    unfolding InOrder
    coming zero le t h = subst (λ (x : Progress). Coming target zero s x) (sym h) (record { done = λ i l m. absurd (omega arith); left = λ i l m. (refl, opens i) })
    coming (suc k) le t (w, h) =
        come k (omega arith) w t (turns_lengths p (row p.size) q.size k s w h.0).on (coming k (omega arith) w h.0) (get_or w.at.on k fresh).standing refl h.1

  restores : Lawful p → (s t : State) (e : Effort) (target : List ℕ) → length s.frame ≡ q.size * p.size → RowsInReach p q s.frame target → AllOpen p q s → Pass p q Row s t e → Restored p q target t
  restores lp s t e target size r u d =
      let c = coming lp target (progress Row s no_effort) size r (omega (arith, u.shaped.rows)) u.rows q.size (omega arith) (progress Row t e) d.turns in
      let rows : (i : ℕ) → i < q.size → row p.size t.frame i ≡ row p.size target i = λ i l. (c.done i l l).0 in
      record { rows = rows; sound = λ i l. (c.done i l l).1; frame = rows_show p.size q.size t.frame target ((pass_keeps p q Row s t e d).frame ∙ size) r.size rows }

  by_itself : Lawful p → (s : State) → AllOpen p q s → (target : List ℕ) → RowsInReach p q s.frame target → (answer : Answer) (t : State) (o : Option Refusal) →
      refusal p q (pass Row) s.frame s.counts.calls ≡ None → refusal p q (pass Row) s.frame s.counts.calls ≡ o → Does' o p q (pass Row) s answer t → Restored p q target t
  by_itself lp s u target r answer t (Some why) no-refusal e h = let z : ◌≡◌ {A = ℕ} 0 1 = cc in absurd (omega arith)
  by_itself lp s u target r answer t None no-refusal e h =
      restores lp (called s) t h.0 target (accepted_fits p q (pass Row) s.frame s.counts.calls e) (record { size = r.size; words = r.words; below = r.below; near = r.near }) (called_open s u) h.1.0

  first_of : Lawful p → 1 ≤ q.size → (s t : State) (l : ℕ) (w : Work) (target : List ℕ) → 1 ≤ l → length s.frame ≡ q.size * p.size → RowsInReach p q s.frame target → AllOpen p q s → Runs p q l Row s t w →
      (u : State) × (BeginsWith p q l s u t × Restored p q target u)
  unfolding Runs
  first_of lp some s t zero w target le size r u h = absurd (omega arith)
  first_of lp some s t (suc l) w target le size r u (inl h) =
      absurd (omega (arith, h.0, line_counted p q Open s u.shaped (record { kind = Row; i = 0; within = some; stands = u.rows 0 })))
  first_of lp some s t (suc l) w target le size r u (inr h) =
      let g = h.1 in
      (g.next, (record { effort = g.effort; made = g.made; left = l; limit_is = refl; work = g.left; rest = g.rest }, restores lp s g.next g.effort target size r u g.made))

  in_a_run : Lawful p → Lawful q → (s : State) → AllOpen p q s → (target : List ℕ) → RowsInReach p q s.frame target → (limit : ℕ) (answer : Answer) (t : State) (o : Option Refusal) →
      refusal p q (run limit) s.frame s.counts.calls ≡ None → refusal p q (run limit) s.frame s.counts.calls ≡ o → Does' o p q (run limit) s answer t →
      (u : State) × (BeginsWith p q limit (called s) u t × Restored p q target u)
  in_a_run lp lq s u target r limit answer t (Some why) no-refusal e h = let z : ◌≡◌ {A = ℕ} 0 1 = cc in absurd (omega arith)
  in_a_run lp lq s u target r limit answer t None no-refusal e h =
      first_of lp lq.some (called s) t limit h.0 target (accepted_limit p q limit s.frame s.counts.calls e).0 (accepted_fits p q (run limit) s.frame s.counts.calls e)
      (record { size = r.size; words = r.words; below = r.below; near = r.near }) (called_open s u) h.1.0

pub first_row_pass : FirstRowPassRestores
first_row_pass p q lp lq s b target r =
    let u = before_open p q s b in
    record {
      by_itself = λ answer t e h. by_itself p q lp s u target r answer t (refusal p q (pass Row) s.frame s.counts.calls) e refl h;
      in_a_run = λ limit answer t e h. in_a_run p q lp lq s u target r limit answer t (refusal p q (run limit) s.frame s.counts.calls) e refl h;
    }
