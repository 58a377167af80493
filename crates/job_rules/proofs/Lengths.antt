-- A frame keeps its length, and tables keep theirs.
use Rattle.std.proofs.Common.{◌≡◌, ℕ, zero, suc, List, length, get_or, ap, ◌∙◌, inl, inr}
use Rattle.std.proofs.lemmas.List.{length-set}
use Rattle.codes.specs.Meaning.{Meaning}
use Rattle.job_rules.specs.declared.records.Standing.{Standing}
use Rattle.job_rules.specs.declared.records.Standing.TheVariants.{Open, Sound, Stuck}
use Rattle.job_rules.specs.declared.records.Record.{Record}
use Rattle.job_rules.specs.declared.records.Kind.{Kind}
use Rattle.job_rules.specs.declared.records.Kind.TheVariants.{Row, Column}
use Rattle.job_rules.specs.declared.answers.Effort.{Effort}
use Rattle.job_rules.specs.Records.{fresh, opened, crossing}
use Rattle.job_rules.specs.Lines.{line, decided, InOrder}
use Rattle.job_rules.specs.Passes.{State, Progress, Turn, turn, progress, no_effort, Pass}
use Rattle.job_rules.specs.Calls.{Work, Runs, Redelivery}
use Rattle.job_rules.proofs.Places.{length_wd}

-- the lengths of a frame and of its two tables
pub record Same (f f' : List ℕ) (r r' c c' : List Record) : Type 0 where
  pub frame : length f' ≡ length f
  pub on : length r' ≡ length r
  pub across : length c' ≡ length c

abbrev pub SameLengths : (s t : Progress) → Type 0
SameLengths s t = Same s.at.frame t.at.frame s.at.on t.at.on s.at.across t.at.across

same_lengths : (s t : Progress) → t ≡ s → SameLengths s t
same_lengths s t e = record { frame = ap (λ x. length x.at.frame) e; on = ap (λ x. length x.at.on) e; across = ap (λ x. length x.at.across) e }

module _ (m : Meaning) (view : List ℕ → ℕ → List ℕ) (n : ℕ) where
  turn_lengths : (i : ℕ) (s t : Progress) (st : Standing) → Turn st m view n i s t → SameLengths s t
  turn_lengths i s t Open h =
      let l = h.line in
      record {
        frame = l.frame.long;
        on = ap length l.mark ∙ length-set s.at.on i (decided (get_or s.at.on i fresh) l.answer);
        across = ap length l.cross ∙ length_wd opened (view s.at.frame i) l.line' s.at.across;
      }
  turn_lengths i s t Sound h = same_lengths s t h
  turn_lengths i s t Stuck h = same_lengths s t h

  pub turns_lengths : (k : ℕ) (s t : Progress) → InOrder (turn m view n) k s t → SameLengths s t
  unfolding InOrder
  turns_lengths zero s t h = same_lengths s t h
  turns_lengths (suc k) s t (v, h) =
      let a = turns_lengths k s v h.0 in
      let b = turn_lengths k v t (get_or v.at.on k fresh).standing h.1 in
      record { frame = b.frame ∙ a.frame; on = b.on ∙ a.on; across = b.across ∙ a.across }

  pub turns_long : (k : ℕ) (s t : Progress) → InOrder (turn m view n) k s t → length t.at.frame ≡ length s.at.frame
  turns_long k s t h = (turns_lengths k s t h).frame

abbrev pub Keeps : (s t : State) → Type 0
Keeps s t = Same s.frame t.frame s.rows t.rows s.columns t.columns

pub keeps_same : (s t : State) → t ≡ s → Keeps s t
keeps_same s t e = record { frame = ap (λ x. length x.frame) e; on = ap (λ x. length x.rows) e; across = ap (λ x. length x.columns) e }

keeps_both : (s u t : State) → Keeps s u → Keeps u t → Keeps s t
keeps_both s u t a b = record { frame = b.frame ∙ a.frame; on = b.on ∙ a.on; across = b.across ∙ a.across }

pub pass_keeps : (p q : Meaning) (kind : Kind) (s t : State) (e : Effort) → Pass p q kind s t e → Keeps s t
pass_keeps p q Row s t e h = turns_lengths p (line p q Row) q.size q.size (progress Row s no_effort) (progress Row t e) h.turns
pass_keeps p q Column s t e h =
    let a = turns_lengths q (line p q Column) p.size p.size (progress Column s no_effort) (progress Column t e) h.turns in
    record { frame = a.frame; on = a.across; across = a.on }

pub pass_long : (p q : Meaning) (kind : Kind) (s t : State) (e : Effort) → Pass p q kind s t e → length t.frame ≡ length s.frame
pass_long p q kind s t e h = (pass_keeps p q kind s t e h).frame

pub runs_keep : (p q : Meaning) (l : ℕ) (kind : Kind) (s t : State) (w : Work) → Runs p q l kind s t w → Keeps s t
unfolding Runs
runs_keep p q zero kind s t w h = keeps_same s t h.0
runs_keep p q (suc l) kind s t w (inl h) = keeps_same s t h.1
runs_keep p q (suc l) kind s t w (inr h) =
    let g = h.1 in
    keeps_both s g.next t (pass_keeps p q kind s g.next g.effort g.made) (runs_keep p q l (crossing kind) g.next t g.left g.rest)

pub redelivery_keeps : (p q : Meaning) (i : ℕ) (new : List ℕ) (s t : State) → Redelivery p q i new s t → Keeps s t
redelivery_keeps p q i new s t h =
    let d = h.delivers in
    record { frame = d.frame.long; on = ap length d.mark ∙ length-set s.rows i _; across = ap length d.cross ∙ length_wd opened _ new s.columns }
