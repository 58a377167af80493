-- Passes, runs and redeliveries of a job, as the thorough reader makes them.
use Rattle.std.proofs.Common.{◌≡◌, ℕ, zero, suc, ◌+◌, ◌<◌, ◌≤◌, false, cond, eqb, List, length, get_or, sym, refl, ap, ◌∙◌, subst, inl, inr, arith}
use Rattle.codes.specs.Meaning.{Meaning, differ}
use Rattle.job_rules.specs.declared.records.Standing.{Standing}
use Rattle.job_rules.specs.declared.records.Standing.TheVariants.{Open, Sound, Stuck}
use Rattle.job_rules.specs.declared.records.Kind.{Kind}
use Rattle.job_rules.specs.declared.records.Kind.TheVariants.{Row, Column}
use Rattle.job_rules.specs.declared.answers.Effort.{Effort}
use Rattle.job_rules.specs.Records.{fresh, opened, is_same_standing, how_many, crossing}
use Rattle.job_rules.specs.Questions.{lines}
use Rattle.job_rules.specs.Lines.{row, line, code, InOrder}
use Rattle.job_rules.specs.Passes.{State, Progress, Turn, turn, seen, records, progress, no_effort, Pass}
use Rattle.job_rules.specs.Calls.{standing, Work, no_work, Runs, Redelivery}
use Rattle.job_rules.specs.Reader.{Log, rewritten, Reader, Headway, Reading, headway, Through, AllPasses, Receives}
use Rattle.job_rules.proofs.Standings.{none_of}
use Rattle.job_rules.proofs.Logs.{rewritten_own, rewritten_other, rewritten_across}
use Rattle.codes.proofs.Views.{row_long}
use Rattle.job_rules.proofs.Either.{bytes, crosses}
use Rattle.job_rules.proofs.Settled.{Settled, delivery_settles}
use Rattle.job_rules.proofs.Agree.{Logged, logs, opened_done, head_of, turns_read}

-- every line that is not open is what its last decoding left, and the log knows it
abbrev pub SettledAt : (p q : Meaning) → Kind → State → Type 0
SettledAt p q kind s = Settled (code p q kind) (code p q (crossing kind)) (line p q kind) (line p q (crossing kind)) (lines p q kind) (bytes p q) (seen kind s)

abbrev LoggedAt : (p q : Meaning) → Kind → State → Log → Type 0
LoggedAt p q kind s log = Logged kind (lines p q kind) (code p q kind).size (seen kind s) log

pub record Fine (p q : Meaning) (s : State) (log : Log) : Type 0 where
  pub settled : SettledAt p q Row s
  pub logged : LoggedAt p q Row s log

settled_at : (p q : Meaning) (kind : Kind) (s : State) → SettledAt p q Row s → SettledAt p q kind s
settled_at p q Row s u = u
settled_at p q Column s u = record { on = u.across; across = u.on; tall = u.wide; wide = u.tall; size = u.size }

settled_row : (p q : Meaning) (kind : Kind) (s : State) → SettledAt p q kind s → SettledAt p q Row s
settled_row p q Row s u = u
settled_row p q Column s u = record { on = u.across; across = u.on; tall = u.wide; wide = u.tall; size = u.size }

logged_at : (p q : Meaning) (kind : Kind) (s : State) (log : Log) → LoggedAt p q Row s log → LoggedAt p q kind s log
logged_at p q Row s log u = u
logged_at p q Column s log u = record { on = u.across; across = u.on }

logged_row : (p q : Meaning) (kind : Kind) (s : State) (log : Log) → LoggedAt p q kind s log → LoggedAt p q Row s log
logged_row p q Row s log u = u
logged_row p q Column s log u = record { on = u.across; across = u.on }

-- what the reader has where the job has s, if it met n lines unchanged
abbrev pub reader_of : State → Log → ℕ → Reader
reader_of s log n = record { frame = s.frame; rows = s.rows; columns = s.columns; log = log; calls = s.counts.calls; decodings = s.counts.decodings + n; met = n }

module _ (log : Log) (n : ℕ) where
  head : (kind : Kind) (s : State) (e : Effort) (d d' : ℕ) → d + e.decodings + n ≡ d' →
      head_of (progress kind s e) log d n ≡ record { at = seen kind s; log = log; decodings = d'; changes = e.changes; met = n }
  head kind s e d d' same = rw same

  begins : (kind : Kind) (s : State) → head_of (progress kind s no_effort) log s.counts.decodings n ≡ headway kind (reader_of s log n) 0
  begins Row s = head Row s no_effort s.counts.decodings _ (omega arith)
  begins Column s = head Column s no_effort s.counts.decodings _ (omega arith)

  ends : (kind : Kind) (d : ℕ) (t : State) (e : Effort) → t.counts.decodings ≡ d + e.decodings → head_of (progress kind t e) log d n ≡ headway kind (reader_of t log n) e.changes
  ends Row d t e h = head Row t e d _ (omega (arith, h))
  ends Column d t e h = head Column t e d _ (omega (arith, h))

-- a pass of the job that the reader made too
pub record PassRead (p q : Meaning) (kind : Kind) (s t : State) (changes : ℕ) (log : Log) (n : ℕ) : Type 0 where
  pub log' : Log
  pub n' : ℕ
  pub through : Through p q kind (reader_of s log n) (reader_of t log' n') changes
  pub fine : Fine p q t log'

abbrev Turns : (p q : Meaning) (kind : Kind) (s t : State) → Effort → Type 0
Turns p q kind s t e = InOrder (turn (code p q kind) (line p q kind) (lines p q kind)) (lines p q kind) (progress kind s no_effort) (progress kind t e)

turns_reads : (p q : Meaning) (kind : Kind) (s t : State) (e : Effort) (log : Log) (n : ℕ) → Fine p q s log → Turns p q kind s t e →
    t.counts.calls ≡ s.counts.calls → t.counts.decodings ≡ s.counts.decodings + e.decodings → PassRead p q kind s t e.changes log n
turns_reads p q kind s t e log n u h calls decodings =
    let d = s.counts.decodings in
    let r = turns_read (code p q kind) (code p q (crossing kind)) kind (line p q kind) (line p q (crossing kind)) (lines p q kind) (bytes p q) (crosses p q kind)
    (lines p q kind) (omega arith) (progress kind s no_effort) (progress kind t e) log d n (settled_at p q kind s u.settled) (logged_at p q kind s log u.logged) h in
    let Path : Headway → Headway → Type 0 = λ a b. InOrder (Reading (code p q kind) kind (line p q kind) (lines p q kind)) (lines p q kind) a b in
    record {
      log' = r.log';
      n' = r.n';
      through = record {
        turns = subst (λ (x : Headway). Path x (headway kind (reader_of t r.log' r.n') e.changes)) (begins log n kind s)
            (subst (λ (x : Headway). Path (head_of (progress kind s no_effort) log d n) x) (ends r.log' r.n' kind d t e decodings) r.reads);
        calls = calls;
      };
      fine = record { settled = settled_row p q kind t r.settled; logged = logged_row p q kind t r.log' r.logged };
    }

pub pass_reads : (p q : Meaning) (kind : Kind) (s t : State) (e : Effort) (log : Log) (n : ℕ) → Fine p q s log → Pass p q kind s t e → PassRead p q kind s t e.changes log n
pass_reads p q kind s t e log n u h =
    turns_reads p q kind s t e log n u h.turns (ap (λ x. x.calls) h.counts) (ap (λ x. x.decodings) h.counts)

-- where no line is open, a pass of the job would skip every line
skips : (m : Meaning) (view : List ℕ → ℕ → List ℕ) (lines i : ℕ) (w : Progress) (st : Standing) → is_same_standing Open st ≡ false → Turn st m view lines i w w
skips m view lines i w Open e = let z : ◌≡◌ {A = ℕ} 0 1 = cc in absurd (omega arith)
skips m view lines i w Sound e = refl
skips m view lines i w Stuck e = refl

idle_turns : (m : Meaning) (view : List ℕ → ℕ → List ℕ) (lines k : ℕ) (w : Progress) → k ≤ lines → lines ≤ length w.at.on → how_many Open w.at.on ≡ 0 → InOrder (turn m view lines) k w w
unfolding InOrder
idle_turns m view lines zero w le tall e = refl
idle_turns m view lines (suc k) w le tall e = (
  w,
  (
    idle_turns m view lines k w (omega arith) tall e,
    skips m view lines k w (get_or w.at.on k fresh).standing (none_of Open w.at.on e k (omega arith)),
  ),
)

none_open : (kind : Kind) (s : State) → standing Open s ≡ 0 → how_many Open (records kind s) ≡ 0
none_open Row s e = omega (arith, e)
none_open Column s e = omega (arith, e)

idle : (p q : Meaning) (kind : Kind) (s : State) (log : Log) (n : ℕ) → Fine p q s log → standing Open s ≡ 0 → PassRead p q kind s s 0 log n
idle p q kind s log n u e =
    let w = settled_at p q kind s u.settled in
    turns_reads p q kind s s no_effort log n u
    (idle_turns (code p q kind) (line p q kind) (lines p q kind) (lines p q kind) (progress kind s no_effort) (omega arith) w.tall (none_open kind s e))
    refl (omega arith)

-- a run of the job, of which the reader makes all passes
pub record RunRead (p q : Meaning) (l : ℕ) (kind : Kind) (s t : State) (changes : ℕ) (log : Log) (n : ℕ) : Type 0 where
  pub log' : Log
  pub n' : ℕ
  pub all : AllPasses p q l kind (reader_of s log n) (reader_of t log' n') changes
  pub fine : Fine p q t log'

all_more : (p q : Meaning) (l : ℕ) (kind : Kind) (s u t : Reader) (a b c : ℕ) → Through p q kind s u a → AllPasses p q l (crossing kind) u t b → c ≡ a + b → AllPasses p q (suc l) kind s t c
unfolding AllPasses
all_more p q l kind s u t a b c h r e = record { next = u; first = a; made = h; left = b; rest = r; sum = e }

all_none : (p q : Meaning) (kind : Kind) (s : Reader) → AllPasses p q zero kind s s 0
unfolding AllPasses
all_none p q kind s = (refl, refl)

idle_run : (p q : Meaning) (l : ℕ) (kind : Kind) (s : State) (log : Log) (n : ℕ) → Fine p q s log → standing Open s ≡ 0 → RunRead p q l kind s s 0 log n
idle_run p q zero kind s log n u e = record { log' = log; n' = n; all = all_none p q kind (reader_of s log n); fine = u }
idle_run p q (suc l) kind s log n u e =
    let a = idle p q kind s log n u e in
    let b = idle_run p q l (crossing kind) s a.log' a.n' a.fine e in
    record {
      log' = b.log';
      n' = b.n';
      all = all_more p q l kind (reader_of s log n) (reader_of s a.log' a.n') (reader_of s b.log' b.n') 0 0 0 a.through b.all (omega arith);
      fine = b.fine;
    }

still : (p q : Meaning) (l : ℕ) (kind : Kind) (s t : State) (w : Work) (log : Log) (n : ℕ) → t ≡ s → w ≡ no_work → RunRead p q l kind s s 0 log n → RunRead p q l kind s t w.changes log n
still p q l kind s t w log n e f r =
    subst (λ (x : State). RunRead p q l kind s x w.changes log n) (sym e)
    (subst (λ (x : Work). RunRead p q l kind s s x.changes log n) (sym f) r)

pub run_reads : (p q : Meaning) (l : ℕ) (kind : Kind) (s t : State) (w : Work) (log : Log) (n : ℕ) → Fine p q s log → Runs p q l kind s t w → RunRead p q l kind s t w.changes log n
unfolding Runs
run_reads p q zero kind s t w log n u h =
    still p q zero kind s t w log n h.0 h.1 (record { log' = log; n' = n; all = all_none p q kind (reader_of s log n); fine = u })
run_reads p q (suc l) kind s t w log n u (inl h) = still p q (suc l) kind s t w log n h.1 h.2 (idle_run p q (suc l) kind s log n u h.0)
run_reads p q (suc l) kind s t w log n u (inr h) =
    let g = h.1 in
    let a = pass_reads p q kind s g.next g.effort log n u g.made in
    let b = run_reads p q l (crossing kind) g.next t g.left a.log' a.n' a.fine g.rest in
    record {
      log' = b.log';
      n' = b.n';
      all = all_more p q l kind (reader_of s log n) (reader_of g.next a.log' a.n') (reader_of t b.log' b.n') g.effort.changes g.left.changes w.changes a.through b.all (ap (λ x. x.changes) g.sum);
      fine = b.fine;
    }

-- a redelivery
pub redelivery_reads : (p q : Meaning) (i : ℕ) (new : List ℕ) (s t : State) (log : Log) (n : ℕ) → i < q.size → length new ≡ p.size → Fine p q s log → Redelivery p q i new s t →
    Receives p q i new (reader_of s log n) (reader_of t (rewritten Row i 0 (row p.size s.frame i) new log) n) × Fine p q t (rewritten Row i 0 (row p.size s.frame i) new log)
redelivery_reads p q i new s t log n l long u h =
    let d = h.delivers in
    let old = row p.size s.frame i in
    let was : length old ≡ p.size = row_long p.size q.size i s.frame u.settled.size l in
    let b = eqb (differ old new) 0 in
    let r = get_or s.rows i fresh in
    let g = u.logged in (
      record {
        delivers = d;
        log = refl;
        calls = ap (λ x. x.calls) h.counts;
        decodings = ap (λ x. x.decodings + n) h.counts;
        met = refl;
      },
      record {
        settled = delivery_settles p q q.size i new (seen Row s) (seen Row t) l long u.settled d;
        logged = logs Row q.size p.size i (seen Row s) (seen Row t) old new (cond b r (opened r)) log (rewritten Row i 0 old new log) g l u.settled.tall u.settled.wide was long d.mark d.cross
            (rewritten_own Row i 0 old new log (was ∙ sym long) ∙ ap (λ x. cond b x false) (g.on i l) ∙ sym (opened_done b r))
            (λ k ne. rewritten_other Row i k ne 0 old new log)
            (λ k e m. rewritten_across Row i 0 k k old new log (omega arith) e m);
      },
    )
