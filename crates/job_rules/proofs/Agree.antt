-- What a job does, the thorough reader does too, line by line.
use Rattle.std.proofs.Common.{◌≡◌, ℕ, zero, suc, ◌+◌, ◌<◌, ◌≤◌, Bool, true, false, cond, not, eqb, ◌⊎◌, List, ◌∷◌, length, get_or, set, sym, refl, ap, ◌∙◌, subst, inl, inr, add-zero, arith, Option, Some, None}
use Rattle.std.proofs.lemmas.List.{set-get_or, get_or-set_same, get_or-set_other}
use Rattle.std.proofs.lemmas.Bool.{cases_eq}
use Rattle.codes.specs.Meaning.{Meaning}
use Rattle.codes.specs.Answers.{Decodes}
use Rattle.job_rules.specs.declared.records.Standing.{Standing}
use Rattle.job_rules.specs.declared.records.Standing.TheVariants.{Open, Sound, Stuck as Fast}
use Rattle.job_rules.specs.declared.records.Record.{Record}
use Rattle.job_rules.specs.declared.records.Kind.{Kind}
use Rattle.job_rules.specs.Records.{fresh, opened, is_same_standing, crossing}
use Rattle.job_rules.specs.Lines.{decided, where_differ, Seen, Decoding, InOrder}
use Rattle.job_rules.specs.Passes.{Progress, Turn, turn}
use Rattle.job_rules.specs.Reader.{Log, decoded, unchanged, rewritten, Headway, Reading}
use Rattle.job_rules.proofs.Places.{wd_self, wd_at}
use Rattle.job_rules.proofs.Differ.{differ_same}
use Rattle.job_rules.proofs.Logs.{after, decoded_own, decoded_other, decoded_across}
use Rattle.job_rules.proofs.Settled.{Settles, Crosses, Settled, decodes_long, turn_settles}

-- a line that is not open
abbrev pub done : Record → Bool
done r = not (is_same_standing Open r.standing)

-- the lines that are unchanged are those that are not open
pub record Logged (kind : Kind) (n m : ℕ) (s : Seen) (log : Log) : Type 0 where
  pub on : (k : ℕ) → k < n → unchanged kind k log ≡ done (get_or s.on k fresh)
  pub across : (k : ℕ) → k < m → unchanged (crossing kind) k log ≡ done (get_or s.across k fresh)

decided_done : (r : Record) (a : Option ℕ) → done (decided r a) ≡ true
decided_done r (Some k) = refl
decided_done r None = refl

pub opened_done : (b : Bool) (r : Record) → done (cond b r (opened r)) ≡ cond b (done r) false
opened_done true r = refl
opened_done false r = refl

-- a line of this kind becomes another and its record r'; the log says the same of it, and nothing of the others of its kind
module _ (kind : Kind) (n m i : ℕ) (s t : Seen) (one two : List ℕ) (r' : Record) (log log' : Log)
    (u : Logged kind n m s log) (within : i < n) (tall : n ≤ length s.on) (wide : m ≤ length s.across)
    (long : length one ≡ m) (long' : length two ≡ m)
    (mark : t.on ≡ set s.on i r')
    (cross : t.across ≡ where_differ opened one two s.across)
    (own : unchanged kind i log' ≡ done r')
    (other : (k : ℕ) → (k ≡ i → ⊥) → unchanged kind k log' ≡ unchanged kind k log)
    (beyond : (k : ℕ) → length one ≡ length two → k < length one → unchanged (crossing kind) k log' ≡ cond (eqb (get_or one k 0) (get_or two k 0)) (unchanged (crossing kind) k log) false) where
  on_at : (k : ℕ) → k < n → (k ≡ i) ⊎ (k ≡ i → ⊥) → unchanged kind k log' ≡ done (get_or t.on k fresh)
  on_at k l (inl e) =
      let a : get_or t.on i fresh ≡ r' = ap (λ x. get_or x i fresh) mark ∙ get_or-set_same s.on i r' fresh (omega arith) in
      rw (e, a) own
  on_at k l (inr ne) =
      let a : get_or t.on k fresh ≡ get_or s.on k fresh = ap (λ x. get_or x k fresh) mark ∙ get_or-set_other s.on i k r' fresh ne in
      rw a (other k ne ∙ u.on k l)

  across_at : (k : ℕ) → k < m → unchanged (crossing kind) k log' ≡ done (get_or t.across k fresh)
  across_at k l =
      let b = eqb (get_or one k 0) (get_or two k 0) in
      let a : get_or t.across k fresh ≡ cond b (get_or s.across k fresh) (opened (get_or s.across k fresh)) =
      ap (λ x. get_or x k fresh) cross ∙ wd_at opened fresh one two s.across k (long ∙ sym long') (omega arith) (omega arith) in
      beyond k (long ∙ sym long') (omega arith) ∙ ap (λ x. cond b x false) (u.across k l) ∙ sym (ap done a ∙ opened_done b (get_or s.across k fresh))

  pub logs : Logged kind n m t log'
  logs = record { on = λ k l. on_at k l (cases_eq k i); across = across_at }

-- a decoding that changes nothing
module _ (m : Meaning) (view : List ℕ → ℕ → List ℕ) (n i : ℕ) (s : Seen) where
  idle_with : (a : Option ℕ) (r : Record) → get_or s.on i fresh ≡ r → decided r a ≡ r →
      Decodes m (view s.frame i) (view s.frame i) a → Decoding m view n i s s
  idle_with a r at same d = record {
    answer = a;
    line' = view s.frame i;
    decodes = d;
    frame = record { long = refl; here = refl; others = λ k l ne. refl };
    mark = sym (ap (set s.on i) (ap (λ x. decided x a) at ∙ same ∙ sym at) ∙ set-get_or s.on i fresh);
    cross = sym (wd_self opened (view s.frame i) s.across);
  }

  -- a line that is not open, decoded again
  pub again : (st : Standing) → (get_or s.on i fresh).standing ≡ st → is_same_standing Open st ≡ false → Settles m st (view s.frame i) → Decoding m view n i s s
  again Open e o h = let z : ◌≡◌ {A = ℕ} 0 1 = cc in absurd (omega arith)
  again Sound e o h =
      let r = get_or s.on i fresh in
      let same : decided r (Some 0) ≡ r = sound r.standing e in
      idle_with (Some 0) r refl same (record { long = h.long; below = h.below; word = h; changes = differ_same (view s.frame i); near = omega arith })
    where
      sound : (st : Standing) → st ≡ Sound → decided (get_or s.on i fresh) (Some 0) ≡ record { standing = st; tally = (get_or s.on i fresh).tally }
      sound st e = rw (add-zero (get_or s.on i fresh).tally, e)
  again Fast e o h =
      let r = get_or s.on i fresh in
      let same : decided r None ≡ r = stuck r.standing e in
      idle_with None r refl same (record { long = h.0; same = refl; far = h.1 })
    where
      stuck : (st : Standing) → st ≡ Fast → decided (get_or s.on i fresh) None ≡ record { standing = st; tally = (get_or s.on i fresh).tally }
      stuck st e = rw e

-- the reader's headway where the job has come so far: it began with d decodings and met n lines unchanged
abbrev pub head_of : Progress → Log → (d n : ℕ) → Headway
head_of w log d n = record { at = w.at; log = log; decodings = d + w.decodings + n; changes = w.changes; met = n }

-- what a turn of the job, read by the thorough reader, leaves
pub record Read (m : Meaning) (kind : Kind) (view : List ℕ → ℕ → List ℕ) (lines i : ℕ) (s t : Progress) (log : Log) (d n : ℕ) : Type 0 where
  pub log' : Log
  pub n' : ℕ
  pub reads : Reading m kind view lines i (head_of s log d n) (head_of t log' d n')
  pub logged : Logged kind lines m.size t.at log'

module _ (m m₂ : Meaning) (kind : Kind) (view view₂ : List ℕ → ℕ → List ℕ) (lines len : ℕ) (crosses : Crosses view view₂ lines m.size len) where
  abbrev Good : Seen → Type 0
  Good s = Settled m m₂ view view₂ lines len s

  module _ (i : ℕ) (within : i < lines) (d n : ℕ) where
    logged_by : (s t : Seen) (log : Log) → Good s → Logged kind lines m.size s log → Decoding m view lines i s t →
        Logged kind lines m.size t (decoded kind i ∷ rewritten kind i 0 (view s.frame i) (view t.frame i) log)
    logged_by s t log u g l =
        let longs = decodes_long m (view s.frame i) l.line' l.answer l.decodes in
        let two = l.frame.here in
        logs kind lines m.size i s t (view s.frame i) (view t.frame i) (decided (get_or s.on i fresh) l.answer) log
        (after kind i (view s.frame i) (view t.frame i) log) g within u.tall u.wide longs.0 (ap length two ∙ longs.1) l.mark
        (l.cross ∙ ap (λ x. where_differ opened (view s.frame i) x s.across) (sym two))
        (decoded_own kind i (view s.frame i) (view t.frame i) log ∙ sym (decided_done (get_or s.on i fresh) l.answer))
        (decoded_other kind i (view s.frame i) (view t.frame i) log)
        (decoded_across kind i (view s.frame i) (view t.frame i) log)

    -- a skipped line is read again, and met unchanged
    skipped : (s t : Progress) (log : Log) (st : Standing) → (get_or s.at.on i fresh).standing ≡ st → is_same_standing Open st ≡ false → Good s.at → Logged kind lines m.size s.at log →
        Settles m st (view s.at.frame i) → t ≡ s → Read m kind view lines i s t log d n
    skipped s t log st e o u g h same =
        let line = again m view lines i s.at st e o h in
        let k : unchanged kind i log ≡ true = g.on i within ∙ ap (λ x. not (is_same_standing Open x)) e ∙ ap not o in
        subst (λ (x : Progress). Read m kind view lines i s x log d n) (sym same)
        (record {
          log' = decoded kind i ∷ rewritten kind i 0 (view s.at.frame i) (view s.at.frame i) log;
          n' = n + 1;
          reads = record {
            line = line;
            log = refl;
            decodings = omega arith;
            changes = omega (arith, differ_same (view s.at.frame i));
            met = rw k;
          };
          logged = logged_by s.at s.at log u g line;
        })

    turn_reads : (s t : Progress) (log : Log) (st : Standing) → (get_or s.at.on i fresh).standing ≡ st → Good s.at → Logged kind lines m.size s.at log →
        Settles m st (view s.at.frame i) → Turn st m view lines i s t → Read m kind view lines i s t log d n
    turn_reads s t log Open e u g h turn =
        let k : unchanged kind i log ≡ false = g.on i within ∙ ap (λ x. not (is_same_standing Open x)) e in
        record {
          log' = decoded kind i ∷ rewritten kind i 0 (view s.at.frame i) (view t.at.frame i) log;
          n' = n;
          reads = record {
            line = turn.line;
            log = refl;
            decodings = omega (arith, turn.decodings);
            changes = turn.changes;
            met = rw k (sym (add-zero n));
          };
          logged = logged_by s.at t.at log u g turn.line;
        }
    turn_reads s t log Sound e u g h turn = skipped s t log Sound e refl u g h turn
    turn_reads s t log Fast e u g h turn = skipped s t log Fast e refl u g h turn

  -- the turns of a pass
  pub record ReadAll (k : ℕ) (s t : Progress) (log : Log) (d n : ℕ) : Type 0 where
    pub log' : Log
    pub n' : ℕ
    pub reads : InOrder (Reading m kind view lines) k (head_of s log d n) (head_of t log' d n')
    pub logged : Logged kind lines m.size t.at log'
    pub settled : Good t.at

  pub turns_read : (k : ℕ) → k ≤ lines → (s t : Progress) (log : Log) (d n : ℕ) → Good s.at → Logged kind lines m.size s.at log → InOrder (turn m view lines) k s t → ReadAll k s t log d n
  unfolding InOrder
  turns_read zero le s t log d n u g h = record {
    log' = log;
    n' = n;
    reads = ap (λ x. head_of x log d n) h;
    logged = subst (λ (x : Progress). Logged kind lines m.size x.at log) (sym h) g;
    settled = subst (λ (x : Progress). Good x.at) (sym h) u;
  }
  turns_read (suc k) le s t log d n u g (v, h) =
      let b = turns_read k (omega arith) s v log d n u g h.0 in
      let st = (get_or v.at.on k fresh).standing in
      let here = turn_reads k (omega arith) d b.n' v t b.log' st refl b.settled b.logged (b.settled.on k (omega arith)) h.1 in
      record {
        log' = here.log';
        n' = here.n';
        reads = (head_of v b.log' d b.n', (b.reads, here.reads));
        logged = here.logged;
        settled = turn_settles m m₂ view view₂ lines len crosses k (omega arith) v t st b.settled h.1;
      }
