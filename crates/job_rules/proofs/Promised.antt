-- The promise over every list of calls.
use Rattle.std.proofs.Common.{◌≡◌, ℕ, zero, suc, ◌+◌, ◌*◌, ◌%◌, ◌^◌, ◌<◌, ◌≤◌, not, ◌⊎◌, List, [], ◌∷◌, length, get_or, replicate, Some, None, Option, sym, refl, ap, ◌∙◌, subst, inl, inr, add-zero, arith}
use Rattle.std.proofs.lemmas.List.{length-replicate}
use Rattle.std.proofs.lemmas.Bool.{cases_eq}
use Rattle.codes.specs.Meaning.{Meaning, Lawful, Word, SameCode, differ}
use Rattle.job_rules.specs.declared.records.Standing.{Standing}
use Rattle.job_rules.specs.declared.records.Standing.TheVariants.{Open}
use Rattle.job_rules.specs.declared.records.Kind.TheVariants.{Row, Column}
use Rattle.job_rules.specs.declared.answers.Refusal.{Refusal}
use Rattle.job_rules.specs.Records.{fresh, is_same_standing}
use Rattle.job_rules.specs.Questions.{Request, pass, run, redeliver, refusal}
use Rattle.job_rules.specs.Lines.{row, column}
use Rattle.job_rules.specs.Passes.{State, start}
use Rattle.job_rules.specs.Calls.{Answer, called, Accepts, Does', Step, Performs, final}
use Rattle.job_rules.specs.Reader.{Log, opens, changed, Takes, Reads', counted, ReaderStep, History}
use Rattle.job_rules.specs.Promise.{Gives, plainly, Beside, IsWhole, WholeReading, left, EqualWhenNear, Promise}
use Rattle.job_rules.proofs.Differ.{differ_same}
use Rattle.job_rules.proofs.Either.{bytes}
use Rattle.job_rules.proofs.Accepted.{accepted_fits, accepted_row}
use Rattle.job_rules.proofs.Settled.{Settles}
use Rattle.job_rules.proofs.Follow.{Fine, reader_of, pass_reads, run_reads, redelivery_reads}
use Rattle.job_rules.proofs.Unique.{history_one}
use Rattle.job_rules.proofs.Counting.{CountedAt, does_count}
use Rattle.job_rules.proofs.Sums.{summed}
use Rattle.job_rules.proofs.Distance.{apart, one_le}

-- what lasts from call to call: under a frame of another length the job is as new
pub record Good (p q : Meaning) (s : State) (log : Log) : Type 0 where
  pub fit : length s.frame ≡ bytes p q → Fine p q s log
  pub unfit : (length s.frame ≡ bytes p q → ⊥) → s.rows ≡ replicate q.size fresh

good_when : (p q : Meaning) (s : State) (log : Log) → Fine p q s log → Good p q s log
good_when p q s log u = record { fit = λ e. u; unfit = λ ne. absurd (ne u.settled.size) }

-- an accepted call, read by the thorough reader
record Taken (p q : Meaning) (x : Request) (s : State) (r : Answer) (t : State) (log : Log) (n : ℕ) : Type 0 where
  pub log' : Log
  pub n' : ℕ
  pub changes : ℕ
  pub takes : Takes p q x (counted (reader_of s log n)) (reader_of t log' n') changes
  pub reply : plainly r ≡ changed changes
  pub fine : Fine p q t log'

called_fine : (p q : Meaning) (s : State) (log : Log) → Fine p q s log → Fine p q (called s) log
called_fine p q s log u =
    let a = u.settled in let b = u.logged in
    record { settled = record { on = a.on; across = a.across; tall = a.tall; wide = a.wide; size = a.size }; logged = record { on = b.on; across = b.across } }

module _ (p q : Meaning) where
  takes_of : (x : Request) (s : State) (r : Answer) (t : State) (log : Log) (n : ℕ) → refusal p q x s.frame s.counts.calls ≡ None → Fine p q s log → Accepts p q x s r t → Taken p q x s r t log n
  takes_of (pass kind) s r t log n e u h =
      let k = pass_reads p q kind (called s) t h.0 log n (called_fine p q s log u) h.1.0 in
      record { log' = k.log'; n' = k.n'; changes = h.0.changes; takes = k.through; reply = ap plainly h.1.1; fine = k.fine }
  takes_of (run l) s r t log n e u h =
      let k = run_reads p q l Row (called s) t h.0 log n (called_fine p q s log u) h.1.0 in
      record { log' = k.log'; n' = k.n'; changes = h.0.changes; takes = k.all; reply = ap plainly h.1.1; fine = k.fine }
  takes_of (redeliver i new) s r t log n e u h =
      let ok = accepted_row p q i new s.frame s.counts.calls e in
      let k = redelivery_reads p q i new (called s) t log n ok.0 ok.1 (called_fine p q s log u) h.0 in
      record { log' = _; n' = n; changes = differ (row p.size s.frame i) new; takes = (k.0, refl); reply = ap plainly h.1; fine = k.1 }

  -- a call, refused or not
  record Known (o : Option Refusal) (x : Request) (s : State) (r : Answer) (t : State) (log : Log) (n : ℕ) : Type 0 where
    pub log' : Log
    pub n' : ℕ
    pub reads : Reads' o p q x (reader_of s log n) (plainly r) (reader_of t log' n')
    pub good : Good p q t log'

  does_read : (x : Request) (s t : State) (r : Answer) (log : Log) (n : ℕ) (o : Option Refusal) → refusal p q x s.frame s.counts.calls ≡ o → Does' o p q x s r t → Good p q s log → Known o x s r t log n
  does_read x s t r log n (Some why) e h g = record {
    log' = log;
    n' = n;
    reads = (ap plainly h.0, ap (λ x. reader_of x log n) h.1);
    good = subst (λ (z : State). Good p q z log) (sym h.1) g;
  }
  does_read x s t r log n None e h g =
      let k = takes_of x s r t log n e (g.fit (accepted_fits p q x s.frame s.counts.calls e)) h in
      record { log' = k.log'; n' = k.n'; reads = (k.changes, (k.takes, k.reply)); good = good_when p q t k.log' k.fine }

  abbrev told_of : Step → Log → ℕ → ReaderStep
  told_of g log n = record { reply = plainly g.answer; after = reader_of g.after log n }

  pub performs_read : (m k : ℕ) (requests : List Request) (s : State) (ours : List Step) (log : Log) (n : ℕ) → Performs p q requests s ours → Good p q s log → CountedAt (m + k) s →
      (theirs : List ReaderStep) × (History p q requests (reader_of s log n) theirs × Beside m k ours theirs)
  unfolding Performs History Beside
  performs_read m k [] s [] log n h g c = ([], (tt, tt))
  performs_read m k [] s (x ∷ ours) log n h g c = absurd h
  performs_read m k (a ∷ requests) s [] log n h g c = absurd h
  performs_read m k (a ∷ requests) s (x ∷ ours) log n h g c =
      let o = refusal p q a s.frame s.counts.calls in
      let here = does_read a s x.after x.answer log n o refl h.0 g in
      let c' = does_count (m + k) p q a s x.after x.answer o h.0 c in
      let rest = performs_read m k requests x.after ours here.log' here.n' h.1 here.good c' in (
        told_of x here.log' here.n' ∷ rest.0,
        (
          (here.reads, rest.1.0),
          (record { reply = refl; frame = refl; rows = refl; columns = refl; decodings = refl; counts = c' }, rest.1.1),
        ),
      )

  pub performs_good : (requests : List Request) (s : State) (ours : List Step) (log : Log) → Performs p q requests s ours → Good p q s log → (log' : Log) × Good p q (final s ours) log'
  unfolding Performs
  performs_good [] s [] log h g = (log, g)
  performs_good [] s (x ∷ ours) log h g = absurd h
  performs_good (a ∷ requests) s [] log h g = absurd h
  performs_good (a ∷ requests) s (x ∷ ours) log h g =
      let here = does_read a s x.after x.answer log 0 (refusal p q a s.frame s.counts.calls) refl h.0 g in
      performs_good requests x.after ours here.log' h.1 here.good

  all_open : (m : Meaning) (line : List ℕ) (z k : ℕ) → Settles m (get_or (replicate z fresh) k fresh).standing line
  all_open m line zero k = tt
  all_open m line (suc z) zero = tt
  all_open m line (suc z) (suc k) = all_open m line z k

  pub open_at : (z k : ℕ) → get_or (replicate z fresh) k fresh ≡ fresh
  open_at zero k = refl
  open_at (suc z) zero = refl
  open_at (suc z) (suc k) = open_at z k

  pub start_good : (frame : List ℕ) (m n : ℕ) → Good p q (start p q frame m n) []
  start_good frame m n = record {
    fit = λ e. record {
      settled = record {
        on = λ k l. all_open p (row p.size frame k) q.size k;
        across = λ k l. all_open q (column p.size q.size frame k) p.size k;
        tall = omega (arith, length-replicate q.size fresh);
        wide = omega (arith, length-replicate p.size fresh);
        size = e;
      };
      logged = record {
        on = λ k l. sym (ap (λ x. not (is_same_standing Open x.standing)) (open_at q.size k));
        across = λ k l. sym (ap (λ x. not (is_same_standing Open x.standing)) (open_at p.size k));
      };
    };
    unfit = λ ne. refl;
  }

  -- a frame called whole has the right length, and its rows and columns are codewords
  pub record Words (f : List ℕ) : Type 0 where
    pub size : length f ≡ bytes p q
    pub rows : (i : ℕ) → i < q.size → Word p (row p.size f i)
    pub columns : (j : ℕ) → j < p.size → Word q (column p.size q.size f j)

  whole_fits : 1 ≤ q.size → (s : State) (log : Log) → Good p q s log → IsWhole p q s → (length s.frame ≡ bytes p q) ⊎ (length s.frame ≡ bytes p q → ⊥) → length s.frame ≡ bytes p q
  whole_fits some s log g w (inl e) = e
  whole_fits some s log g w (inr ne) =
      let a = w Row 0 some in
      let b : (get_or s.rows 0 fresh).standing ≡ Open = ap (λ x. (get_or x 0 fresh).standing) (g.unfit ne) ∙ ap (λ x. x.standing) (open_at q.size 0) in
      let z : ◌≡◌ {A = ℕ} 0 1 = cc in absurd (omega arith)

  pub whole_words : 1 ≤ q.size → (s : State) (log : Log) → Good p q s log → IsWhole p q s → Words s.frame
  whole_words some s log g w =
      let e = whole_fits some s log g w (cases_eq _ _) in
      let u = (g.fit e).settled in
      record {
        size = e;
        rows = λ i l. subst (λ (x : Standing). Settles p x (row p.size s.frame i)) (w Row i l) (u.on i l);
        columns = λ j l. subst (λ (x : Standing). Settles q x (column p.size q.size s.frame j)) (w Column j l) (u.across j l);
      }

-- codewords of codes that are the same
same_words : (p q p' q' : Meaning) → SameCode p p' → SameCode q q' → (f : List ℕ) → Words p' q' f → Words p q f
same_words p q p' q' rows columns f w =
    let sp = rows.size in
    let sq = columns.size in
    let rows₀ : (i : ℕ) → i < q'.size → Word p (row p'.size f i) = λ i l. rows.back _ (w.rows i l) in
    let columns₀ : (j : ℕ) → j < p'.size → Word q (column p'.size q'.size f j) = λ j l. columns.back _ (w.columns j l) in
    record { size = rw (sp, sq) at w.size; rows = rw (sp, sq) at rows₀; columns = rw (sp, sq) at columns₀ }

-- what a reading was left with consists of codewords of p and q
pub reading_words : (p q : Meaning) → Lawful q → (o : WholeReading p q) → Words p q (left o)
reading_words p q lq o =
    let s = start o.p' o.q' o.first o.m o.n in
    let g = performs_good o.p' o.q' o.requests s o.steps [] o.performs (start_good o.p' o.q' o.first o.m o.n) in
    let some : 1 ≤ o.q'.size = omega (arith, o.same_columns.size, lq.some) in
    same_words p q o.p' o.q' o.same_rows o.same_columns (left o) (whole_words o.p' o.q' some (final s o.steps) g.0 g.1 o.whole)

equal : (r c : ℕ) (f g : List ℕ) → f ≡ g → differ f g < (2 * r + 1) * (2 * c + 1)
equal r c f g e = let z : differ f g ≡ 0 = ap (λ x. differ x g) e ∙ differ_same g in rw z (omega (arith, one_le (2 * r) (2 * c)))

-- frames of codewords are equal exactly when they are near
pub words_equal : (p q : Meaning) → Lawful p → Lawful q → (f g : List ℕ) → Words p q f → Words p q g → EqualWhenNear p q f g
words_equal p q lp lq f g a b = record {
  when = apart p.size q.size p.reach q.reach f g a.size b.size
      (λ i l h. lp.apart _ _ (a.rows i l) (b.rows i l) h)
      (λ j l h. lq.apart _ _ (a.columns j l) (b.columns j l) h);
  only = equal p.reach q.reach f g;
}

pub promised : (p q : Meaning) → Lawful p → Lawful q → (first : List ℕ) (m n : ℕ) (requests : List Request) (answers : List Answer) (end : State) → Gives p q requests (start p q first m n) answers end → Promise p q first m n requests answers end
promised p q lp lq first m n requests answers end h =
    let s = start p q first m n in
    let g = start_good p q first m n in
    let c : CountedAt (m + n) s = ap (λ x. x % 2 ^ 64) (sym (add-zero (m + n))) in
    let r = performs_read p q m n requests s h.ours [] 0 h.performs g c in
    let g' = performs_good p q requests s h.ours [] h.performs g in
    let good = subst (λ (z : State). Good p q z g'.0) (sym h.end_is) g'.1 in
    record {
      ours = h.ours;
      performs = h.performs;
      answers_are = h.answers_are;
      end_is = h.end_is;
      reports = summed p q first m n requests h.ours answers h.performs h.answers_are;
      theirs = r.0;
      reads = r.1.0;
      agree = λ x hx. subst (λ (y : List ReaderStep). Beside m n h.ours y) (history_one p q lp lq requests (opens p q first) r.0 x r.1.0 hx) r.1.1;
      equal = λ w o. words_equal p q lp lq end.frame (left o) (whole_words p q lq.some end g'.0 good w) (reading_words p q lq o);
    }
