-- What a job promises over every list of calls.
use Rattle.std.specs.Prelude.{◌≡◌, ℕ, ◌+◌, ◌*◌, ◌%◌, ◌^◌, ◌<◌, List, [], ◌∷◌, map, take, Ok, Err, slice_index_or}
use Rattle.codes.specs.Meaning.{Meaning, SameCode, differ}
use Rattle.job_rules.specs.declared.records.Standing.TheVariants.{Sound}
use Rattle.job_rules.specs.declared.records.Kind.{Kind}
use Rattle.job_rules.specs.declared.answers.Outcome.TheVariants.{Passed, Ran, Redelivered}
use Rattle.job_rules.specs.Records.{fresh}
use Rattle.job_rules.specs.Questions.{Request, number, lines}
use Rattle.job_rules.specs.Passes.{State, start, records}
use Rattle.job_rules.specs.Calls.{Answer, Step, Performs, final, Summed}
use Rattle.job_rules.specs.Reader.{Reply, refused, changed, opens, ReaderStep, History}

-- what the thorough reader replies where the job gives this answer
abbrev pub plainly : Answer → Reply
plainly (Ok (Passed a)) = changed a.effort.changes
plainly (Ok (Ran a)) = changed a.effort.changes
plainly (Ok (Redelivered n)) = changed n
plainly (Err why) = refused (number why)

-- The two readers after one call, the job's codes having counted m and n when it was new.
pub record Agrees (m n : ℕ) (ours : Step) (theirs : ReaderStep) : Type 0 where
  -- the same refusal number, or the same places changed
  pub reply : theirs.reply ≡ plainly ours.answer
  pub frame : theirs.after.frame ≡ ours.after.frame
  pub rows : theirs.after.rows ≡ ours.after.rows
  pub columns : theirs.after.columns ≡ ours.after.columns
  -- thorough = ours + the times the thorough reader met a line unchanged
  pub decodings : theirs.after.decodings ≡ ours.after.counts.decodings + theirs.after.met
  -- ours is what the two codes' counts have together grown by, modulo 2^64
  pub counts : (ours.after.row_count + ours.after.column_count) % 2 ^ 64 ≡ (m + n + ours.after.counts.decodings) % 2 ^ 64

-- they agree after each call
unfoldable pub Beside : (m n : ℕ) → List Step → List ReaderStep → Type 0
Beside m n [] [] = Unit {0}
Beside m n [] (h ∷ theirs) = ⊥
Beside m n (g ∷ ours) [] = ⊥
Beside m n (g ∷ ours) (h ∷ theirs) = Agrees m n g h × Beside m n ours theirs

-- *whole*: every line is sound
abbrev pub IsWhole : (p q : Meaning) → State → Type 0
IsWhole p q s = (kind : Kind) (i : ℕ) → i < lines p q kind → (slice_index_or (records kind s) i fresh).standing ≡ Sound

-- each of two facts holds when the other does
pub record Exactly (A B : Type 0) : Type 0 where
  pub when : B → A
  pub only : A → B

-- a reading that was called whole: a new job over codes that are the same did any calls to any frame, and all its lines are sound then
pub record WholeReading (p q : Meaning) : Type 0 where
  pub p' : Meaning
  pub q' : Meaning
  pub same_rows : SameCode p p'
  pub same_columns : SameCode q q'
  pub first : List ℕ
  pub m : ℕ
  pub n : ℕ
  pub requests : List Request
  pub steps : List Step
  pub performs : Performs p' q' requests (start p' q' first m n) steps
  pub whole : IsWhole p' q' (final (start p' q' first m n) steps)

-- the frame that it was left with
abbrev pub left : {p q : Meaning} → WholeReading p q → List ℕ
left o = (final (start o.p' o.q' o.first o.m o.n) o.steps).frame

-- two frames are equal exactly when they differ at fewer than (2r + 1) × (2c + 1) places, r and c being the reaches
abbrev pub EqualWhenNear : (p q : Meaning) → (one two : List ℕ) → Type 0
EqualWhenNear p q one two = Exactly (one ≡ two) (differ one two < (2 * p.reach + 1) * (2 * q.reach + 1))

-- the job that had s does the calls, gives these answers and has end
pub record Gives (p q : Meaning) (requests : List Request) (s : State) (answers : List Answer) (end : State) : Type 0 where
  pub ours : List Step
  pub performs : Performs p q requests s ours
  pub answers_are : map (λ g. g.answer) ours ≡ answers
  pub end_is : end ≡ final s ours

-- A new job over codes that had counted m and n did these calls to this frame, gave these answers and has end.
pub record Promise (p q : Meaning) (first : List ℕ) (m n : ℕ) (requests : List Request) (answers : List Answer) (end : State) : Type 0 where
  -- the states between the calls, each step as the call's own rule says
  pub ours : List Step
  pub performs : Performs p q requests (start p q first m n) ours
  pub answers_are : map (λ g. g.answer) ours ≡ answers
  pub end_is : end ≡ final (start p q first m n) ours
  -- after each call the report is the sum over the answers
  pub reports : (k : ℕ) → Summed (take k answers) (final (start p q first m n) (take k ours))
  -- a thorough reader's history of that frame and list exists, and every one agrees with ours after each call
  pub theirs : List ReaderStep
  pub reads : History p q requests (opens p q first) theirs
  pub agree : (h : List ReaderStep) → History p q requests (opens p q first) h → Beside m n ours h
  -- two frames called whole are equal exactly when they differ at few places
  pub equal : IsWhole p q end → (o : WholeReading p q) → EqualWhenNear p q end.frame (left o)
