-- Laws above the definitions that the job and the thorough reader share.
use Rattle.std.specs.Prelude.{◌≡◌, ℕ, zero, suc, ◌+◌, ◌<◌, true, false, List, [], ◌∷◌, ◌++◌, length, Ok, Some, None, ◌≢◌, slice_index, slice_index_or}
use Rattle.codes.specs.Meaning.{Meaning, Lawful, differ}
use Rattle.job_rules.specs.declared.records.Standing.{Standing}
use Rattle.job_rules.specs.declared.records.Standing.TheVariants.{Open, Stuck}
use Rattle.job_rules.specs.declared.records.Kind.{Kind}
use Rattle.job_rules.specs.declared.answers.Ending.TheVariants.{Whole, Quiet, Limit}
use Rattle.job_rules.specs.declared.answers.Effort.{Effort}
use Rattle.job_rules.specs.declared.answers.PassAnswer.{PassAnswer}
use Rattle.job_rules.specs.declared.answers.RunAnswer.{RunAnswer}
use Rattle.job_rules.specs.declared.answers.Refusal.{Refusal}
use Rattle.job_rules.specs.declared.answers.Outcome.TheVariants.{Passed, Ran}
use Rattle.job_rules.specs.Records.{fresh, crossing}
use Rattle.job_rules.specs.Bounds.{Low}
use Rattle.job_rules.specs.Questions.{Request, pass, run, lines, Question, first_no}
use Rattle.job_rules.specs.Lines.{Seen, Decoding}
use Rattle.job_rules.specs.Passes.{State, start, records, Pass}
use Rattle.job_rules.specs.Calls.{Answer, Delivery, Work, Runs, Does, Step, Performs, final, report}
use Rattle.job_rules.specs.Reader.{Event, Log, given, decoded, lies_on, unchanged, Reader, AllPasses}
use Rattle.job_rules.specs.Promise.{IsWhole, Exactly, Promise}

-- there is one record for each line
pub record Shaped (p q : Meaning) (s : State) : Type 0 where
  pub rows : length s.rows ≡ q.size
  pub columns : length s.columns ≡ p.size

-- some line of either kind has this standing
pub record SomeLine (p q : Meaning) (st : Standing) (s : State) : Type 0 where
  pub kind : Kind
  pub i : ℕ
  pub within : i < lines p q kind
  pub stands : (slice_index_or (records kind s) i fresh).standing ≡ st

-- a run ends *whole* exactly when every line is sound after it, *quiet* exactly when none is open and some stuck,
-- and *limit* exactly when some line is open, and then it made all its passes
pub record Endings (p q : Meaning) (limit : ℕ) (a : RunAnswer) (t : State) : Type 0 where
  pub whole : Exactly (a.ending ≡ Whole) (IsWhole p q t)
  pub quiet : Exactly (a.ending ≡ Quiet) ((SomeLine p q Open t → ⊥) × SomeLine p q Stuck t)
  pub limited : Exactly (a.ending ≡ Limit) (SomeLine p q Open t)
  pub all : a.ending ≡ Limit → a.passes ≡ limit

-- so does every run that is accepted
abbrev pub RunEndings : Type 0
RunEndings = (p q : Meaning) (limit : ℕ) (s t : State) (a : RunAnswer) → Shaped p q s → Does p q (run limit) s (Ok (Ran a)) t → Endings p q limit a t

-- a decoding adds to the tally of its line the places at which the line differs before and after, and to no other tally anything
pub record TallyGrows (view : List ℕ → ℕ → List ℕ) (i : ℕ) (s t : Seen) : Type 0 where
  pub own : (slice_index_or t.on i fresh).tally ≡ (slice_index_or s.on i fresh).tally + differ (view s.frame i) (view t.frame i)
  pub others : (k : ℕ) → (k ≢ i) → (slice_index_or t.on k fresh).tally ≡ (slice_index_or s.on k fresh).tally
  pub across : (k : ℕ) → (slice_index_or t.across k fresh).tally ≡ (slice_index_or s.across k fresh).tally

-- a redelivery changes no tally
pub record TalliesStay (s t : Seen) : Type 0 where
  pub on : (k : ℕ) → (slice_index_or t.on k fresh).tally ≡ (slice_index_or s.on k fresh).tally
  pub across : (k : ℕ) → (slice_index_or t.across k fresh).tally ≡ (slice_index_or s.across k fresh).tally

-- tallies grow by decodings alone
pub record TalliesGrow : Type 0 where
  pub decodings : (m : Meaning) (view : List ℕ → ℕ → List ℕ) (n i : ℕ) (s t : Seen) → i < length s.on → Decoding m view n i s t → TallyGrows view i s t
  pub redeliveries : (c r i : ℕ) (bytes : List ℕ) (s t : Seen) → Delivery c r i bytes s t → TalliesStay s t

-- the places changed in a pass or a run are the growth of the sum of all tallies
pub record ChangesAreTallies : Type 0 where
  pub passes : (p q : Meaning) (kind : Kind) (s t : State) (e : Effort) → Shaped p q s → Pass p q kind s t e → (report t).changes ≡ (report s).changes + e.changes
  pub runs : (p q : Meaning) (l : ℕ) (kind : Kind) (s t : State) (w : Work) → Shaped p q s → Runs p q l kind s t w → (report t).changes ≡ (report s).changes + w.changes

-- a number of the list
abbrev pub Has : List ℕ → ℕ → Type 0
Has xs i = (k : ℕ) × ((k < length xs) × (slice_index xs k ≡ i))

-- there are n lines of a kind with this standing: their numbers, in rising order, make a list of that length
pub record Numbered (p q : Meaning) (kind : Kind) (st : Standing) (s : State) (n : ℕ) : Type 0 where
  pub numbers : List ℕ
  pub rising : (j k : ℕ) → j < k → k < length numbers → slice_index numbers j < slice_index numbers k
  pub each : (i : ℕ) → Has numbers i → (i < lines p q kind) × ((slice_index_or (records kind s) i fresh).standing ≡ st)
  pub all : (i : ℕ) → i < lines p q kind → (slice_index_or (records kind s) i fresh).standing ≡ st → Has numbers i
  pub count : length numbers ≡ n

-- the stuck lines that a pass answers are the number of such records at its end
abbrev pub StuckCounts : Type 0
StuckCounts = (p q : Meaning) (kind : Kind) (s t : State) (a : PassAnswer) → Shaped p q s → Does p q (pass kind) s (Ok (Passed a)) t → Numbered p q kind Stuck t a.stuck

-- every question of a list is answered yes
abbrev pub AllYes : List Question → Type 0
AllYes [] = Unit {0}
AllYes (x ∷ rest) = (x.holds ≡ true) × AllYes rest

-- the first question that is answered no
pub record FirstNo (qs : List Question) (why : Refusal) : Type 0 where
  pub before : List Question
  pub it : Question
  pub after : List Question
  pub split : qs ≡ before ++ it ∷ after
  pub yeses : AllYes before
  pub refused : it.holds ≡ false
  pub is : it.otherwise ≡ why

-- a call is refused exactly by the first question that is answered no, and taken exactly when there is none
pub record FirstNoRefuses : Type 0 where
  pub refuses : (qs : List Question) (why : Refusal) → Exactly (first_no qs ≡ Some why) (FirstNo qs why)
  pub takes : (qs : List Question) → Exactly (first_no qs ≡ None) (AllYes qs)

-- what happened is no change of a byte on this line
abbrev pub Spares : Kind → ℕ → Event → Type 0
Spares kind i (given row column) = lies_on kind row column ≡ i → ⊥
Spares kind i (decoded kind' i') = Unit {0}

-- none of what happened is
abbrev pub Spared : Kind → ℕ → Log → Type 0
Spared kind i [] = Unit {0}
Spared kind i (e ∷ log) = Spares kind i e × Spared kind i log

-- the line was decoded before, and since that decoding ended no byte on it has been given a different value
pub record DecodedSince (kind : Kind) (i : ℕ) (log : Log) : Type 0 where
  pub since : Log
  pub before : Log
  pub split : log ≡ since ++ decoded kind i ∷ before
  pub spared : Spared kind i since

-- that is what unchanged means
abbrev pub UnchangedMeans : Type 0
UnchangedMeans = (kind : Kind) (i : ℕ) (log : Log) → Exactly (unchanged kind i log ≡ true) (DecodedSince kind i log)

-- the lines of l passes over the two kinds in turn, this kind first
abbrev pub lines_in : (p q : Meaning) → ℕ → Kind → ℕ
lines_in p q zero kind = 0
lines_in p q (suc l) kind = lines p q kind + lines_in p q l (crossing kind)

-- the thorough reader decodes every one of them
abbrev pub ReadsAll : Type 0
ReadsAll = (p q : Meaning) (l : ℕ) (kind : Kind) (s t : Reader) (n : ℕ) → AllPasses p q l kind s t n → t.decodings ≡ s.decodings + lines_in p q l kind

-- after any list of calls, 1,024 accepted ones among them at most, every number of the report is below 2^32
abbrev pub CountsStayLow : Type 0
CountsStayLow = (p q : Meaning) → Lawful p → Lawful q → (first : List ℕ) (m n : ℕ) (requests : List Request) (steps : List Step) →
    Performs p q requests (start p q first m n) steps → Low (report (final (start p q first m n) steps))

-- the promise leaves no choice: one list of answers and one end meet it
abbrev pub Pinned : Type 0
Pinned = (p q : Meaning) → Lawful p → Lawful q → (first : List ℕ) (m n : ℕ) (requests : List Request) (a a' : List Answer) (e e' : State) →
    Promise p q first m n requests a e → Promise p q first m n requests a' e' → (a ≡ a') × (e ≡ e')
