-- The questions that are put before a call, in their order. The first that is answered no refuses it.
use Rattle.std.specs.Prelude.{◌≡◌, ℕ, ◌*◌, Bool, cond, ◌&&◌, List, [], ◌∷◌, length, Some, None, Ok, Err, Option, Result, ◌==◌, nat_le, nat_lt, codes}
use Rattle.codes.specs.Meaning.{Meaning}
use Rattle.job_rules.specs.declared.answers.Refusal.{Refusal}
use Rattle.job_rules.specs.declared.answers.Refusal.TheVariants.{FrameLength, LineNumber, LineLength, PassLimit, CallLimit}
use Rattle.job_rules.specs.declared.records.Kind.{Kind}
use Rattle.job_rules.specs.declared.records.Kind.TheVariants.{Row, Column}

-- the numbers of the refusals
abbrev pub number : Refusal → ℕ
number FrameLength = 1
number LineNumber = 2
number LineLength = 3
number PassLimit = 4
number CallLimit = 5

-- what they print
abbrev pub sentence : Refusal → List ℕ
sentence FrameLength = codes "the frame is not as long as the codes ask"
sentence LineNumber = codes "there is no line of this number"
sentence LineLength = codes "the line is not as long as its code"
sentence PassLimit = codes "the limit of passes is not from 1 to 64"
sentence CallLimit = codes "the job has accepted all the calls that it may"

-- a call with its arguments: a pass over the lines of a kind, a run with its limit, or a row with its new bytes
pub data Request : Type 0 where
  pass : Kind → Request
  run : ℕ → Request
  redeliver : ℕ → List ℕ → Request

-- the highest limit of a run
abbrev pub highest_limit : ℕ
highest_limit = 64

-- how many passes, runs and redeliveries a job accepts
abbrev pub most_calls : ℕ
most_calls = 1024

-- how many lines there are of a kind: p is the row code and q the column code, here and everywhere
abbrev pub lines : (p q : Meaning) → Kind → ℕ
lines p q Row = q.size
lines p q Column = p.size

-- a question that is answered yes or no, with the refusal at no
pub record Question : Type 0 where
  pub holds : Bool
  pub otherwise : Refusal

-- is the frame R × C bytes long?
abbrev pub frame_fits : (p q : Meaning) → List ℕ → Question
frame_fits p q frame = record { holds = (length frame == q.size * p.size); otherwise = FrameLength }

-- is the line number below the count of its kind?
abbrev pub line_exists : (p q : Meaning) → Kind → ℕ → Question
line_exists p q kind i = record { holds = nat_lt i (lines p q kind); otherwise = LineNumber }

-- is the line as long as its code?
abbrev pub line_fits : Meaning → List ℕ → Question
line_fits m line = record { holds = (length line == m.size); otherwise = LineLength }

-- is the limit from 1 to the highest?
abbrev pub limit_allowed : ℕ → Question
limit_allowed limit = record { holds = nat_le 1 limit && nat_le limit highest_limit; otherwise = PassLimit }

-- has the job accepted fewer calls than it may?
abbrev pub call_left : ℕ → Question
call_left calls = record { holds = nat_lt calls most_calls; otherwise = CallLimit }

-- the questions before a pass, a run or a redelivery
abbrev pub questions : (p q : Meaning) → Request → (frame : List ℕ) (calls : ℕ) → List Question
questions p q (pass kind) frame calls = frame_fits p q frame ∷ call_left calls ∷ []
questions p q (run limit) frame calls = frame_fits p q frame ∷ limit_allowed limit ∷ call_left calls ∷ []
questions p q (redeliver i bytes) frame calls = frame_fits p q frame ∷ line_exists p q Row i ∷ line_fits p bytes ∷ call_left calls ∷ []

-- the refusal of the first question that is answered no
abbrev pub first_no : List Question → Option Refusal
first_no [] = None
first_no (x ∷ rest) = cond x.holds (first_no rest) (Some x.otherwise)

-- why the call is refused, if it is
abbrev pub refusal : (p q : Meaning) → Request → (frame : List ℕ) (calls : ℕ) → Option Refusal
refusal p q request frame calls = first_no (questions p q request frame calls)

-- a call without effect: refused by the first no, or else answered as `Good` says
abbrev pub Asked : {X : Type 0} → List Question → (Good : X → Type 0) → Result X Refusal → Type 0
Asked qs Good (Ok x) = (first_no qs ≡ None) × Good x
Asked qs Good (Err why) = first_no qs ≡ Some why
