-- What coding a frame means. p is the row code and q the column code; kr and kc are the columns and rows of the message.
use Rattle.std.specs.Prelude.{◌≡◌, ℕ, ◌*◌, ◌<◌, List, length, Ok, Err, Result, ◌≢◌, codes}
use Rattle.codes.specs.Meaning.{Meaning, Word}
use Rattle.codes.specs.Frames.{row, column}
use Rattle.coding.specs.Coding.{SameMessage}
use Rattle.frames.specs.declared.Refusal.{Refusal}
use Rattle.frames.specs.declared.Refusal.TheVariants.{FrameLength, MessageLength}

-- the numbers of the refusals
abbrev pub number : Refusal → ℕ
number FrameLength = 1
number MessageLength = 10

-- what they print
abbrev pub sentence : Refusal → List ℕ
sentence FrameLength = codes "the frame is not as long as its rows and columns ask"
sentence MessageLength = codes "the message does not fill the upper left of the frame"

-- the message stands in the upper left of a frame, and every row and every column is a codeword
pub record Carries (p q : Meaning) (kr kc : ℕ) (message frame : List ℕ) : Type 0 where
  pub long : length frame ≡ q.size * p.size
  pub upper_left : (i : ℕ) → i < kc → SameMessage kr (row p.size frame i) (row kr message i)
  pub rows : (i : ℕ) → i < q.size → Word p (row p.size frame i)
  pub columns : (j : ℕ) → j < p.size → Word q (column p.size q.size frame j)

-- a frame that carries the message, and no other does
pub record Coded (p q : Meaning) (kr kc : ℕ) (message frame : List ℕ) : Type 0 where
  pub carries : Carries p q kr kc message frame
  pub only : (other : List ℕ) → Carries p q kr kc message other → other ≡ frame

-- the answer of coding a frame: the length of the frame is asked first, then that of the message; a refusal changes nothing
abbrev pub Coding : (p q : Meaning) (kr kc : ℕ) → (message before after : List ℕ) → Result (Unit {0}) Refusal → Type 0
Coding p q kr kc message before after (Ok done) =
    (length before ≡ q.size * p.size) × (length message ≡ kc * kr) × Coded p q kr kc message after
Coding p q kr kc message before after (Err FrameLength) = (length before ≢ q.size * p.size) × (after ≡ before)
Coding p q kr kc message before after (Err MessageLength) =
    (length before ≡ q.size * p.size) × (length message ≢ kc * kr) × (after ≡ before)
