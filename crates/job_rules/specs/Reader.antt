-- The thorough reader: it decodes every line of a pass, whatever its standing, and makes every pass of a run.
use Rattle.std.specs.Prelude.{◌≡◌, ℕ, zero, suc, ◌+◌, Bool, true, false, cond, ◌&&◌, List, [], ◌∷◌, replicate, Some, None, Option, ◌==◌}
use Rattle.codes.specs.Meaning.{Meaning, differ}
use Rattle.job_rules.specs.declared.records.Record.{Record}
use Rattle.job_rules.specs.declared.records.Kind.{Kind}
use Rattle.job_rules.specs.declared.records.Kind.TheVariants.{Row, Column}
use Rattle.job_rules.specs.declared.answers.Refusal.{Refusal}
use Rattle.job_rules.specs.Records.{fresh, crossing}
use Rattle.job_rules.specs.Questions.{Request, pass, run, redeliver, refusal, number, lines}
use Rattle.job_rules.specs.Lines.{row, line, code, Seen, Decoding, InOrder}
use Rattle.job_rules.specs.Calls.{Delivery}

-- what happens to bytes and lines: the byte at a place is given a different value, or a decoding of a line ends
pub data Event : Type 0 where
  given : (row column : ℕ) → Event
  decoded : Kind → ℕ → Event

-- what happened, the latest first
abbrev pub Log : Type 0
Log = List Event

-- are two kinds the same?
abbrev pub same_kind : Kind → Kind → Bool
same_kind Row Row = true
same_kind Row Column = false
same_kind Column Row = false
same_kind Column Column = true

-- the number of the line of a kind that a place lies on
abbrev pub lies_on : Kind → (row column : ℕ) → ℕ
lies_on Row i j = i
lies_on Column i j = j

-- a line is *unchanged* when it was decoded before, and none of its bytes has been given a different value since that decoding ended:
-- going back in the log, its last decoding comes before any change of a byte on it
abbrev pub unchanged : Kind → ℕ → Log → Bool
unchanged kind i [] = false
unchanged kind i (decoded kind' i' ∷ before) = cond (same_kind kind kind' && i == i') true (unchanged kind i before)
unchanged kind i (given r c ∷ before) = cond (i == lies_on kind r c) false (unchanged kind i before)

-- place j of line i of a kind is given a different value
abbrev pub given_at : Kind → (i j : ℕ) → Event
given_at Row i j = given i j
given_at Column i j = given j i

-- line i of a kind becomes another, from place j on: each place that changes is given a different value
unfoldable pub rewritten : Kind → (i j : ℕ) → (one two : List ℕ) → Log → Log
rewritten kind i j [] two log = log
rewritten kind i j (a ∷ one) [] log = log
rewritten kind i j (a ∷ one) (b ∷ two) log = rewritten kind i (suc j) one two (cond (a == b) log (given_at kind i j ∷ log))

-- what it has: its own frame and records, what happened, its accepted calls, its decodings, and how often it met a line unchanged
pub record Reader : Type 0 where
  pub frame : List ℕ
  pub rows : List Record
  pub columns : List Record
  pub log : Log
  pub calls : ℕ
  pub decodings : ℕ
  pub met : ℕ

-- at first all lines are open, and nothing is counted
abbrev pub opens : (p q : Meaning) → List ℕ → Reader
opens p q frame = record {
  frame = frame;
  rows = replicate q.size fresh;
  columns = replicate p.size fresh;
  log = [];
  calls = 0;
  decodings = 0;
  met = 0;
}

-- how far a pass has come
pub record Headway : Type 0 where
  pub at : Seen
  pub log : Log
  pub decodings : ℕ
  pub changes : ℕ
  pub met : ℕ

-- the pass comes to line i, and decodes it: its changes come before the end of its decoding
pub record Reading (m : Meaning) (kind : Kind) (view : List ℕ → ℕ → List ℕ) (n i : ℕ) (s t : Headway) : Type 0 where
  pub line : Decoding m view n i s.at t.at
  pub log : t.log ≡ decoded kind i ∷ rewritten kind i 0 (view s.at.frame i) (view t.at.frame i) s.log
  pub decodings : t.decodings ≡ s.decodings + 1
  pub changes : t.changes ≡ s.changes + differ (view s.at.frame i) (view t.at.frame i)
  pub met : t.met ≡ s.met + cond (unchanged kind i s.log) 1 0

-- the records of the lines of a kind
abbrev pub table : Kind → Reader → List Record
table Row s = s.rows
table Column s = s.columns

-- what a pass over the lines of a kind sees
abbrev pub sees : Kind → Reader → Seen
sees kind s = record { frame = s.frame; on = table kind s; across = table (crossing kind) s }

-- a pass over the lines of a kind that has come so far, with these places changed
abbrev pub headway : Kind → Reader → (changes : ℕ) → Headway
headway kind s n = record { at = sees kind s; log = s.log; decodings = s.decodings; changes = n; met = s.met }

-- a pass over all lines of a kind, in rising order, changes so many places
pub record Through (p q : Meaning) (kind : Kind) (s t : Reader) (changes : ℕ) : Type 0 where
  pub turns : InOrder (Reading (code p q kind) kind (line p q kind) (lines p q kind)) (lines p q kind) (headway kind s 0) (headway kind t changes)
  pub calls : t.calls ≡ s.calls

-- a pass, and then the rest
pub record Follows (p q : Meaning) (kind : Kind) (s : Reader) (changes : ℕ) (Rest : Reader → ℕ → Type 0) : Type 0 where
  pub next : Reader
  pub first : ℕ
  pub made : Through p q kind s next first
  pub left : ℕ
  pub rest : Rest next left
  pub sum : changes ≡ first + left

-- l passes over the two kinds in turn, this kind first
unfoldable pub AllPasses : (p q : Meaning) → ℕ → Kind → (s t : Reader) → (changes : ℕ) → Type 0
AllPasses p q zero kind s t changes = (t ≡ s) × (changes ≡ 0)
AllPasses p q (suc l) kind s t changes = Follows p q kind s changes (λ u rest. AllPasses p q l (crossing kind) u t rest)

-- row i is given new bytes, by the job's rule
pub record Receives (p q : Meaning) (i : ℕ) (bytes : List ℕ) (s t : Reader) : Type 0 where
  pub delivers : Delivery p.size q.size i bytes (sees Row s) (sees Row t)
  pub log : t.log ≡ rewritten Row i 0 (row p.size s.frame i) bytes s.log
  pub calls : t.calls ≡ s.calls
  pub decodings : t.decodings ≡ s.decodings
  pub met : t.met ≡ s.met

-- it answers a refusal's number, or the places changed
pub data Reply : Type 0 where
  refused : ℕ → Reply
  changed : ℕ → Reply

-- one accepted call more
abbrev pub counted : Reader → Reader
counted s = record { frame = s.frame; rows = s.rows; columns = s.columns; log = s.log; calls = s.calls + 1; decodings = s.decodings; met = s.met }

-- an accepted call changes so many places. A run begins with the rows
abbrev pub Takes : (p q : Meaning) → Request → (s t : Reader) → (changes : ℕ) → Type 0
Takes p q (pass kind) s t changes = Through p q kind s t changes
Takes p q (run limit) s t changes = AllPasses p q limit Row s t changes
Takes p q (redeliver i bytes) s t changes = Receives p q i bytes s t × (changes ≡ differ (row p.size s.frame i) bytes)

-- a refused call gets the number, and changes nothing
abbrev pub Reads' : Option Refusal → (p q : Meaning) → Request → (s : Reader) → Reply → (t : Reader) → Type 0
Reads' (Some why) p q request s reply t = (reply ≡ refused (number why)) × (t ≡ s)
Reads' None p q request s reply t = (n : ℕ) × (Takes p q request (counted s) t n × (reply ≡ changed n))

-- a call: the questions are put to its own frame and its own count of accepted calls
abbrev pub Reads : (p q : Meaning) → Request → (s : Reader) → Reply → (t : Reader) → Type 0
Reads p q request s reply t = Reads' (refusal p q request s.frame s.calls) p q request s reply t

-- the reply to a call, and what the reader has after it
pub record ReaderStep : Type 0 where
  pub reply : Reply
  pub after : Reader

-- its history of a list of calls
unfoldable pub History : (p q : Meaning) → List Request → Reader → List ReaderStep → Type 0
History p q [] s [] = Unit {0}
History p q [] s (g ∷ steps) = ⊥
History p q (x ∷ requests) s [] = ⊥
History p q (x ∷ requests) s (g ∷ steps) = Reads p q x s g.reply g.after × History p q requests g.after steps
