-- What a job has, and what a pass does to it.
use Rattle.std.specs.Prelude.{◌≡◌, ℕ, ◌+◌, ◌%◌, ◌^◌, List, replicate, slice_index_or}
use Rattle.codes.specs.Meaning.{Meaning, differ}
use Rattle.job_rules.specs.declared.records.Standing.{Standing}
use Rattle.job_rules.specs.declared.records.Standing.TheVariants.{Open, Sound, Stuck}
use Rattle.job_rules.specs.declared.records.Record.{Record}
use Rattle.job_rules.specs.declared.records.Counts.{Counts}
use Rattle.job_rules.specs.declared.records.Kind.{Kind}
use Rattle.job_rules.specs.declared.records.Kind.TheVariants.{Row, Column}
use Rattle.job_rules.specs.declared.answers.Effort.{Effort}
use Rattle.job_rules.specs.Records.{fresh, crossing}
use Rattle.job_rules.specs.Questions.{lines}
use Rattle.job_rules.specs.Lines.{line, code, Seen, Decoding, InOrder}

-- the frame, the records of the R rows and of the C columns, the job's counts, and how often each code says it has decoded
pub record State : Type 0 where
  pub frame : List ℕ
  pub rows : List Record
  pub columns : List Record
  pub counts : Counts
  pub row_count : ℕ
  pub column_count : ℕ

-- nothing counted
abbrev pub no_counts : Counts
no_counts = record { calls = 0; passes = 0; decodings = 0; redelivered = 0 }

-- a new job: all lines open, all counts 0; its codes may have decoded before
abbrev pub start : (p q : Meaning) (frame : List ℕ) (row_count column_count : ℕ) → State
start p q frame m n = record {
  frame = frame;
  rows = replicate q.size fresh;
  columns = replicate p.size fresh;
  counts = no_counts;
  row_count = m;
  column_count = n;
}

-- the records of the lines of a kind
abbrev pub records : Kind → State → List Record
records Row s = s.rows
records Column s = s.columns

-- the count of the code of a kind
abbrev pub code_count : Kind → State → ℕ
code_count Row s = s.row_count
code_count Column s = s.column_count

-- what a pass over the lines of a kind sees
abbrev pub seen : Kind → State → Seen
seen kind s = record { frame = s.frame; on = records kind s; across = records (crossing kind) s }

-- how far a pass has come: what it sees now, its decodings and changed places so far, and the code's count
pub record Progress : Type 0 where
  pub at : Seen
  pub decodings : ℕ
  pub changes : ℕ
  pub count : ℕ

-- line i is decoded: one decoding more, and the places at which the line differs before and after
pub record DecodedLine (m : Meaning) (view : List ℕ → ℕ → List ℕ) (n i : ℕ) (s t : Progress) : Type 0 where
  pub line : Decoding m view n i s.at t.at
  pub decodings : t.decodings ≡ s.decodings + 1
  pub changes : t.changes ≡ s.changes + differ (view s.at.frame i) (view t.at.frame i)
  pub count : t.count ≡ (s.count + 1) % 2 ^ 64

-- an open line is decoded; any other is skipped, with no call to its code
abbrev pub Turn : Standing → (m : Meaning) (view : List ℕ → ℕ → List ℕ) (n i : ℕ) (s t : Progress) → Type 0
Turn Open m view n i s t = DecodedLine m view n i s t
Turn Sound m view n i s t = t ≡ s
Turn Stuck m view n i s t = t ≡ s

-- the pass comes to line i
abbrev pub turn : (m : Meaning) (view : List ℕ → ℕ → List ℕ) (n : ℕ) → ℕ → (s t : Progress) → Type 0
turn m view n i s t = Turn (slice_index_or s.at.on i fresh).standing m view n i s t

-- a pass over the lines of a kind that has come so far, after this effort
abbrev pub progress : Kind → State → Effort → Progress
progress kind s e = record { at = seen kind s; decodings = e.decodings; changes = e.changes; count = code_count kind s }

-- nothing done yet
abbrev pub no_effort : Effort
no_effort = record { decodings = 0; changes = 0 }

-- one pass more, with its decodings
abbrev pub passed : Effort → Counts → Counts
passed e n = record { calls = n.calls; passes = n.passes + 1; decodings = n.decodings + e.decodings; redelivered = n.redelivered }

-- a pass over the lines of a kind, each in rising order, takes this effort
pub record Pass (p q : Meaning) (kind : Kind) (s t : State) (effort : Effort) : Type 0 where
  pub turns : InOrder (turn (code p q kind) (line p q kind) (lines p q kind)) (lines p q kind) (progress kind s no_effort) (progress kind t effort)
  pub other : code_count (crossing kind) t ≡ code_count (crossing kind) s
  pub counts : t.counts ≡ passed effort s.counts
