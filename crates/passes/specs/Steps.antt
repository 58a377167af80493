-- What the inner functions of a pass do to one line and its record.
use Rattle.std.specs.Prelude.{◌≡◌, ℕ, ◌+◌, ◌%◌, ◌^◌, cond, List, get_or, ◌==◌, slice_index_or, slice_set, Option}
use Rattle.codes.specs.Meaning.{Meaning, differ}
use Rattle.codes.specs.Answers.{Decodes}
use Rattle.job_rules.specs.declared.records.Standing.{Standing}
use Rattle.job_rules.specs.declared.records.Standing.TheVariants.{Open, Sound, Stuck}
use Rattle.job_rules.specs.declared.records.Record.{Record}
use Rattle.job_rules.specs.declared.records.Kind.{Kind}
use Rattle.job_rules.specs.declared.records.Lines.{Lines}
use Rattle.job_rules.specs.declared.answers.Effort.{Effort}
use Rattle.job_rules.specs.Records.{fresh, opened, on, crossing}
use Rattle.job_rules.specs.declared.records.Kind.TheVariants.{Row, Column}
use Rattle.job_rules.specs.Lines.{row, column, decided, where_differ, InOrder}
use Rattle.job_rules.specs.Passes.{Progress, turn}
use Rattle.job_rules.proofs.Tallies.{Keeping}

-- an open line is decoded: n and n' are the code's count
pub record DecodesLine (m : Meaning) (n n' : ℕ) (r r' : Record) (one two : List ℕ) (e : Effort) : Type 0 where
  pub answer : Option ℕ
  pub decodes : Decodes m one two answer
  pub mark : r' ≡ decided r answer
  pub once : e.decodings ≡ 1
  pub changes : e.changes ≡ differ one two
  pub count : n' ≡ (n + 1) % 2 ^ 64

-- any other is left as it is
pub record SkipsLine (n n' : ℕ) (r r' : Record) (one two : List ℕ) (e : Effort) : Type 0 where
  pub same : two ≡ one
  pub mark : r' ≡ r
  pub never : e.decodings ≡ 0
  pub changes : e.changes ≡ 0
  pub count : n' ≡ n

-- by the standing that the line has
abbrev pub By : Standing → Meaning → (n n' : ℕ) (r r' : Record) (one two : List ℕ) → Effort → Type 0
By Open m n n' r r' one two e = DecodesLine m n n' r r' one two e
By Sound m n n' r r' one two e = SkipsLine n n' r r' one two e
By Stuck m n n' r r' one two e = SkipsLine n n' r r' one two e

-- a pass comes to line i of a kind: its record is changed, and what crosses its changed places is opened
pub record Visited (m : Meaning) (n n' : ℕ) (kind : Kind) (i : ℕ) (l l' : Lines) (one two : List ℕ) (e : Effort) : Type 0 where
  pub after : Record
  pub by : By (get_or (on kind l) i fresh).standing m n n' (slice_index_or (on kind l) i fresh) after one two e
  pub own : on kind l' ≡ slice_set (on kind l) i after
  pub cross : on (crossing kind) l' ≡ where_differ opened one two (on (crossing kind) l)

-- the table after n places of line i changed: the line is opened if there is one
abbrev pub opened_if : (n i : ℕ) → List Record → List Record
opened_if n i rs = slice_set rs i (cond (n == 0) (slice_index_or rs i fresh) (opened (slice_index_or rs i fresh)))

-- the lines of a kind in a frame: n of them, each of this size
abbrev pub lines_of : Kind → (size n : ℕ) → List ℕ → ℕ → List ℕ
lines_of Row size n = row size
lines_of Column size n = column n size

-- what a pass over the lines of a kind sees of these tables, all their room included
abbrev pub sofar : Kind → Lines → (frame : List ℕ) (decodings changes count : ℕ) → Progress
sofar kind l frame d c n = record { at = record { frame = frame; on = on kind l; across = on (crossing kind) l }; decodings = d; changes = c; count = n }

-- the first i of n lines of a pass: each in its turn, and what this makes of tallies and counts
pub record MadeTo (i : ℕ) (m : Meaning) (view : List ℕ → ℕ → List ℕ) (n : ℕ) (s t : Progress) : Type 0 where
  pub turns : InOrder (turn m view n) i s t
  pub keeping : Keeping m i s t

-- a pass over n lines
abbrev pub Made : (m : Meaning) (view : List ℕ → ℕ → List ℕ) (n : ℕ) (s t : Progress) → Type 0
Made m view n s t = MadeTo n m view n s t
