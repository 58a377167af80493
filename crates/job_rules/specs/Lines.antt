-- The lines of a frame, and what decoding one of them does.
use Rattle.std.specs.Prelude.{◌≡◌, ℕ, zero, suc, ◌+◌, cond, List, [], ◌∷◌, ◌==◌, slice_index_or, slice_set, Option, Some, None}
pub use Rattle.codes.specs.Frames.{row, column, Becomes}
use Rattle.codes.specs.Meaning.{Meaning}
use Rattle.codes.specs.Answers.{Decodes}
use Rattle.job_rules.specs.declared.records.Standing.TheVariants.{Sound, Stuck as StandsStuck}
use Rattle.job_rules.specs.declared.records.Record.{Record}
use Rattle.job_rules.specs.declared.records.Kind.{Kind}
use Rattle.job_rules.specs.declared.records.Kind.TheVariants.{Row, Column}
use Rattle.job_rules.specs.Records.{fresh, opened}

-- line i of a kind: rows are of the row code's length, columns of the column code's
abbrev pub line : (p q : Meaning) → Kind → List ℕ → ℕ → List ℕ
line p q Row = row p.size
line p q Column = column p.size q.size

-- the code of the lines of a kind
abbrev pub code : (p q : Meaning) → Kind → Meaning
code p q Row = p
code p q Column = q

-- the record of a line after a decoding: sound, and the tally grown by the places changed; or stuck
abbrev pub decided : Record → Option ℕ → Record
decided r (Some k) = record { standing = Sound; tally = r.tally + k }
decided r None = record { standing = StandsStuck; tally = r.tally }

-- f of what belongs to a place, at each place where two lines differ
unfoldable pub where_differ : {X : Type 0} → (X → X) → (one two : List ℕ) → List X → List X
where_differ f [] ys xs = xs
where_differ f (a ∷ one) [] xs = xs
where_differ f (a ∷ one) (b ∷ two) [] = []
where_differ f (a ∷ one) (b ∷ two) (x ∷ xs) = cond (a == b) x (f x) ∷ where_differ f one two xs

-- a frame as a pass sees it: with the records of the lines that the pass goes over, and of those across them
pub record Seen : Type 0 where
  pub frame : List ℕ
  pub on : List Record
  pub across : List Record

-- line i is decoded: it becomes what its code says, its record says so, and the line across each changed place is opened
pub record Decoding (m : Meaning) (view : List ℕ → ℕ → List ℕ) (lines i : ℕ) (s t : Seen) : Type 0 where
  pub answer : Option ℕ
  pub line' : List ℕ
  pub decodes : Decodes m (view s.frame i) line' answer
  pub frame : Becomes view lines i line' s.frame t.frame
  pub mark : t.on ≡ slice_set s.on i (decided (slice_index_or s.on i fresh) answer)
  pub cross : t.across ≡ where_differ opened (view s.frame i) line' s.across

-- lines 0 to n - 1, in rising order
unfoldable pub InOrder : {S : Type 0} → (ℕ → S → S → Type 0) → ℕ → S → S → Type 0
InOrder step zero s t = t ≡ s
InOrder {S} step (suc n) s t = (u : S) × (InOrder step n s u × step n u t)
