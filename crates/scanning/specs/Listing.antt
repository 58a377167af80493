-- Runs of lines that are not marked.
use Rattle.std.specs.Prelude.{◌≡◌, ℕ, ◌+◌, ◌<◌, ◌≤◌, Bool, true, false, List, length, Some, None, Option, slice_index_or, cond, ◌==◌, ◌++◌, codes}
use Rattle.std.specs.Fmt.{decimal}
use Rattle.scanning.specs.declared.listing.Lines.{Lines}

-- `3`, or `17-19`
abbrev pub lines_text : Lines → List ℕ
lines_text l = cond (l.first == l.last) (decimal l.first) (decimal l.first ++ codes "-" ++ decimal l.last)

-- all from a on and before b are marked so
abbrev pub All : List Bool → (a b : ℕ) → Bool → Type 0
All marks a b m = (k : ℕ) → a ≤ k → k < b → slice_index_or marks k false ≡ m

-- the first run from `from` on goes from a to z: what comes before it is marked, and what follows it
pub record Run (marks : List Bool) (from a z : ℕ) : Type 0 where
  pub low : from ≤ a
  pub order : a ≤ z
  pub high : z < length marks
  pub before : All marks from a true
  pub inside : All marks a (z + 1) false
  pub next : z + 1 < length marks → slice_index_or marks (z + 1) false ≡ true

-- there is a run, or all from `from` on are marked
abbrev pub NextRun : List Bool → ℕ → Option Lines → Type 0
NextRun marks from (Some r) = Run marks from r.first r.last
NextRun marks from None = All marks from (length marks) true
