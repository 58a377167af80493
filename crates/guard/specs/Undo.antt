-- Undoing changes of a line from the notes taken of them.
use Rattle.std.specs.Prelude.{List, [], ◌∷◌, ℕ, ◌<◌, ◌≤◌, length, set}
use Rattle.std.specs.List.{All}
use Rattle.guard.specs.declared.change.Change.{Change}

-- the line with the noted bytes put back, the newest first
abbrev pub undo : List Change → List ℕ → List ℕ
undo [] line = line
undo (x ∷ xs) line = set (undo xs line) x.place x.old

-- at most 32 notes, each of a place of a line of len bytes
abbrev pub Noted : List Change → ℕ → Type 0
Noted xs len = (length xs ≤ 32) × All (λ x. x.place < len) xs
