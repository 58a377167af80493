-- A line under guard.
use Rattle.std.specs.Prelude.{◌≡◌, false, List, ℕ, ◌+◌, ◌<◌, ◌≤◌, Result, Ok, Err, length, set, codes}
use Rattle.guard.specs.Undo.{undo}
use Rattle.guard.specs.declared.Guard.{Guard}
use Rattle.guard.specs.declared.refusing.SetError.{SetError}
use Rattle.guard.specs.declared.refusing.SetError.TheVariants.{Place, Room}

-- the bytes of the line
abbrev pub bytes : Guard → List ℕ
bytes g = g.line.now

-- how many changes are noted
abbrev pub count : Guard → ℕ
count g = length g.changes.items

-- the bytes that the guard would put back
abbrev pub restored : Guard → List ℕ
restored g = undo g.changes.items g.line.now

-- one byte changed, noted, and not yet checked
pub record Changed (place value : ℕ) (before after : Guard) : Type 0 where
  pub inside : place < length (bytes before)
  pub room : count before < 32
  pub line : bytes after ≡ set (bytes before) place value
  pub count : count after ≡ count before + 1
  pub unchecked : after.passed ≡ false

-- nothing changed
pub record Unchanged (before after : Guard) : Type 0 where
  pub line : bytes after ≡ bytes before
  pub count : count after ≡ count before
  pub passed : after.passed ≡ before.passed

-- the byte is changed exactly where the line has the place and there is room for a note, and else nothing is;
-- the place is asked first
abbrev pub Sets : (place value : ℕ) (before after : Guard) → Result Unit SetError → Type 0
Sets place value before after (Ok _) = Changed place value before after
Sets place value before after (Err Place) = (length (bytes before) ≤ place) × Unchanged before after
Sets place value before after (Err Room) = (place < length (bytes before)) × (32 ≤ count before) × Unchanged before after

-- what the errors print
abbrev pub sentence : SetError → List ℕ
sentence Place = codes "the line has no such place"
sentence Room = codes "no further change can be noted"
