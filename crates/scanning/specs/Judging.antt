-- What judging a block of a disc answers.
use Rattle.std.specs.Prelude.{◌≡◌, ℕ, ◌*◌, ◌<◌, Bool, true, false, List, length, Ok, Err, Result, ◌≢◌, slice_index_or}
use Rattle.codes.specs.Meaning.{Meaning, Word}
use Rattle.codes.specs.Frames.{row, column}
use Rattle.reed_solomon.specs.Disc.{disc_row_code, disc_column_code}
use Rattle.scanning.specs.declared.Judgement.{Judgement}
use Rattle.scanning.specs.declared.Refusal.{Refusal}
use Rattle.scanning.specs.declared.Refusal.TheVariants.{FrameLength}

-- the numbers of the refusals
abbrev pub number : Refusal → ℕ
number FrameLength = 1

-- a test that is yes exactly where P holds
pub record Tells (yes : Bool) (P : Type 0) : Type 0 where
  pub then : yes ≡ true → P
  pub only : P → yes ≡ true

-- entry i of the marks tells whether line i is a codeword
abbrev pub Marks : Meaning → (line : ℕ → List ℕ) → List Bool → Type 0
Marks m line marks = (i : ℕ) → i < length marks → Tells (slice_index_or marks i false) (Word m (line i))

-- every row and every column is judged
pub record Judged (frame : List ℕ) (j : Judgement) : Type 0 where
  pub long : length frame ≡ 208 * 182
  pub tall : length j.rows ≡ 208
  pub wide : length j.columns ≡ 182
  pub rows_are : Marks disc_row_code (row 182 frame) j.rows
  pub columns_are : Marks disc_column_code (column 182 208 frame) j.columns

-- a block of another length is refused
abbrev pub Judges : List ℕ → Result Judgement Refusal → Type 0
Judges frame (Ok j) = Judged frame j
Judges frame (Err why) = (number why ≡ 1) × (length frame ≢ 208 * 182)
