-- Rows and columns of a frame.
use Rattle.std.specs.Prelude.{◌≡◌, ℕ, ◌+◌, ◌*◌, ◌<◌, List, map, length, take, drop, ◌≢◌, slice_index, Ok, Err, Result}
use Rattle.std.specs.List.{range_with_len}
use Rattle.codes.specs.declared.columns.NoColumn.{NoColumn}

-- row i is the run of c bytes that begins at place i × c
abbrev pub row : (c : ℕ) → List ℕ → (i : ℕ) → List ℕ
row c frame i = take c (drop (i * c) frame)

-- column j holds place j of each of the r rows of c bytes
abbrev pub column : (c r : ℕ) → List ℕ → (j : ℕ) → List ℕ
column c r frame j = map (λ i. slice_index frame (i * c + j)) (range_with_len 0 r)

-- line i becomes line', and no other line of this view changes
pub record Becomes (view : List ℕ → ℕ → List ℕ) (lines i : ℕ) (line' : List ℕ) (frame frame' : List ℕ) : Type 0 where
  pub long : length frame' ≡ length frame
  pub here : view frame' i ≡ line'
  pub others : (k : ℕ) → k < lines → (k ≢ i) → view frame' k ≡ view frame k

-- the frame has a row of `width` bytes for each place of the line, and j is one of its columns
pub record Column (line frame : List ℕ) (width j : ℕ) : Type 0 where
  pub whole : length frame ≡ length line * width
  pub within : j < width

-- the line becomes column j, where there is one, and else stays
abbrev pub Takes : (line frame : List ℕ) (width j : ℕ) (line' : List ℕ) → Result (Unit {0}) NoColumn → Type 0
Takes line frame width j line' (Ok done) = Column line frame width j × (line' ≡ column width (length line) frame j)
Takes line frame width j line' (Err why) = (Column line frame width j → ⊥) × (line' ≡ line)

-- column j becomes the line, where there is one, and no other column changes; else the frame stays
abbrev pub Puts : (line frame : List ℕ) (width j : ℕ) (frame' : List ℕ) → Result (Unit {0}) NoColumn → Type 0
Puts line frame width j frame' (Ok done) = Column line frame width j × Becomes (column width (length line)) width j line frame frame'
Puts line frame width j frame' (Err why) = (Column line frame width j → ⊥) × (frame' ≡ frame)
