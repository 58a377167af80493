-- Why a frame can be coded rows first, then columns.
use Rattle.std.specs.Prelude.{◌≡◌, ℕ, ◌*◌, ◌<◌, List, length}
use Rattle.fields.specs.Laws.{Meaning, FieldLaws}
use Rattle.codes.specs.Meaning.{Word}
use Rattle.codes.specs.Frames.{row, column}
use Rattle.reed_solomon.specs.Numbers.{Within}
use Rattle.reed_solomon.specs.Words.{reed_solomon_code}

-- where every column is a codeword and the first kc rows are, every row is
abbrev pub RowsFollow : Type 0
RowsFollow =
    (m : Meaning) → FieldLaws m → (c kr b q r kc d q' : ℕ) → Within c kr b q → Within r kc d q' → (frame : List ℕ) → length frame ≡ r * c
    → ((i : ℕ) → i < kc → Word (reed_solomon_code m c kr b q) (row c frame i))
    → ((j : ℕ) → j < c → Word (reed_solomon_code m r kc d q') (column c r frame j))
    → (i : ℕ) → i < r → Word (reed_solomon_code m c kr b q) (row c frame i)
