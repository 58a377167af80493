-- Columns of a frame.
use Rattle.std.proofs.Common.{◌≡◌, ℕ, ◌+◌, ◌*◌, ◌/◌, ◌%◌, ◌<◌, List, length, get_or, sym, ap, ◌∙◌, arith}
use Rattle.std.proofs.lemmas.Nat.{div-mul-add, mod-mul-add}
use Rattle.std.proofs.lemmas.List.FromFn.{fill_by_all, get_or-map-range_with_len, length-map-range_with_len}
use Rattle.codes.specs.Frames.{column}
use Rattle.codes.proofs.Rows.{row_end}

pub place_lt : (h i w j : ℕ) → i < h → j < w → i * w + j < h * w
place_lt h i w j a b = omega (arith, row_end h i w a)

pub same_row : (w i j k c : ℕ) → j < w → c < w → i * w + j ≡ k * w + c → i ≡ k
same_row w i j k c a b e = sym (div-mul-add i w j a) ∙ ap (λ x. x / w) e ∙ div-mul-add k w c b

pub same_column : (w i j k c : ℕ) → j < w → c < w → i * w + j ≡ k * w + c → j ≡ c
same_column w i j k c a b e = sym (mod-mul-add i w j a) ∙ ap (λ x. x % w) e ∙ mod-mul-add k w c b

pub column_at : (w h : ℕ) (frame : List ℕ) (j i : ℕ) → i < h → get_or (column w h frame j) i 0 ≡ get_or frame (i * w + j) 0
column_at w h frame j i l = get_or-map-range_with_len (λ k. get_or frame (k * w + j) 0) 0 h i i 0 l (omega arith)

pub column_long : (w h : ℕ) (frame : List ℕ) (j : ℕ) → length (column w h frame j) ≡ h
column_long w h frame j = length-map-range_with_len (λ k. get_or frame (k * w + j) 0) 0 h

pub column_is : (w h : ℕ) (frame : List ℕ) (j : ℕ) (line : List ℕ) → length line ≡ h → ((k : ℕ) → k < h → get_or line k 0 ≡ get_or frame (k * w + j) 0) → line ≡ column w h frame j
column_is w h frame j line long each = fill_by_all (λ k. get_or frame (k * w + j) 0) line h 0 long each

pub columns_same : (w h : ℕ) (one two : List ℕ) (j : ℕ) → ((k : ℕ) → k < h → get_or one (k * w + j) 0 ≡ get_or two (k * w + j) 0) → column w h one j ≡ column w h two j
columns_same w h one two j each = column_is w h two j (column w h one j) (column_long w h one j) (λ k l. column_at w h one j k l ∙ each k l)
