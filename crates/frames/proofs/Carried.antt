-- A frame coded rows first and then columns carries its message, and no other frame does.
use Rattle.std.proofs.Common.{◌≡◌, ℕ, ◌*◌, ◌<◌, List, length, get_or, sym, ap, ◌∙◌, subst, arith}
use Rattle.std.proofs.lemmas.List.{ext_get_or}
use Rattle.fields.specs.Laws.{Meaning, FieldLaws}
use Rattle.codes.specs.Meaning.{Word}
use Rattle.codes.specs.Frames.{row, column}
use Rattle.codes.proofs.Places.{column_at}
use Rattle.codes.proofs.Views.{row_at, row_long, columns_show}
use Rattle.reed_solomon.specs.Numbers.{Within}
use Rattle.reed_solomon.specs.Words.{reed_solomon_code}
use Rattle.reed_solomon.proofs.Apart.{apart}
use Rattle.coding.specs.Coding.{SameMessage}
use Rattle.coding.proofs.Divided.{differ_tail}
use Rattle.frames.specs.Carrying.{Carries, Coded}
use Rattle.frames.proofs.Follow.{rows_follow_lem}

-- codewords with one message are one codeword
one_word : (m : Meaning) → FieldLaws m → (n k b q : ℕ) → Within n k b q → (v w : List ℕ)
    → Word (reed_solomon_code m n k b q) v → Word (reed_solomon_code m n k b q) w → SameMessage k v w → v ≡ w
one_word m t n k b q within v w x y same =
    let lv = x.long in
    let lw = y.long in
    apart m t n k b q within v w x y (let d = differ_tail k v w (lv ∙ sym lw) (λ p l l'. same p l) in omega arith)

module _ (m : Meaning) (t : FieldLaws m) (c kr b q r kc d q' : ℕ) (wr : Within c kr b q) (wc : Within r kc d q') where
  -- where the tops of all columns agree, the upper rows do
  same_rows : (f g : List ℕ) → length f ≡ r * c → length g ≡ r * c
      → ((j : ℕ) → j < c → SameMessage kc (column c r f j) (column c r g j)) → (i : ℕ) → i < kc → row c f i ≡ row c g i
  same_rows f g lf lg tops i l =
      let less : i < r = (let h = wc.less in omega arith) in
      let long = row_long c r i f lf less in
      ext_get_or 0 (row c f i) (row c g i) (long ∙ sym (row_long c r i g lg less)) (λ j lj.
      let inside : j < c = omega arith in
      row_at c i j f inside ∙ sym (column_at c r f j i less) ∙ tops j inside i l ∙ column_at c r g j i less ∙ sym (row_at c i j g inside))

  -- the upper rows of a frame say what the tops of its columns are
  same_tops : (f g : List ℕ) → ((i : ℕ) → i < kc → row c f i ≡ row c g i) → (j : ℕ) → j < c → SameMessage kc (column c r f j) (column c r g j)
  same_tops f g rows j lj i l =
      let less : i < r = (let h = wc.less in omega arith) in
      column_at c r f j i less ∙ sym (row_at c i j f lj) ∙ ap (λ x. get_or x j 0) (rows i l) ∙ row_at c i j g lj ∙ sym (column_at c r g j i less)

  module _ (message between after : List ℕ) (lb : length between ≡ r * c) (la : length after ≡ r * c)
      (words : (i : ℕ) → i < kc → Word (reed_solomon_code m c kr b q) (row c between i))
      (heads : (i : ℕ) → i < kc → SameMessage kr (row c between i) (row kr message i))
      (columns : (j : ℕ) → j < c → Word (reed_solomon_code m r kc d q') (column c r after j))
      (tops : (j : ℕ) → j < c → SameMessage kc (column c r after j) (column c r between j)) where
    upper : (i : ℕ) → i < kc → row c after i ≡ row c between i
    upper = same_rows after between la lb tops

    carries : Carries (reed_solomon_code m c kr b q) (reed_solomon_code m r kc d q') kr kc message after
    carries = record {
      long = la;
      upper_left = λ i l. subst (λ (x : List ℕ). SameMessage kr x (row kr message i)) (sym (upper i l)) (heads i l);
      rows = rows_follow_lem m t c kr b q r kc d q' wr wc after la (λ i l. subst (Word (reed_solomon_code m c kr b q)) (sym (upper i l)) (words i l)) columns;
      columns = columns;
    }

    pub coded : Coded (reed_solomon_code m c kr b q) (reed_solomon_code m r kc d q') kr kc message after
    coded = record {
      carries = carries;
      only = λ other o.
          let rows : (i : ℕ) → i < kc → row c other i ≡ row c after i = λ i l.
          let less : i < r = (let h = wc.less in omega arith) in
          one_word m t c kr b q wr _ _ (o.rows i less) (carries.rows i less) (λ p lp. o.upper_left i l p lp ∙ sym (carries.upper_left i l p lp)) in
          columns_show c r other after o.long la (λ j lj.
          one_word m t r kc d q' wc _ _ (o.columns j lj) (columns j lj) (same_tops other after rows j lj));
    }
