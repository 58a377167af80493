-- Rows of a frame.
use Rattle.std.proofs.Common.{◌≡◌, ℕ, suc, ◌+◌, ◌*◌, ◌<◌, ◌≤◌, ◌≢◌, ◌⊎◌, List, ◌++◌, length, take, drop, sym, ap, ◌∙◌, inl, inr, mul-le-mul_right, suc-mul, arith, length-append, length-drop, length-take}
use borrow.Rule.Slice.PartMut.{put_mid}
use Rattle.std.proofs.lemmas.List.{drop-take, drop_at, take_at, length-take-le}
use Rattle.std.proofs.lemmas.Slice.{take-put_mid_below, drop-put_mid}
use Rattle.std.proofs.lemmas.Bool.{cases_lt}
use Rattle.codes.specs.Frames.{row, Becomes}

pub row_end : (n i c : ℕ) → i < n → i * c + c ≤ n * c
row_end n i c h = let e : suc i ≤ n = omega arith in omega (arith, mul-le-mul_right c e, suc-mul i c)

module _ (c n : ℕ) (frame line : List ℕ) (fits : n * c + c ≤ length frame) (long : length line ≡ c) where
  pub row_put_same : row c (put_mid (n * c) c frame line) n ≡ line
  row_put_same =
      let a : n * c ≤ length frame = omega arith in
      ap (take c) (drop_at (take (n * c) frame) (line ++ drop c (drop (n * c) frame)) (n * c) (length-take-le (n * c) frame a)) ∙ take_at line _ c long

  row_put_below : (k : ℕ) → k < n → row c (put_mid (n * c) c frame line) k ≡ row c frame k
  row_put_below k h =
      let e : k * c + c ≤ n * c = row_end n k c h in
      let a : n * c ≤ length frame = omega arith in
      sym (drop-take (k * c) c _) ∙ ap (drop (k * c)) (take-put_mid_below (n * c) c frame line (k * c + c) e a) ∙ drop-take (k * c) c frame

  row_put_above : (k : ℕ) → n < k → row c (put_mid (n * c) c frame line) k ≡ row c frame k
  row_put_above k h =
      let e : n * c + c ≤ k * c = row_end k n c h in
      let a : n * c ≤ length frame = omega arith in
      ap (take c) (drop-put_mid (n * c) c frame line (k * c) e a long)

  pub row_put_other : (k : ℕ) → k ≢ n → row c (put_mid (n * c) c frame line) k ≡ row c frame k
  row_put_other k ne = go (cases_lt k n)
    where
      go : (k < n) ⊎ (n ≤ k) → row c (put_mid (n * c) c frame line) k ≡ row c frame k
      go (inl h) = row_put_below k h
      go (inr h) = row_put_above k (omega arith)

  pub long_put : length (put_mid (n * c) c frame line) ≡ length frame
  long_put = simp (length-append, length-take, length-drop) (omega arith)

pub row_becomes : (c r n : ℕ) (frame line line' : List ℕ) → length frame ≡ r * c → n < r → length line ≡ c → line ≡ line' → Becomes (row c) r n line' frame (put_mid (n * c) c frame line)
row_becomes c r n frame line line' size h long same =
    let e = row_end r n c h in
    let fits : n * c + c ≤ length frame = omega arith in
    record {
      long = long_put c n frame line fits long;
      here = row_put_same c n frame line fits long ∙ same;
      others = λ k l ne. row_put_other c n frame line fits long k ne;
    }
