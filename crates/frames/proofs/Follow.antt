-- In a frame whose columns are codewords, the rows past the message are codewords because those of the message are.
use Rattle.std.proofs.Common.{◌≡◌, ℕ, zero, suc, ◌+◌, ◌-◌, ◌*◌, ◌<◌, ◌≤◌, Bool, true, false, cond, eqb, List, [], ◌∷◌, map, length, get_or, sym, ap, ◌∙◌, subst, ap₂, arith, eq-eqb}
use Rattle.std.specs.List.{range_with_len}
use Rattle.std.proofs.lemmas.List.FromFn.{get_or-map-range_with_len, length-map-range_with_len}
use Rattle.fields.specs.Laws.{Meaning, FieldLaws, power}
use Rattle.algebra.specs.Sums.{sums}
use Rattle.algebra.specs.Lines.{term, syndrome}
use Rattle.algebra.specs.Theorems.{nonzero}
use Rattle.algebra.proofs.Numbers.{sums_none, sums_more, sums_below}
use Rattle.algebra.proofs.Theorems.{exchange, minimum_distance}
use Rattle.codes.specs.Meaning.{Below}
use Rattle.codes.specs.Frames.{row, column}
use Rattle.codes.proofs.Places.{column_at, column_long}
use Rattle.codes.proofs.Views.{row_at, row_long}
use Rattle.reed_solomon.specs.Words.{zeros}
use Rattle.reed_solomon.proofs.Apart.{word_to, word_from}
use Rattle.reed_solomon.proofs.Differ.{below_at, all_below}
use Rattle.reed_solomon.proofs.Zeros.{zeros_all, zeros_each}
use Rattle.frames.specs.Theorems.{RowsFollow}

module _ (m : Meaning) (t : FieldLaws m) where
  -- sums of equal terms
  pub sums_cong : (f g : ℕ → ℕ) (n : ℕ) → ((i : ℕ) → i < n → f i ≡ g i) → sums m f n ≡ sums m g n
  sums_cong f g zero h = sums_none m f ∙ sym (sums_none m g)
  sums_cong f g (suc n) h =
      sums_more m f n ∙ ap₂ m.add (sums_cong f g n (λ i l. h i (omega arith))) (h n (omega arith)) ∙ sym (sums_more m g n)

  pub sums_zero : (f : ℕ → ℕ) (n : ℕ) → ((i : ℕ) → i < n → f i ≡ 0) → sums m f n ≡ 0
  sums_zero f zero h = sums_none m f
  sums_zero f (suc n) h = sums_more m f n ∙ ap₂ m.add (sums_zero f n (λ i l. h i (omega arith))) (h n (omega arith)) ∙ t.add_self 0

  -- a common factor
  pub sums_scale : (f : ℕ → ℕ) (a n : ℕ) → m.mul (sums m f n) a ≡ sums m (λ i. m.mul (f i) a) n
  sums_scale f a zero = ap (λ s. m.mul s a) (sums_none m f) ∙ t.mul_comm 0 a ∙ t.mul_zero a ∙ sym (sums_none m _)
  sums_scale f a (suc n) =
      ap (λ s. m.mul s a) (sums_more m f n)
      ∙ t.mul_comm _ a ∙ t.mul_add a (sums m f n) (f n)
      ∙ ap₂ m.add (t.mul_comm a (sums m f n) ∙ sums_scale f a n) (t.mul_comm a (f n))
      ∙ sym (sums_more m _ n)

-- numbers of which the first k are 0
nonzero_tail : (k : ℕ) (xs : List ℕ) → ((p : ℕ) → p < k → p < length xs → get_or xs p 0 ≡ 0) → nonzero xs ≤ length xs - k
nonzero_tail k [] h = omega arith
nonzero_tail zero (x ∷ xs) h = bound (eqb x 0) (nonzero_tail 0 xs (λ p l. absurd (omega arith)))
  where
    bound : (b : Bool) → nonzero xs ≤ length xs - 0 → cond b 0 1 + nonzero xs ≤ suc (length xs) - 0
    bound true r = omega (arith, r)
    bound false r = omega (arith, r)
nonzero_tail (suc k) (x ∷ xs) h =
    let s : eqb x 0 ≡ true = eq-eqb x 0 (h 0 (omega arith) (omega arith)) in
    let r = nonzero_tail k xs (λ p l l'. h (suc p) (omega arith) (omega arith)) in
    subst (λ (b : Bool). cond b 0 1 + nonzero xs ≤ suc (length xs) - suc k) (sym s) (omega (arith, r))

module _ (m : Meaning) (t : FieldLaws m) (c r : ℕ) (frame : List ℕ) (whole : length frame ≡ r * c) where
  -- syndrome s of each row
  across : ℕ → List ℕ
  across s = map (λ i. syndrome m (row c frame i) s) (range_with_len 0 r)

  across_at : (s i : ℕ) → i < r → get_or (across s) i 0 ≡ syndrome m (row c frame i) s
  unfolding across
  across_at s i l = get_or-map-range_with_len (λ i. syndrome m (row c frame i) s) 0 r i i 0 l (omega arith)

  across_long : (s : ℕ) → length (across s) ≡ r
  unfolding across
  across_long s = length-map-range_with_len (λ i. syndrome m (row c frame i) s) 0 r

  -- what place j of row i adds to the syndrome u of the rows' syndromes s
  share : (s u i j : ℕ) → ℕ
  share s u i j =
      m.mul (m.mul (get_or frame (i * c + j) 0) (power m.mul m.g (s * (c - 1 - j)))) (power m.mul m.g (u * (r - 1 - i)))

  by_rows : (s u : ℕ) → syndrome m (across s) u ≡ sums m (λ i. sums m (λ j. share s u i j) c) r
  unfolding syndrome share
  by_rows s u =
      ap (sums m (term m (across s) u)) (across_long s)
      ∙ sums_cong m t _ _ r (λ i l.
      ap₂ (λ a n. m.mul a (power m.mul m.g (u * (n - 1 - i)))) (across_at s i l) (across_long s)
      ∙ sums_scale m t (term m (row c frame i) s) (power m.mul m.g (u * (r - 1 - i))) (length (row c frame i))
      ∙ ap (sums m _) (row_long c r i frame whole l)
      ∙ sums_cong m t _ _ c (λ j lj.
      ap₂ (λ a n. m.mul (m.mul a (power m.mul m.g (s * (n - 1 - j)))) (power m.mul m.g (u * (r - 1 - i))))
      (row_at c i j frame lj) (row_long c r i frame whole l)))

  swap : (a x y : ℕ) → m.mul (m.mul a x) y ≡ m.mul (m.mul a y) x
  swap a x y = t.mul_assoc a x y ∙ ap (m.mul a) (t.mul_comm x y) ∙ sym (t.mul_assoc a y x)

  by_columns : (s u j : ℕ) → j < c → sums m (λ i. share s u i j) r ≡ m.mul (syndrome m (column c r frame j) u) (power m.mul m.g (s * (c - 1 - j)))
  unfolding syndrome share
  by_columns s u j l =
      sums_cong m t _ (λ i. m.mul (term m (column c r frame j) u i) (power m.mul m.g (s * (c - 1 - j)))) r (λ i li.
      swap _ _ _
      ∙ ap₂ (λ a n. m.mul (m.mul a (power m.mul m.g (u * (n - 1 - i)))) (power m.mul m.g (s * (c - 1 - j))))
      (sym (column_at c r frame j i li)) (sym (column_long c r frame j)))
      ∙ sym (sums_scale m t (term m (column c r frame j) u) (power m.mul m.g (s * (c - 1 - j))) r)
      ∙ ap (λ n. m.mul (sums m (term m (column c r frame j) u) n) (power m.mul m.g (s * (c - 1 - j)))) (sym (column_long c r frame j))

  -- where syndrome u of every column is 0, so is syndrome u of the rows' syndromes
  across_zero : (s u : ℕ) → ((j : ℕ) → j < c → syndrome m (column c r frame j) u ≡ 0) → syndrome m (across s) u ≡ 0
  across_zero s u h =
      by_rows s u ∙ exchange m t (share s u) r c
      ∙ sums_zero m t _ c (λ j l.
      by_columns s u j l ∙ ap (λ a. m.mul a (power m.mul m.g (s * (c - 1 - j)))) (h j l) ∙ t.mul_comm 0 _ ∙ t.mul_zero _)

  pub row_zero : (s d kc : ℕ) → kc < r → r < m.q
      → ((i : ℕ) → i < kc → syndrome m (row c frame i) s ≡ 0)
      → ((u : ℕ) → u < r - kc → (j : ℕ) → j < c → syndrome m (column c r frame j) (d + u) ≡ 0)
      → (i : ℕ) → i < r → syndrome m (row c frame i) s ≡ 0
  row_zero s d kc less fits top zeros i l =
      let long = across_long s in
      sym (across_at s i l)
      ∙ minimum_distance m t (across s) d (r - kc)
      (λ k lk. subst (λ (n : ℕ). n < m.q) (sym (across_at s k (omega arith))) (unfold syndrome in sums_below m t _ _))
      (omega arith)
      (let h = nonzero_tail kc (across s) (λ p lp l'. across_at s p (omega arith) ∙ top p lp) in omega arith)
      (λ u lu. across_zero s (d + u) (zeros u lu))
      i (omega arith)

pub rows_follow_lem : RowsFollow
rows_follow_lem m t c kr b q r kc d q' wr wc frame whole top columns i l =
    word_to m c kr b q (row c frame i) (row_long c r i frame whole l) order below
    (zeros_all (λ s. syndrome m (row c frame i) (b + s)) (c - kr) (λ s ls.
    row_zero m t c r frame whole (b + s) d kc wc.less (let f = wc.fits in omega (arith, order'))
    (λ a la. zeros_each (λ e. syndrome m (row c frame a) (b + e)) (c - kr) (word_from m c kr b q _ (top a la)).1 s ls)
    (λ u lu j lj. zeros_each (λ e. syndrome m (column c r frame j) (d + e)) (r - kc) (word_from m r kc d q' _ (columns j lj)).1 u lu)
    i l))
  where
    some : 0 < c
    some = let h = wr.less in omega arith

    order : q ≡ m.q
    order = (word_from m c kr b q _ (top 0 wc.some)).0

    order' : q' ≡ m.q
    order' = (word_from m r kc d q' _ (columns 0 some)).0

    below : Below m.q (row c frame i)
    below = all_below m.q (row c frame i) (λ j lj.
        let long = row_long c r i frame whole l in
        let inside : j < c = omega arith in
        subst (λ (n : ℕ). n < m.q) (column_at c r frame j i l ∙ sym (row_at c i j frame inside))
        (below_at m.q (column c r frame j) (columns j inside).below i (let e = column_long c r frame j in omega arith)))
