-- Each way on which a received line is left, or mended: what is known there of the codewords in reach.
use Rattle.std.proofs.Common.{◌≡◌, ℕ, suc, ◌+◌, ◌-◌, ◌<◌, ◌≤◌, true, List, length, get_or, sym, refl, ap, ◌∙◌, subst, arith}
use native.Mathlib.Decide.{ℕ_discrete}
use Rattle.fields.specs.Laws.{Meaning, FieldLaws}
use Rattle.fields.specs.Laws.{power as raised}
use Rattle.algebra.specs.Lines.{Elements, syndrome}
use Rattle.algebra.proofs.Numbers.{⟨◌⟩, power_below, sums_below}
use Rattle.algebra.proofs.Lines.{places_some, place_number}
use Rattle.algebra.proofs.Elements.{el_zero}
use Rattle.codes.specs.Meaning.{differ, Below, Word, InReach}
use Rattle.codes.specs.Answers.{Mends, Sticks}
use Rattle.codes.proofs.Lines.{differ_same}
use Rattle.reed_solomon.specs.Words.{zeros}
use Rattle.reed_solomon.specs.Lines.{code_of, Syndromes}
use Rattle.reed_solomon.specs.declared.numbers.CodeNumbers.{CodeNumbers}
use Rattle.reed_solomon.proofs.Differ.{all_below, below_at}
use Rattle.reed_solomon.proofs.Apart.{word_to, word_from}
use Rattle.reed_solomon.proofs.Zeros.{zeros_all}
use Rattle.solving.specs.Solving.{Explains, LocatesAll}
use Rattle.errors.specs.Places.{root_at, count, Lists, located_at, Weighs, value_of_error, Fixes, patched}
use Rattle.errors.specs.Received.{Received}
use Rattle.errors.proofs.Listed.{moved}
use Rattle.errors.proofs.Patched.{patched_near, patched_differ}
use Rattle.errors.proofs.Complete.{explained_at, counted, Y, weighs, changes, becomes}

module _ (m : Meaning) (t : FieldLaws m) (n : CodeNumbers) (line table s : List ℕ) (r : Received m n line table s) where
  -- the field has more than two elements, and the line is shorter than that
  pub big : 2 < m.q
  big = let e = r.order in let a = n.some in let b = n.less in let c = n.fits in omega arith

  pub fits : length line < m.q
  fits = let e = r.order in let l = r.long in let c = n.fits in omega arith

  located : (p : ℕ) → p < length line → get_or table p 0 ≡ raised m.mul m.g (length line - 1 - p)
  located p l = let e = r.wide in r.located p (omega arith) ∙ ap (λ (k : ℕ). raised m.mul m.g (k - 1 - p)) e

  pub table_elements : Elements m table
  table_elements k l = let e = r.wide in subst (λ (a : ℕ). a < m.q) (sym (located k (omega arith))) (power_below m t _ _)

  pub table_positive : (k : ℕ) → k < length table → 0 < get_or table k 0
  table_positive k l = elim (ℕ_discrete (get_or table k 0) 0) [
    | yes z ↦ absurd (let e = r.wide in
        places_some m t (length line) big k (place_number m t (length line) k ∙ ap (⟨◌⟩ m t) (sym (located k (omega arith)) ∙ z) ∙ el_zero m t))
    | no nz ↦ omega arith
  ]

  pub sums_elements : Elements m s
  sums_elements k l = subst (λ (a : ℕ). a < m.q) (sym (r.sums k l)) (unfold syndrome in sums_below m t _ (length line))

  below : Below m.q line
  below = all_below m.q line r.elements

  module _ (near : InReach (code_of m n) line) where
    abbrev v : List ℕ
    v = near.word

    long : length v ≡ length line
    long = near.is.long ∙ sym r.long

    word : zeros (λ i. syndrome m v (n.root + i)) (length s) ≡ true
    word = ap (zeros (λ i. syndrome m v (n.root + i))) r.count ∙ (word_from m n.length n.dimension n.root n.order v near.is).1

    twice : differ line v + differ line v ≤ length s
    twice = let e = r.count in let d = near.near in omega arith

    -- the wrong places explain the syndromes
    pub wrong_places : ((w : ℕ) (pos Y : ℕ → ℕ) → ((j : ℕ) → j < w → pos j < length line) → Explains m s w (λ j. get_or table (pos j) 0) Y → w + w ≤ length s → ⊥) → ⊥
    wrong_places = explained_at m t line v table s n.root long big fits below near.is.below word twice located r.sums

    module _ (c : List ℕ) (degree : ℕ) (size : length c ≡ suc degree) (sol : LocatesAll m s c) where
      found_count : count (root_at m c table) (length table) ≡ degree
      found_count =
          ap (count (root_at m c table)) r.wide
          ∙ counted m t line v table s n.root long big fits below near.is.below word twice located r.sums c degree size sol

      module _ (found fixed : List ℕ) (as_many : length found ≡ degree) (lists : Lists (root_at m c table) (length table) found (length found))
          (fixes : Fixes m n.root line table s found fixed) where
        listed : Lists (root_at m c table) (length line) found degree
        listed = moved (root_at m c table) r.wide refl as_many lists

        abbrev weights : ℕ → ℕ
        weights = Y m t line v table s n.root long big fits below near.is.below word twice located r.sums c degree size sol found fixed listed

        fixed_are : (j : ℕ) → j < degree → get_or fixed j 0 ≡ m.add (get_or line (get_or found j 0) 0) (value_of_error m n.root (located_at table found) weights j)
        fixed_are j l =
            fixes j (omega arith) weights
            (subst (λ (d : ℕ). Weighs m s d (located_at table found) weights) (sym as_many)
            (weighs m t line v table s n.root long big fits below near.is.below word twice located r.sums c degree size sol found fixed listed))

        all_differ : (j : ℕ) → j < degree → ¬ (get_or fixed j 0 ≡ get_or line (get_or found j 0) 0)
        all_differ = changes m t line v table s n.root long big fits below near.is.below word twice located r.sums c degree size sol found fixed listed fixed_are

        is_then : patched line found fixed degree ≡ v
        is_then = becomes m t line v table s n.root long big fits below near.is.below word twice located r.sums c degree size sol found fixed listed fixed_are

  stuck : (InReach (code_of m n) line → ⊥) → Sticks (code_of m n) line line
  stuck h = record { long = r.long; same = refl; far = h }

  -- the solver found nothing
  pub stuck_unsolved : ((w : ℕ) (X Y : ℕ → ℕ) → Explains m s w X Y → w + w ≤ length s → ⊥) → Sticks (code_of m n) line line
  stuck_unsolved h = stuck (λ near. wrong_places near (λ w pos Y inside. h w (λ j. get_or table (pos j) 0) Y))

  module _ (c : List ℕ) (degree : ℕ) (size : length c ≡ suc degree) (sol : LocatesAll m s c) where
    -- there are not as many roots among the places as the degree says
    pub stuck_places : (count (root_at m c table) (length table) ≡ degree → ⊥) → Sticks (code_of m n) line line
    stuck_places h = stuck (λ near. h (found_count near c degree size sol))

    module _ (found fixed : List ℕ) (as_many : length found ≡ degree) (lists : Lists (root_at m c table) (length table) found (length found))
        (fixes : Fixes m n.root line table s found fixed) where
      -- the closing check failed
      pub stuck_check : (after : List ℕ) → after ≡ line → (Word (code_of m n) (patched line found fixed (length found)) → ⊥) → Sticks (code_of m n) line after
      stuck_check after back h = record {
        long = r.long;
        same = back;
        far = λ near. h (subst (λ (w : List ℕ). Word (code_of m n) w)
            (sym (ap (patched line found fixed) as_many ∙ is_then near c degree size sol found fixed as_many lists fixes)) near.is);
      }

      -- the closing check passed: so the codeword is in reach, the found places are the wrong ones, and each of them changed
      pub mended : degree + degree ≤ length s → Word (code_of m n) (patched line found fixed (length found))
          → Mends (code_of m n) line (patched line found fixed (length found)) degree
      mended half word =
          let few = patched_near line found fixed (length found) in
          let e = r.count in
          let near : InReach (code_of m n) line = record { long = r.long; below = below; word = patched line found fixed (length found); is = word; near = omega arith } in
          record {
            long = r.long;
            below = below;
            word = word;
            changes = patched_differ line found fixed (length found) (λ i l. let h = lists.inside i l in let w = r.wide in omega arith) lists.once (length found) (omega arith)
                (λ i l. all_differ near c degree size sol found fixed as_many lists fixes i (omega arith)) ∙ as_many;
            near = omega arith;
          }

-- all syndromes are 0
pub unchanged : (m : Meaning) (n : CodeNumbers) (line s : List ℕ) → n.order ≡ m.q → length line ≡ n.length → Elements m line
    → length s ≡ n.length - n.dimension → Syndromes m line n.root s → ((k : ℕ) → k < length s → get_or s k 0 ≡ 0) → Mends (code_of m n) line line 0
unchanged m n line s order long elements count sums z =
    let below = all_below m.q line elements in
    record {
      long = long;
      below = below;
      word = word_to m n.length n.dimension n.root n.order line long order below
          (subst (λ (k : ℕ). zeros (λ i. syndrome m line (n.root + i)) k ≡ true) count
          (zeros_all _ (length s) (λ i l. sym (sums i l) ∙ z i l)));
      changes = differ_same line;
      near = omega arith;
    }

-- a line with bytes that are no elements, or under numbers for another field
pub unreadable : (m : Meaning) (n : CodeNumbers) (line : List ℕ) → length line ≡ n.length → (n.order ≡ m.q → Elements m line → ⊥) → Sticks (code_of m n) line line
unreadable m n line l h = record {
  long = l;
  same = refl;
  far = λ near. h (word_from m n.length n.dimension n.root n.order near.word near.is).0 (below_at m.q line near.below);
}
