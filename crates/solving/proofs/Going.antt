-- The algorithm's recurrence, from one syndrome to the next.
use Rattle.std.proofs.Common.{◌≡◌, ℕ, ◌+◌, ◌<◌, ◌≤◌, ◌⊎◌, List, length, take, sym, refl, ap, ◌∙◌, subst, add-one, arith, length-set}
use Rattle.fields.specs.Laws.{Meaning, FieldLaws}
use Rattle.arrayvec.specs.ArrayVec.{array_vec_len}
use Rattle.algebra.specs.Lines.{Elements}
use Rattle.algebra.proofs.Berlekamp.{Found}
use Rattle.algebra.proofs.Numbers.{K, at}
use Rattle.solving.specs.Steps.{coefficient, Mixes}
use Rattle.solving.specs.Recurrences.{Starts, Keeps, Grows}
use Rattle.solving.specs.Solving.{Locates, LocatesAll}
use Rattle.solving.specs.declared.recurrence.Recurrence.{Recurrence}
use Rattle.solving.proofs.Steps.{state, start_here, one_below, kept_lists, grown_lists, found_move}
use Rattle.solving.proofs.Promise.{locates}

module _ (m : Meaning) (t : FieldLaws m) (s : List ℕ) where
  -- what is known after r of the syndromes
  pub record Going (x : Recurrence) (r : ℕ) : Type 0 where
    pub found : Found (K m t) (at m t s) (state m t x.locator.items x.length x.previous.items x.longer x.scale) r
    pub sizes : x.length + x.longer ≡ r + 1
    pub some : 0 < x.longer
    pub room : array_vec_len x.locator ≡ length s + 2
    pub elements : Elements m x.locator.items

  pub started : (x : Recurrence) → Starts (length s) x → Going x 0
  started x h =
      let zs = h.zeros in
      let long : length zs ≡ length s + 2 = sym (length-set zs 0 1) ∙ ap length (sym h.locator) ∙ h.room in
      record {
        found = found_move m t s h.locator h.length h.previous h.longer h.scale refl (start_here m t s zs zs (omega arith) h.cleared (omega arith) h.cleared);
        sizes = omega (arith, h.length, h.longer);
        some = omega (arith, h.longer);
        room = h.room;
        elements = subst (λ (xs : List ℕ). Elements m xs) (sym h.locator) (one_below m t zs h.cleared);
      }

  mixed_below : (w d : ℕ) (p q after : List ℕ) → length after ≡ length p → Mixes m w p d q after → Elements m after
  mixed_below w d p q after long h k l = subst (λ (n : ℕ). n < m.q) (sym (h k (omega arith))) (t.add_below _ _)

  module _ (x y : Recurrence) (r d : ℕ) (h : Going x r) (more : r < length s) (is : d ≡ coefficient m x.locator.items s r) where
    pub kept : ((x.longer ≤ x.length) ⊎ (d ≡ 0)) → Keeps m d x y → Going y (r + 1)
    kept either k =
        let e1 = h.room in
        let e2 = x.same in
        let e3 = y.same in
        let e4 = k.room in
        record {
          found = found_move m t s refl k.length refl (k.longer ∙ add-one x.longer) k.scale (add-one r)
              (kept_lists m t s x.locator.items x.previous.items y.locator.items y.previous.items x.length x.longer x.scale d r h.found
              (omega arith) (omega arith) (omega arith) (omega arith) is k.mends either (λ i l. k.moves i (omega arith)));
          sizes = omega (arith, h.sizes, k.length, k.longer);
          some = omega (arith, k.longer);
          room = omega arith;
          elements = mixed_below _ _ _ _ _ k.room k.mends;
        }

    pub grown : x.length < x.longer → ¬ (d ≡ 0) → Grows m d x y → Going y (r + 1)
    grown less some k =
        let e1 = h.room in
        let e2 = x.same in
        let e3 = y.same in
        let e4 = k.room in
        record {
          found = found_move m t s refl k.length refl (k.longer ∙ add-one x.length) k.scale (add-one r)
              (grown_lists m t s x.locator.items x.previous.items y.locator.items y.previous.items x.length x.longer x.scale d r h.found
              (omega arith) (omega arith) (omega arith) (omega arith) is k.mends less some k.moves);
          sizes = omega (arith, h.sizes, k.length, k.longer);
          some = omega (arith, k.longer);
          room = omega arith;
          elements = mixed_below _ _ _ _ _ k.room k.mends;
        }

  -- a recurrence of all the syndromes locates
  pub located : (x : Recurrence) (r : ℕ) → r ≡ length s → Going x r → LocatesAll m s (take (x.length + 1) x.locator.items)
  located x r e h w X Y ex few =
      let room = h.room in
      let low : x.length ≤ r = omega (arith, h.sizes, h.some) in
      subst (λ (k : ℕ). Locates m w X (take k x.locator.items)) (sym (add-one x.length))
      (locates m t s x.locator.items x.previous.items x.length x.longer x.scale
      (found_move m t s refl refl refl refl refl (sym e) h.found) (omega arith) w X Y ex few)
