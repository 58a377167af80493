-- The bridge, on: sums and powers of numbers are those of the theory.
use mathlib.Core.Path.{◌≡◌, refl, sym, ap, ◌∙◌}
use mathlib.Core.List.{List}
use Prim.Native.Nat.{ℕ, zero, suc, ◌<◌}
use lib.ListN.{get_or}
use Rattle.fields.specs.Laws.{Meaning, FieldLaws}
use Rattle.fields.specs.Laws.{power as raised}
use Rattle.algebra.proofs.Field.{Field}
use Rattle.algebra.specs.Sums.{sums}
use Rattle.algebra.proofs.Sums.{sum, sum_none, sum_more}
use Rattle.algebra.proofs.Elements.{Element, field, el, el_zero, el_add, some}

pub sums_none : (m : Meaning) (f : ℕ → ℕ) → sums m f 0 ≡ 0
unfolding sums
sums_none m f = refl

pub sums_more : (m : Meaning) (f : ℕ → ℕ) (n : ℕ) → sums m f (suc n) ≡ m.add (sums m f n) (f n)
unfolding sums
sums_more m f n = refl

module _ (m : Meaning) (t : FieldLaws m) where
  abbrev pub K : Field (Element m)
  K = field m t

  abbrev pub ⟨◌⟩ : ℕ → Element m
  ⟨◌⟩ = el m t

  pub sums_below : (f : ℕ → ℕ) (n : ℕ) → sums m f n < m.q
  unfolding sums
  sums_below f zero = some m t
  sums_below f (suc n) = t.add_below (sums m f n) (f n)

  pub power_below : (a k : ℕ) → raised m.mul a k < m.q
  power_below a zero = t.two
  power_below a (suc k) = t.mul_below a (raised m.mul a k)

  pub el_sums : (f : ℕ → ℕ) (n : ℕ) → ⟨ sums m f n ⟩ ≡ sum K n (λ i. ⟨ f i ⟩)
  el_sums f zero = ap ⟨◌⟩ (sums_none m f) ∙ el_zero m t ∙ sym (sum_none K _)
  el_sums f (suc n) =
      ap ⟨◌⟩ (sums_more m f n) ∙ el_add m t (sums m f n) (f n) ∙ ap (λ s. K.add s ⟨ f n ⟩) (el_sums f n) ∙ sym (sum_more K n _)

  -- a line's elements
  unfoldable pub at : List ℕ → ℕ → Element m
  at line p = ⟨ get_or line p 0 ⟩

  pub at_is : (line : List ℕ) (p : ℕ) → at line p ≡ ⟨ get_or line p 0 ⟩
  unfolding at
  at_is line p = refl
