-- A frame is what its rows are, and what its columns are.
use Rattle.std.proofs.Common.{◌≡◌, ℕ, zero, suc, ◌+◌, ◌*◌, ◌/◌, ◌%◌, ◌<◌, ◌⊎◌, List, length, get_or, drop, sym, refl, ap, ◌∙◌, subst, inl, inr, mul-zero, arith, length-drop, length-take}
use Rattle.std.proofs.lemmas.List.{get_or-take, get_or-drop, ext_get_or}
use Rattle.std.proofs.lemmas.Nat.{div-add-mod', div_below, mod_below}
use Rattle.std.proofs.lemmas.Bool.{cases_eq}
use Rattle.codes.specs.Frames.{row, column, Becomes}
use Rattle.codes.proofs.Rows.{row_end}
use Rattle.codes.proofs.Places.{column_at}

pub row_at : (c i k : ℕ) (frame : List ℕ) → k < c → get_or (row c frame i) k 0 ≡ get_or frame (i * c + k) 0
row_at c i k frame l = get_or-take c (drop (i * c) frame) k 0 l ∙ get_or-drop (i * c) frame k 0

pub row_long : (c r i : ℕ) (frame : List ℕ) → length frame ≡ r * c → i < r → length (row c frame i) ≡ c
row_long c r i frame size h = let e = row_end r i c h in simp (length-take, length-drop) (omega arith)

-- frames of one length are the same if their lines of this view are
abbrev pub Shows : (view : List ℕ → ℕ → List ℕ) (lines len : ℕ) → Type 0
Shows view lines len = (f g : List ℕ) → length f ≡ len → length g ≡ len → ((i : ℕ) → i < lines → view f i ≡ view g i) → f ≡ g

some_width : (r c k : ℕ) → k < r * c → 0 < c
some_width r zero k h = absurd (omega (arith, mul-zero r, h))
some_width r (suc c) k h = omega arith

pub rows_show : (c r : ℕ) → Shows (row c) r (r * c)
rows_show c r f g lf lg same = ext_get_or 0 f g (lf ∙ sym lg) (λ k h.
    let h' : k < r * c = omega arith in
    let w = some_width r c k h' in
    let at = div-add-mod' k c in
    let b = mod_below k c w in
    let a = div_below k c r w h' in
    let e : get_or f (k / c * c + k % c) 0 ≡ get_or g (k / c * c + k % c) 0 = sym (row_at c (k / c) (k % c) f b) ∙ ap (λ x. get_or x (k % c) 0) (same (k / c) a) ∙ row_at c (k / c) (k % c) g b in
    subst (λ (x : ℕ). get_or f x 0 ≡ get_or g x 0) at e)

pub columns_show : (c r : ℕ) → Shows (column c r) c (r * c)
columns_show c r f g lf lg same = ext_get_or 0 f g (lf ∙ sym lg) (λ k h.
    let h' : k < r * c = omega arith in
    let w = some_width r c k h' in
    let at = div-add-mod' k c in
    let b = mod_below k c w in
    let a = div_below k c r w h' in
    let e : get_or f (k / c * c + k % c) 0 ≡ get_or g (k / c * c + k % c) 0 = sym (column_at c r f (k % c) (k / c) a) ∙ ap (λ x. get_or x (k / c) 0) (same (k % c) b) ∙ column_at c r g (k % c) (k / c) a in
    subst (λ (x : ℕ). get_or f x 0 ≡ get_or g x 0) at e)

module _ (view : List ℕ → ℕ → List ℕ) (lines len i : ℕ) (shows : Shows view lines len) (frame one two line : List ℕ) (size : length frame ≡ len) where
  -- there is one frame only in which line i became this and no other line changed
  pub becomes_one : Becomes view lines i line frame one → Becomes view lines i line frame two → one ≡ two
  becomes_one a b = shows one two (a.long ∙ size) (b.long ∙ size) (λ k l. at k l (cases_eq k i))
    where
      at : (k : ℕ) → k < lines → (k ≡ i) ⊎ (k ≡ i → ⊥) → view one k ≡ view two k
      at k l (inl e) = ap (view one) e ∙ a.here ∙ sym b.here ∙ ap (view two) (sym e)
      at k l (inr ne) = a.others k l ne ∙ sym (b.others k l ne)

pub becomes_same : (view : List ℕ → ℕ → List ℕ) (lines len i : ℕ) → Shows view lines len → (frame frame' line : List ℕ) → length frame ≡ len → line ≡ view frame i → Becomes view lines i line frame frame' → frame' ≡ frame
becomes_same view lines len i shows frame frame' line size same b =
    becomes_one view lines len i shows frame frame' frame line size b (record { long = refl; here = sym same; others = λ k l ne. refl })
