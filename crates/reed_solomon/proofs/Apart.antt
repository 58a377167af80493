-- Two codewords that differ at few places are equal.
use Rattle.std.proofs.Common.{◌≡◌, ℕ, ◌+◌, ◌-◌, ◌<◌, ◌≤◌, Bool, true, false, cond, eqb, List, length, get_or, sym, refl, ap, ◌∙◌, subst, arith, eq-eqb, eqb-true}
use Rattle.std.proofs.lemmas.List.{ext_get_or}
use Rattle.fields.specs.Laws.{Meaning, FieldLaws}
use Rattle.algebra.proofs.Ring.{same_of_sum}
use Rattle.algebra.proofs.Weights.{sums_of_error}
use Rattle.algebra.proofs.FirstRoot.{light_from}
use Rattle.algebra.proofs.Places.{syndrome as theirs}
use Rattle.algebra.proofs.Elements.{el_same, el_zero}
use Rattle.algebra.specs.Lines.{syndrome}
use Rattle.codes.specs.Meaning.{differ, Below, Word}
use Rattle.reed_solomon.specs.Words.{zeros, reed_solomon_code}
use Rattle.reed_solomon.specs.Theorems.{Distance}
use Rattle.algebra.proofs.Numbers.{K, ⟨◌⟩, at}
use Rattle.algebra.proofs.Lines.{place, el_syndrome, places_apart, places_nonzero}
use Rattle.reed_solomon.proofs.Zeros.{zeros_each}
use Rattle.reed_solomon.proofs.Differ.{error, weight_differ, below_at}

pub chosen : (a b : Bool) → cond a b false ≡ true → (a ≡ true) × (b ≡ true)
chosen true b h = (refl, h)
chosen false b h = let z : ◌≡◌ {A = ℕ} 0 1 = cc in absurd (omega arith)

module _ (m : Meaning) (t : FieldLaws m) where
  -- a codeword's syndromes, in the theory
  pub no_sums : (w : List ℕ) (b c : ℕ) → zeros (λ i. syndrome m w (b + i)) c ≡ true → (k : ℕ) → k < c → theirs (K m t) (length w) (place m t (length w)) (at m t w) (b + k) ≡ (K m t).zero
  no_sums w b c z k l = sym (el_syndrome m t w (b + k)) ∙ ap (⟨◌⟩ m t) (zeros_each (λ i. syndrome m w (b + i)) c z k l) ∙ el_zero m t

  pub close_same : (b c : ℕ) (v w : List ℕ) → length v ≡ length w → length v < m.q → Below m.q v → Below m.q w →
      zeros (λ i. syndrome m v (b + i)) c ≡ true → zeros (λ i. syndrome m w (b + i)) c ≡ true → differ v w ≤ c → v ≡ w
  close_same b c v w e fits bv bw zv zw near =
      ext_get_or 0 v w e (λ i l. el_same m t _ _ (below_at m.q v bv i (omega arith)) (below_at m.q w bw i (omega arith)) (same i (omega arith)))
    where
      zw' : (k : ℕ) → k < c → theirs (K m t) (length v) (place m t (length v)) (at m t w) (b + k) ≡ (K m t).zero
      zw' k l = subst (λ (n : ℕ). theirs (K m t) n (place m t n) (at m t w) (b + k) ≡ (K m t).zero) (sym e) (no_sums w b c zw k l)

      same : (i : ℕ) → i < length v → ⟨◌⟩ m t (get_or v i 0) ≡ ⟨◌⟩ m t (get_or w i 0)
      same i l = same_of_sum (K m t) _ _ (unfold error at in
          light_from (K m t) (length v) c b (place m t (length v)) (error m t v w) (places_apart m t (length v) fits) (places_nonzero m t (length v) fits)
          (λ k l. sums_of_error (K m t) (length v) (place m t (length v)) (at m t v) (at m t w) (b + k) (no_sums v b c zv k l) ∙ zw' k l)
          (let h = weight_differ m t v w e bv bw in omega arith) i l)

module _ (m : Meaning) (n k b q : ℕ) where
  -- n elements whose n - k syndromes are 0 are a codeword, under numbers for the field
  pub word_to : (w : List ℕ) → length w ≡ n → q ≡ m.q → Below m.q w → zeros (λ i. syndrome m w (b + i)) (n - k) ≡ true → Word (reed_solomon_code m n k b q) w
  word_to w l e bw z = record {
    long = l;
    below = bw;
    is = ap (λ a. cond a (zeros (λ i. syndrome m w (b + i)) (n - k)) false) (eq-eqb q m.q e) ∙ z;
  }

  -- and the other way round
  pub word_from : (w : List ℕ) → Word (reed_solomon_code m n k b q) w → (q ≡ m.q) × (zeros (λ i. syndrome m w (b + i)) (n - k) ≡ true)
  word_from w h =
      let c = chosen (eqb q m.q) (zeros (λ i. syndrome m w (b + i)) (n - k)) h.is in
      (eqb-true q m.q c.0, c.1)

pub apart : Distance
apart m t n k b q within v w x y near =
    let vs = word_from m n k b q v x in
    let ws = word_from m n k b q w y in
    let lv = x.long in
    let lw = y.long in
    let fits = within.fits in
    close_same m t b (n - k) v w (lv ∙ sym lw) (let e = vs.0 in omega arith) x.below y.below vs.1 ws.1 near
