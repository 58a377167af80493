-- Tallies and changed places: what a decoding adds to them.
use Rattle.std.proofs.Common.{◌≡◌, ℕ, zero, suc, ◌+◌, ◌*◌, ◌<◌, ◌≤◌, List, length, get_or, sum, sym, refl, ap, ◌∙◌, subst, suc-mul, arith, Option, Some, None}
use lib.ListN.{get_or-map}
use Rattle.std.proofs.lemmas.List.Sums.{sum_by-set, sum-map}
use Rattle.std.proofs.lemmas.List.{get_or-set_same, get_or-set_other}
use Rattle.codes.specs.Meaning.{Meaning, differ}
use Rattle.codes.specs.Answers.{Decodes}
use Rattle.job_rules.specs.declared.records.Standing.{Standing}
use Rattle.job_rules.specs.declared.records.Standing.TheVariants.{Open, Sound, Stuck as Fast}
use Rattle.job_rules.specs.declared.records.Record.{Record}
use Rattle.job_rules.specs.Records.{fresh, opened, tallies}
use Rattle.job_rules.specs.Lines.{decided, where_differ, Seen, Decoding, InOrder}
use Rattle.job_rules.specs.Passes.{Progress, Turn, turn}
use Rattle.job_rules.proofs.Differ.{differ_same}
use Rattle.job_rules.proofs.Places.{wd_keeps}
use Rattle.job_rules.proofs.Lengths.{turns_lengths}

-- opening lines changes no tally
pub wd_tallies : (xs ys : List ℕ) (rs : List Record) → tallies (where_differ opened xs ys rs) ≡ tallies rs
wd_tallies xs ys rs =
    let f : Record → ℕ = λ r. r.tally in
    sym (sum-map f (where_differ opened xs ys rs)) ∙ ap sum (wd_keeps opened f (λ r. refl) xs ys rs) ∙ sum-map f rs

pub wd_tally : (xs ys : List ℕ) (rs : List Record) (k : ℕ) → (get_or (where_differ opened xs ys rs) k fresh).tally ≡ (get_or rs k fresh).tally
wd_tally xs ys rs k =
    let f : Record → ℕ = λ r. r.tally in
    sym (get_or-map f (where_differ opened xs ys rs) k fresh) ∙ ap (λ x. get_or x k 0) (wd_keeps opened f (λ r. refl) xs ys rs) ∙ get_or-map f rs k fresh

-- what the record gains is what the line changed
decided_tally : (m : Meaning) (r : Record) (one two : List ℕ) (a : Option ℕ) → Decodes m one two a → (decided r a).tally ≡ r.tally + differ one two
decided_tally m r one two (Some k) d = ap (λ x. r.tally + x) (sym d.changes)
decided_tally m r one two None d = omega (arith, ap (differ one) d.same, differ_same one)

pub decided_near : (m : Meaning) (one two : List ℕ) (a : Option ℕ) → Decodes m one two a → differ one two ≤ m.reach
decided_near m one two (Some k) d = omega (arith, d.changes, d.near)
decided_near m one two None d = omega (arith, ap (differ one) d.same, differ_same one)

module _ (m : Meaning) (view : List ℕ → ℕ → List ℕ) (n i : ℕ) (s t : Seen) (d : Decoding m view n i s t) where
  abbrev gain : ℕ
  gain = differ (view s.frame i) (view t.frame i)

  same_gain : differ (view s.frame i) d.line' ≡ gain
  same_gain = ap (differ (view s.frame i)) (sym d.frame.here)

  record_gain : (decided (get_or s.on i fresh) d.answer).tally ≡ (get_or s.on i fresh).tally + gain
  record_gain = decided_tally m (get_or s.on i fresh) (view s.frame i) d.line' d.answer d.decodes ∙ ap (λ x. (get_or s.on i fresh).tally + x) same_gain

  pub own_tally : i < length s.on → (get_or t.on i fresh).tally ≡ (get_or s.on i fresh).tally + gain
  own_tally l = ap (λ x. (get_or x i fresh).tally) d.mark ∙ ap (λ x. x.tally) (get_or-set_same s.on i (decided (get_or s.on i fresh) d.answer) fresh l) ∙ record_gain

  pub other_tally : (k : ℕ) → (k ≡ i → ⊥) → (get_or t.on k fresh).tally ≡ (get_or s.on k fresh).tally
  other_tally k ne = ap (λ x. (get_or x k fresh).tally) d.mark ∙ ap (λ x. x.tally) (get_or-set_other s.on i k (decided (get_or s.on i fresh) d.answer) fresh ne)

  pub across_tally : (k : ℕ) → (get_or t.across k fresh).tally ≡ (get_or s.across k fresh).tally
  across_tally k = ap (λ x. (get_or x k fresh).tally) d.cross ∙ wd_tally (view s.frame i) d.line' s.across k

  decoding_sum : i < length s.on → tallies t.on + tallies t.across ≡ tallies s.on + tallies s.across + gain
  decoding_sum l =
      let a = sum_by-set (λ r. r.tally) s.on i (decided (get_or s.on i fresh) d.answer) fresh l in
      let b = ap tallies d.mark in
      let c = ap tallies d.cross ∙ wd_tallies (view s.frame i) d.line' s.across in
      omega (arith, a, b, c, record_gain)

  gain_near : gain ≤ m.reach
  gain_near = omega (arith, decided_near m (view s.frame i) d.line' d.answer d.decodes, same_gain)

abbrev pub sum_of : Seen → ℕ
sum_of s = tallies s.on + tallies s.across

-- the sum of tallies and the changed places grow alike; so many lines take so many decodings and changes at most
pub record Keeping (m : Meaning) (k : ℕ) (s t : Progress) : Type 0 where
  pub sums : sum_of t.at + s.changes ≡ sum_of s.at + t.changes
  pub few : t.decodings ≤ s.decodings + k
  pub low : t.changes ≤ s.changes + k * m.reach
  pub rest : (j : ℕ) → k ≤ j → get_or t.at.on j fresh ≡ get_or s.at.on j fresh

module _ (m : Meaning) (view : List ℕ → ℕ → List ℕ) (n : ℕ) where
  pub none_kept : (k : ℕ) (s t : Progress) → t ≡ s → Keeping m k s t
  none_kept k s t e = record {
    sums = omega (arith, ap (λ x. sum_of x.at) e, ap (λ x. x.changes) e);
    few = omega (arith, ap (λ x. x.decodings) e);
    low = omega (arith, ap (λ x. x.changes) e);
    rest = λ j l. ap (λ x. get_or x.at.on j fresh) e;
  }

  skip_kept : (k : ℕ) (s v t : Progress) → Keeping m k s v → t ≡ v → Keeping m (suc k) s t
  skip_kept k s v t a e = subst (λ (x : Progress). Keeping m (suc k) s x) (sym e) (record {
    sums = a.sums;
    few = omega (arith, a.few);
    low = omega (arith, a.low, suc-mul k m.reach);
    rest = λ j l. a.rest j (omega arith);
  })

  pub turn_kept : (k : ℕ) (s v t : Progress) (st : Standing) → k < length v.at.on → Keeping m k s v → Turn st m view n k v t → Keeping m (suc k) s t
  turn_kept k s v t Open l a h =
      let d = h.line in
      record {
        sums = omega (arith, a.sums, decoding_sum m view n k v.at t.at d l, h.changes);
        few = omega (arith, a.few, h.decodings);
        low = omega (arith, a.low, h.changes, gain_near m view n k v.at t.at d, suc-mul k m.reach);
        rest = λ j le.
            let ne : j ≡ k → ⊥ = λ e. absurd (omega arith) in
            ap (λ x. get_or x j fresh) d.mark ∙ get_or-set_other v.at.on k j (decided (get_or v.at.on k fresh) d.answer) fresh ne ∙ a.rest j (omega arith);
      }
  turn_kept k s v t Sound l a h = skip_kept k s v t a h
  turn_kept k s v t Fast l a h = skip_kept k s v t a h

  pub turns_kept : (k : ℕ) (s t : Progress) → k ≤ length s.at.on → InOrder (turn m view n) k s t → Keeping m k s t
  unfolding InOrder
  turns_kept zero s t l h = none_kept zero s t h
  turns_kept (suc k) s t l (v, h) =
      let a = turns_kept k s v (omega arith) h.0 in
      let long = (turns_lengths m view n k s v h.0).on in
      turn_kept k s v t (get_or v.at.on k fresh).standing (omega arith) a h.1
