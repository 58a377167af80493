-- Tallies grow by decodings alone, and places changed are their growth.
use Rattle.std.proofs.Common.{◌≡◌, ℕ, zero, suc, ◌+◌, Bool, true, false, cond, eqb, List, map, get_or, set, sum, sym, refl, ap, ◌∙◌, inl, inr, arith}
use lib.ListN.{get_or-map}
use Rattle.std.proofs.lemmas.List.Sums.{sum-map}
use Rattle.std.proofs.lemmas.List.{map-set, set-get_or}
use Rattle.codes.specs.Meaning.{Meaning, differ}
use Rattle.job_rules.specs.declared.records.Record.{Record}
use Rattle.job_rules.specs.declared.records.Kind.{Kind}
use Rattle.job_rules.specs.declared.records.Kind.TheVariants.{Row, Column}
use Rattle.job_rules.specs.declared.answers.Effort.{Effort}
use Rattle.job_rules.specs.Records.{fresh, opened, tallies, crossing}
use Rattle.job_rules.specs.Questions.{lines}
use Rattle.job_rules.specs.Lines.{row, line, code, Seen}
use Rattle.job_rules.specs.Passes.{State, progress, no_effort, Pass}
use Rattle.job_rules.specs.Calls.{Delivery, Work, Runs, report}
use Rattle.job_rules.specs.Laws.{Shaped, TalliesGrow, ChangesAreTallies}
use Rattle.job_rules.proofs.Lengths.{pass_keeps}
use Rattle.job_rules.proofs.Whole.{table_long}
use Rattle.job_rules.proofs.Tallies.{own_tally, other_tally, across_tally, wd_tally, wd_tallies, Keeping, turns_kept}

-- a table with one line opened, unless b
abbrev reopened : Bool → ℕ → List Record → List Record
reopened b i rs = set rs i (cond b (get_or rs i fresh) (opened (get_or rs i fresh)))

keeps : (b : Bool) (r : Record) → (cond b r (opened r)).tally ≡ r.tally
keeps true r = refl
keeps false r = refl

-- opening a line if its bytes changed leaves every tally
same_tallies : (b : Bool) (i : ℕ) (rs : List Record) → map (λ r. r.tally) (reopened b i rs) ≡ map (λ r. r.tally) rs
same_tallies b i rs =
    let f : Record → ℕ = λ r. r.tally in
    map-set f rs i (cond b (get_or rs i fresh) (opened (get_or rs i fresh))) ∙ ap (set (map f rs) i) (keeps b (get_or rs i fresh) ∙ sym (get_or-map f rs i fresh)) ∙ set-get_or (map f rs) i 0

pub delivery_sum : (c r i : ℕ) (new : List ℕ) (s t : Seen) → Delivery c r i new s t → (tallies t.on ≡ tallies s.on) × (tallies t.across ≡ tallies s.across)
delivery_sum c r i new s t d =
    let f : Record → ℕ = λ r. r.tally in
    let b = eqb (differ (row c s.frame i) new) 0 in
    (ap tallies d.mark ∙ sym (sum-map f (reopened b i s.on)) ∙ ap sum (same_tallies b i s.on) ∙ sum-map f s.on, ap tallies d.cross ∙ wd_tallies (row c s.frame i) new s.across)

pub tallies_grow_lem : TalliesGrow
tallies_grow_lem = record {
  decodings = λ m view n i s t l d. record { own = own_tally m view n i s t d l; others = other_tally m view n i s t d; across = across_tally m view n i s t d };
  redeliveries = λ c r i new s t d.
      let f : Record → ℕ = λ r. r.tally in
      let b = eqb (differ (row c s.frame i) new) 0 in
      record {
        on = λ k. ap (λ x. (get_or x k fresh).tally) d.mark ∙ sym (get_or-map f (reopened b i s.on) k fresh) ∙ ap (λ x. get_or x k 0) (same_tallies b i s.on) ∙ get_or-map f s.on k fresh;
        across = λ k. ap (λ x. (get_or x k fresh).tally) d.cross ∙ wd_tally (row c s.frame i) new s.across k;
      };
}

-- what a pass makes of tallies and counts
pub pass_kept : (p q : Meaning) (kind : Kind) (s t : State) (e : Effort) → Shaped p q s → Pass p q kind s t e → Keeping (code p q kind) (lines p q kind) (progress kind s no_effort) (progress kind t e)
pass_kept p q kind s t e h d =
    turns_kept (code p q kind) (line p q kind) (lines p q kind) (lines p q kind) (progress kind s no_effort) (progress kind t e) (omega (arith, table_long p q s h kind)) d.turns

pub pass_sum : (p q : Meaning) (kind : Kind) (s t : State) (e : Effort) → Shaped p q s → Pass p q kind s t e → (report t).changes ≡ (report s).changes + e.changes
pass_sum p q Row s t e h d = omega (arith, (pass_kept p q Row s t e h d).sums)
pass_sum p q Column s t e h d = omega (arith, (pass_kept p q Column s t e h d).sums)

pub pass_shaped : (p q : Meaning) (kind : Kind) (s t : State) (e : Effort) → Shaped p q s → Pass p q kind s t e → Shaped p q t
pass_shaped p q kind s t e h d = let k = pass_keeps p q kind s t e d in record { rows = k.on ∙ h.rows; columns = k.across ∙ h.columns }

runs_sum : (p q : Meaning) (l : ℕ) (kind : Kind) (s t : State) (w : Work) → Shaped p q s → Runs p q l kind s t w → (report t).changes ≡ (report s).changes + w.changes
unfolding Runs
runs_sum p q zero kind s t w h r = omega (arith, ap (λ x. (report x).changes) r.0, ap (λ x. x.changes) r.1)
runs_sum p q (suc l) kind s t w h (inl r) = omega (arith, ap (λ x. (report x).changes) r.1, ap (λ x. x.changes) r.2)
runs_sum p q (suc l) kind s t w h (inr r) =
    let g = r.1 in
    let a = pass_sum p q kind s g.next g.effort h g.made in
    let b = runs_sum p q l (crossing kind) g.next t g.left (pass_shaped p q kind s g.next g.effort h g.made) g.rest in
    omega (arith, a, b, ap (λ x. x.changes) g.sum)

pub changes_are_tallies_lem : ChangesAreTallies
changes_are_tallies_lem = record { passes = pass_sum; runs = runs_sum }
