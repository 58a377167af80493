-- A redelivery that is accepted.
use Rattle.std.proofs.Common.{◌≡◌, ℕ, ◌+◌, ◌*◌, ◌<◌, true, eqb, List, length, Ok, None, Option, sym, refl, subst, ltb, eq-eqb}
use borrow.Author.Tests.{ltb-true}
use Rattle.codes.specs.Meaning.{Meaning, differ}
use Rattle.job_rules.specs.declared.records.Kind.TheVariants.{Row}
use Rattle.job_rules.specs.declared.records.Lines.{Lines}
use Rattle.job_rules.specs.declared.records.Counts.{Counts}
use Rattle.job_rules.specs.declared.answers.Refusal.{Refusal}
use Rattle.job_rules.specs.declared.answers.Outcome.TheVariants.{Redelivered}
use Rattle.job_rules.specs.Questions.{redeliver, refusal, most_calls}
use Rattle.job_rules.specs.Lines.{row}
use Rattle.job_rules.specs.Passes.{State}
use Rattle.job_rules.specs.Calls.{Delivery, Redelivery, called, Does, Does'}
use Rattle.job_rules.proofs.Cut.{delivery_cut}
use Rattle.passes.specs.Steps.{sofar}
use Rattle.jobs.proofs.Passing.{state_of}

-- the bytes are those that the call was given, and the questions were answered yes
pub redelivered : (p q : Meaning) (h i n : ℕ) (l l' : Lines) (frame frame' new : List ℕ) (counts : Counts) (x y : ℕ) →
    h ≡ q.size → eqb (length frame) (q.size * p.size) ≡ true → ltb i q.size ≡ true → length new ≡ p.size → ltb counts.calls most_calls ≡ true →
    Delivery (length new) h i new (sofar Row l frame 0 0 0).at (sofar Row l' frame' 0 0 0).at → n ≡ differ (row (length new) frame i) new →
    Does p q (redeliver i new) (state_of p q l frame counts x y) (Ok (Redelivered n))
    (state_of p q l' frame' (record { calls = counts.calls + 1; passes = counts.passes; decodings = counts.decodings; redelivered = counts.redelivered + n }) x y)
redelivered p q h i n l l' frame frame' new counts x y eh fits exists long few d changes =
    let s = state_of p q l frame counts x y in
    let t : ℕ → State = λ z. state_of p q l' frame' (record { calls = counts.calls + 1; passes = counts.passes; decodings = counts.decodings; redelivered = counts.redelivered + z }) x y in
    let d' = rw (long, eh) at d in
    let changes' = rw long at changes in
    let k = differ (row p.size frame i) new in
    let within' : i < q.size = ltb-true i q.size exists in
    let three = eq-eqb (length new) p.size long in
    let none : refusal p q (redeliver i new) frame counts.calls ≡ None = rw (fits, exists, three, few) in
    let done : Redelivery p q i new (called s) (t k) = record {
      delivers = delivery_cut q.size p.size p.size q.size i new (sofar Row l frame 0 0 0).at (sofar Row l' frame' 0 0 0).at within' d';
      counts = refl;
      row_count = refl;
      column_count = refl;
    } in
    let accepted = subst (λ (o : Option Refusal). Does' o p q (redeliver i new) s (Ok (Redelivered k)) (t k)) (sym none) (done, refl) in
    subst (λ (z : ℕ). Does p q (redeliver i new) s (Ok (Redelivered z)) (t z)) (sym changes') accepted
