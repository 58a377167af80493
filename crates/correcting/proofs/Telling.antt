-- What corrections worked out from the solver's polynomial tell of a received line.
use Rattle.std.proofs.Common.{◌≡◌, ℕ, suc, ◌+◌, ◌-◌, ◌<◌, ◌≤◌, List, length, sym, ap, refl, subst, arith}
use Rattle.std.proofs.lemmas.List.{length-map}
use Rattle.fields.specs.Laws.{Meaning, FieldLaws}
use Rattle.codes.specs.Answers.{Mends}
use Rattle.reed_solomon.specs.Lines.{code_of}
use Rattle.reed_solomon.specs.declared.numbers.CodeNumbers.{CodeNumbers}
use Rattle.solving.specs.Solving.{LocatesAll}
use Rattle.errors.specs.Places.{FindsPlaces, Fixes}
use Rattle.errors.specs.Received.{Received}
use Rattle.errors.proofs.Decided.{mended, stuck_check}
use Rattle.correcting.specs.Corrections.{places_of, values_of, written, Tells}
use Rattle.correcting.specs.declared.correction.Correction.{Correction}

pub telling : (m : Meaning) (t : FieldLaws m) (n : CodeNumbers) (line table s c : List ℕ) → Received m n line table s
    → LocatesAll m s c → 0 < length c → (length c - 1) + (length c - 1) ≤ length s
    → (cs : List Correction) (places : List ℕ) → length places + 1 ≡ length c → FindsPlaces m c table places
    → places_of cs ≡ places → Fixes m n.root line table s places (values_of cs) → Tells (code_of m n) line cs
telling m t n line table s c r sol some half cs places many finds is fixes =
    let d = length c - 1 in
    let size : length c ≡ suc d = omega (arith, some) in
    let lists : FindsPlaces m c table (places_of cs) = subst (λ (xs : List ℕ). FindsPlaces m c table xs) (sym is) finds in
    let values : Fixes m n.root line table s (places_of cs) (values_of cs) =
    subst (λ (xs : List ℕ). Fixes m n.root line table s xs (values_of cs)) (sym is) fixes in
    let as_many : length (places_of cs) ≡ d = omega (arith, ap length is, many) in
    let as_long : d ≡ length cs = omega (arith, as_many, length-map cs (λ (x : Correction). x.place)) in
    record {
      inside = λ i l. let h = lists.inside i l in let w = r.wide in omega arith;
      mends = λ w. subst (λ (k : ℕ). Mends (code_of m n) line (written line cs) k) as_long
          (mended m t n line table s r c d size sol (places_of cs) (values_of cs) as_many lists values half w);
      sticks = stuck_check m t n line table s r c d size sol (places_of cs) (values_of cs) as_many lists values line refl;
    }
