use Rattle.std.proofs.Common.{ℕ, Bool, cond, arith, rules, tests}
use Rattle.std.proofs.lemmas.Iterator.{YieldsList-from_slice, YieldsList-from_map}
use Rattle.std.proofs.lemmas.Iterator.Consumers.{sum_by_from_yields_List, fits_by_from_yields_list}
use Rattle.std.proofs.lemmas.List.Sums.{count_by-le-length}
use Rattle.scanning.proofs.listing.count.Goals as goal

abbrev one_if : Bool → ℕ
one_if m = cond m 1 0

pub sum-requires-clause-fits : goal.sum-requires-clause-fits
sum-requires-clause-fits c =
    let marks = c.args.marks.now in
    fits_by_from_yields_list one_if marks c.map.result _
    (YieldsList-from_map _ one_if (YieldsList-from_slice marks (cc)) c.map.ensures.closure (λ x r q k. search (rules, tests)))
    (omega (arith, count_by-le-length (λ (m : Bool). m) marks, c.iter.ensures.bound))

pub returns : goal.returns
returns c =
    let marks = c.args.marks.now in
    sum_by_from_yields_List one_if marks c.map.result _ c.sum.ensures.ran
    (YieldsList-from_map _ one_if (YieldsList-from_slice marks (cc)) c.map.ensures.closure (λ x r q k. search (rules, tests)))
