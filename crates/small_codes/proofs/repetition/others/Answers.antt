use Rattle.std.proofs.Common.{ℕ, cond, eqb, not, ◌∙◌, sym, arith, rules, tests}
use Rattle.std.proofs.lemmas.Iterator.{YieldsList-from_slice, YieldsList-from_map}
use Rattle.std.proofs.lemmas.Iterator.Consumers.{sum_by_from_yields_List, fits_by_from_yields_list}
use Rattle.std.proofs.lemmas.List.Sums.{count_by-le-length}
use Rattle.small_codes.specs.Majority.{unlike_counts}
use Rattle.small_codes.proofs.repetition.others.Goals as goal

abbrev one_if : ℕ → ℕ → ℕ
one_if symbol y = cond (not (eqb y symbol)) 1 0

pub sum-requires-clause-fits : goal.sum-requires-clause-fits
sum-requires-clause-fits c =
    let line = c.args.line.now in
    let one = one_if c.args.symbol in
    fits_by_from_yields_list one line c.map.result _
    (YieldsList-from_map _ one (YieldsList-from_slice line (cc)) c.map.ensures.closure (λ x r q k. search (rules, tests)))
    (omega (arith, count_by-le-length (λ y. not (eqb y c.args.symbol)) line, c.iter.ensures.bound))

pub returns-clause-value : goal.returns-clause-value
returns-clause-value c =
    let line = c.args.line.now in
    let one = one_if c.args.symbol in
    sum_by_from_yields_List one line c.map.result _ c.sum.ensures.ran
    (YieldsList-from_map _ one (YieldsList-from_slice line (cc)) c.map.ensures.closure (λ x r q k. search (rules, tests)))
    ∙ sym (unlike_counts c.args.symbol line)

pub returns-clause-most : goal.returns-clause-most
returns-clause-most c =
    let line = c.args.line.now in
    omega (arith, returns-clause-value c, unlike_counts c.args.symbol line, count_by-le-length (λ y. not (eqb y c.args.symbol)) line)
