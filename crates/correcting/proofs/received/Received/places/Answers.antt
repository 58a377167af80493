use Rattle.std.proofs.Common.{◌≡◌, ℕ, true, length, sym, ap, ◌∙◌, subst, Option, None, arith, rules}
use Rattle.arrayvec.specs.ArrayVec.{ArrayVec, array_vec_len}
use Rattle.solving.specs.Sequences.{terms, coefficients}
use Rattle.solving.proofs.Parts.{coefficients_long}
use Rattle.errors.specs.Places.{root_at, count}
use Rattle.correcting.specs.Corrections.{Finds}
use Rattle.errors.proofs.Decided.{table_elements, table_positive}
use Rattle.errors.proofs.Listed.{count_past}
use Rattle.correcting.proofs.SoFar.{none_yet, one_more, no_more}
use Rattle.correcting.proofs.received.Received.places.Goals.{then-vanishes+in_ok-ok, else-vanishes}
use Rattle.correcting.proofs.received.Received.places.Goals as goal

pub loop-place-init : goal.loop-place-init
loop-place-init g c = none_yet _ _ c.new-places.ensures

pub vanishes-requires-clause-nonzero : goal.vanishes-requires-clause-nonzero
vanishes-requires-clause-nonzero g c =
    let x = c.args.self.now in
    table_positive g.F.Field.meaning g.met.F.Field.laws x.code.now.numbers x.line.now x.table.now (terms x.syndromes.now) x.known c.loop-place.place (omega arith)

pub vanishes-requires-clause-element : goal.vanishes-requires-clause-element
vanishes-requires-clause-element g c =
    let x = c.args.self.now in
    table_elements g.F.Field.meaning g.met.F.Field.laws x.code.now.numbers x.line.now x.table.now (terms x.syndromes.now) x.known c.loop-place.place (omega arith)

pub returns-in_err-ok : goal.returns-in_err-ok
unfolding root_at
returns-in_err-ok g c =
    let f = root_at g.F.Field.meaning c.coefficients-coefficients.result.now c.args.self.now.table.now in
    let k = c.loop-place.place in
    let h : f k ≡ true = sym c.vanishes.ensures ∙ c.if-vanishes.true in
    let more = count_past f (length c.args.self.now.table.now) k h c.loop-place-test.true in
    let few = c.args.polynomial.now.few in
    let long = coefficients_long c.args.polynomial.now in
    let is = ap (λ cs. count (root_at g.F.Field.meaning cs c.args.self.now.table.now) (length c.args.self.now.table.now)) c.coefficients-coefficients.ensures.value in
    let full : array_vec_len c.loop-place.places ≡ 16 = search rules in
    let none : Finds g.F.Field.meaning (coefficients c.args.polynomial.now) c.args.self.now.table.now None = λ e. omega (arith, c.loop-place.invariant.many) in
    subst (λ (r : Option (ArrayVec ℕ)). Finds g.F.Field.meaning (coefficients c.args.polynomial.now) c.args.self.now.table.now r) (sym c.from_residual.ensures) none

pub loop-place-preserved : goal.loop-place-preserved
unfolding root_at
loop-place-preserved g c =
    let f = root_at g.F.Field.meaning c.coefficients-coefficients.result.now c.args.self.now.table.now in
    let l = c.loop-place in
    elim c.if-vanishes.branch [
      | then-vanishes+in_ok-ok w ↦
          one_more f l.place l.places.items _ (ap (λ (v : ArrayVec ℕ). v.items) w.places-is ∙ search rules) (sym c.vanishes.ensures ∙ w.if-vanishes.true) l.invariant
      | else-vanishes w ↦
          no_more f l.place l.places.items _ (ap (λ (v : ArrayVec ℕ). v.items) w.places-is) (sym c.vanishes.ensures ∙ w.if-vanishes.false) l.invariant
    ]
