use Rattle.std.proofs.Common.{◌≡◌, ℕ, suc, ◌-◌, List, length, Option, sym, ◌∙◌, subst, arith}
use Rattle.arrayvec.specs.ArrayVec.{ArrayVec}
use Rattle.reed_solomon.specs.Lines.{code_of}
use Rattle.solving.specs.Sequences.{terms, coefficients}
use Rattle.solving.proofs.Parts.{coefficients_long}
use Rattle.errors.specs.Places.{Fixes}
use Rattle.errors.proofs.Decided.{stuck_unsolved, stuck_places}
use Rattle.correcting.specs.Corrections.{values_of, Offers}
use Rattle.correcting.specs.declared.correction.Correction.{Correction}
use Rattle.correcting.proofs.Telling.{telling}
use Rattle.correcting.proofs.received.Received.corrections.Goals as goal

pub returns-in_err-polynomial : goal.returns-in_err-polynomial
returns-in_err-polynomial g c =
    let m = g.F.Field.meaning in
    let x = c.args.self.now in
    subst (λ (r : Option (ArrayVec Correction)). Offers (code_of m x.code.now.numbers) x.line.now r) (sym c.from_residual.ensures)
    (stuck_unsolved m g.met.F.Field.laws x.code.now.numbers x.line.now x.table.now (terms x.syndromes.now) x.known c.in_err-polynomial.ensures.solves)

pub returns-in_err-places : goal.returns-in_err-places
returns-in_err-places g c =
    let m = g.F.Field.meaning in
    let x = c.args.self.now in
    let p = coefficients c.in_ok-polynomial.polynomial in
    let size : length p ≡ suc (length p - 1) = omega (arith, coefficients_long c.in_ok-polynomial.polynomial) in
    subst (λ (r : Option (ArrayVec Correction)). Offers (code_of m x.code.now.numbers) x.line.now r) (sym c.from_residual-in_err-places.ensures)
    (stuck_places m g.met.F.Field.laws x.code.now.numbers x.line.now x.table.now (terms x.syndromes.now) x.known p (length p - 1) size
    c.in_ok-polynomial.ensures.solves (λ e. c.in_err-places.ensures (omega arith)))

pub returns : goal.returns
returns g c =
    let m = g.F.Field.meaning in
    let x = c.args.self.now in
    let s = terms x.syndromes.now in
    let p = coefficients c.in_ok-polynomial.polynomial in
    let found = c.in_ok-places.places.items in
    let cs = c.corrections.result.items in
    let long = coefficients_long c.in_ok-polynomial.polynomial in
    let fixes : Fixes m x.code.now.numbers.root x.line.now x.table.now s found (values_of cs) =
    subst (λ (xs : List ℕ). Fixes m x.code.now.numbers.root x.line.now x.table.now s xs (values_of cs)) c.deref.ensures.0 c.corrections.ensures.values in
    telling m g.met.F.Field.laws x.code.now.numbers x.line.now x.table.now s p x.known c.in_ok-polynomial.ensures.solves (omega arith)
    (omega (arith, c.in_ok-polynomial.ensures.choice.half)) cs found c.in_ok-places.ensures.0 c.in_ok-places.ensures.1 (c.corrections.ensures.places ∙ c.deref.ensures.0) fixes
