use Rattle.std.proofs.Common.{◌≡◌, ℕ, ◌<◌, length, get_or, take, sym, ap, ◌∙◌, subst, arith}
use Rattle.solving.specs.Sequences.{terms}
use Rattle.errors.proofs.Decided.{sums_elements}
use Rattle.correcting.proofs.Fronts.{front_length, front_at}
use Rattle.correcting.proofs.received.WrongPlaces.corrected.Goals as goal

pub error_value-requires-clause-elements : goal.error_value-requires-clause-elements
error_value-requires-clause-elements g c =
    let m = g.F.Field.meaning in
    let x = c.args.self.now.received.now in
    let s = terms x.syndromes.now in
    let n = length c.args.self.now.places.now in
    let is : c.copy_from_slice.new.self ≡ take n s = c.copy_from_slice.ensures.after ∙ ap (take n) c.terms.ensures.value in
    let long = front_length _ s n is c.args.self.now.enough in
    λ k l. subst (λ (a : ℕ). a < m.q) (sym (front_at _ s n k is (omega arith)))
    (sums_elements m g.met.F.Field.laws x.code.now.numbers x.line.now x.table.now s x.known k (omega (arith, c.args.self.now.enough)))

pub returns : goal.returns
returns g c =
    let m = g.F.Field.meaning in
    let x = c.args.self.now.received.now in
    let s = terms x.syndromes.now in
    let n = length c.args.self.now.places.now in
    let is : c.copy_from_slice.new.self ≡ take n s = c.copy_from_slice.ensures.after ∙ ap (take n) c.terms.ensures.value in
    let long = front_length _ s n is c.args.self.now.enough in
    let hx : get_or c.args.self.now.places.now c.args.j 0 < length x.line.now = let h = c.args.self.now.inside c.args.j c.requires in let e = x.known.wide in omega arith in
    let sum-is = c.sum.ensures.value (x.known.elements _ hx) c.error_value.ensures.element in
    λ Y h. sum-is ∙ ap (m.add _) (c.error_value.ensures.value Y (record {
      apart = h.apart;
      some = h.some;
      elements = h.elements;
      terms = λ k l. front_at _ s n k is (omega arith) ∙ h.terms k (omega (arith, c.args.self.now.enough));
    }))
