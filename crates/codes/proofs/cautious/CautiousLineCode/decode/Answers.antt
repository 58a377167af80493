use Rattle.std.proofs.Common.{◌≡◌, ℕ, ◌<◌, min, ap, ◌∙◌, subst, arith, Option, Some}
use Rattle.codes.specs.Answers.{Decodes, Mends}
use Rattle.codes.specs.Cautious.{cautious}
use Rattle.codes.proofs.Nearest.{beyond}
use Rattle.codes.proofs.cautious.CautiousLineCode.decode.Goals as goal

pub returns-then-places-reach : goal.returns-then-places-reach
returns-then-places-reach g c =
    let m = g.L.LineCode.meaning c.args.self.now.code in
    let law = g.met.L.LineCode.lawful c.args.self.now.code in
    let s = c.args.self.now.reach in
    let places = c.in-Some.places in
    let e = c.in_ok-answer.ensures in
    let is : c.in_ok-answer.answer ≡ Some places = c.in-Some.is in
    let d : Mends m c.args.line.now c.decode.new.line places =
    subst (λ (a : Option ℕ). Decodes m c.args.line.now c.decode.new.line a) is e.answer.0 in
    let far : min s m.reach < places = omega (arith, c.reach-reach.ensures, c.if-places-reach.true) in
    record {
      same = ap (λ n. cautious n s) c.decode.ensures.same;
      answer = (
        record {
          long = d.long;
          same = c.copy_from_slice-then-places-reach.ensures.after ∙ c.copy_from_slice.ensures.after;
          far = beyond m law s c.args.line.now c.decode.new.line places d far;
        },
        e.answer.1,
      );
    }
