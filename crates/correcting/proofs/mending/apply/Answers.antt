use Rattle.std.proofs.Common.{ℕ, List, sym, refl, ◌∙◌, subst, arith}
use Rattle.guard.specs.Guarded.{bytes}
use Rattle.correcting.specs.Corrections.{Inside, places_of, values_of}
use Rattle.errors.proofs.Patched.{patched_none}
use Rattle.correcting.proofs.Written.{wrote}
use Rattle.correcting.proofs.mending.apply.Goals as goal

pub loop-correction-init : goal.loop-correction-init
loop-correction-init g c =
    (refl, c.over-guard.ensures.count, refl, sym (patched_none (bytes c.over-guard.result) (places_of c.args.corrections.now) (values_of c.args.corrections.now)))

pub loop-correction-preserved : goal.loop-correction-preserved
loop-correction-preserved g c =
    let l = c.loop-correction in
    let r = c.over-guard.result in
    let inside : Inside (bytes r) (places_of c.args.corrections.now) =
    subst (λ (xs : List ℕ). Inside xs (places_of c.args.corrections.now)) (sym c.over-guard.ensures.line) c.requires.inside in
    let w = wrote (bytes r) c.args.corrections.now l.correction-index _ l.guard c.set.new.self c.set.result inside (omega arith) c.requires.few
    l.invariant.1 l.invariant.3 c.set.ensures.sets in
    (c.set.ensures.lender ∙ l.invariant.0, w.0, c.set.ensures.restores ∙ l.invariant.2, w.1)
