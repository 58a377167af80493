use Rattle.std.proofs.Common.{◌≡◌, length, take, min, ap, ◌∙◌, arith, length-take}
use Rattle.std.proofs.lemmas.List.{take_min}
use Rattle.solving.proofs.Parts.{front}
use Rattle.solving.proofs.sequence.Syndromes.new.Goals as goal

pub returns : goal.returns
returns c =
    let ts = c.args.terms.now in
    let n = c.min-count.result in
    let count : n ≡ min 32 (length ts) = omega (arith, c.min-count.ensures) in
    front _ (take n ts) _ n c.copy_from_slice.ensures.after (omega (arith, count, length-take n ts))
    ∙ ap (λ k. take k ts) count ∙ take_min 32 ts
