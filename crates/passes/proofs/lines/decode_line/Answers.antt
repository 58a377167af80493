use Rattle.std.proofs.Common.{◌≡◌, Ok, None, refl, sym, ap, ◌∙◌}
use Rattle.codes.specs.Meaning.{differ}
use Rattle.job_rules.proofs.Differ.{differ_same}
use Rattle.passes.proofs.lines.decode_line.Goals as goal

pub returns-in-None-clause-decodes : goal.returns-in-None-clause-decodes
returns-in-None-clause-decodes g c =
    let one = c.args.line.now in
    let answer = rw (c.unwrap.ensures ∙ ap Ok c.in-None.is) at c.decode.ensures.answer in
    let none : 0 ≡ differ one c.decode.new.line = sym (ap (differ one) answer.0.same ∙ differ_same one) in
    record { answer = None; decodes = answer.0; mark = refl; once = refl; changes = none; count = answer.1 }
