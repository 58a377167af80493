use Rattle.std.proofs.Common.{sym, ◌∙◌, refl, eq-eqb, eqb-true, length, ◌<◌, rules}
use Rattle.codes.proofs.Lines.{all_below}
use Rattle.small_codes.specs.Majority.{first_alike, alike_first}
use Rattle.small_codes.proofs.repetition.AllEqualRule.is_codeword.Goals as goal

pub returns-else-is_empty-clause-sound : goal.returns-else-is_empty-clause-sound
returns-else-is_empty-clause-sound c = λ h.
    let line = c.args.line.now in
    record {
      long = refl;
      below = all_below 256 line (λ i l. (c.type_inv.line i).fits);
      is = first_alike line _ (sym c.others.ensures.value ∙ eqb-true c.others.result 0 h);
    }

pub returns-else-is_empty-clause-complete : goal.returns-else-is_empty-clause-complete
returns-else-is_empty-clause-complete c = λ w.
    let some : 0 < length c.args.line.now = search rules in
    eq-eqb c.others.result 0 (c.others.ensures.value ∙ alike_first c.args.line.now some w.is)
