use Rattle.std.proofs.Common.{◌≡◌, ◌+◌, ◌-◌, length, drop, get_or, false, ap, ◌∙◌, arith, length-drop}
use Rattle.std.proofs.lemmas.List.{get_or-drop, take_all}
use Rattle.scanning.proofs.listing.first_from.Goals as goal

pub returns-clause-before : goal.returns-clause-before
returns-clause-before c = λ k low high e.
    let marks = c.args.marks.now in
    let from = c.args.from in
    let rest = take_all (length marks - from) (drop from marks) (simp length-drop (omega arith)) in
    let at : from + (k - from) ≡ k = omega arith in
    c.first.ensures.before (k - from) (omega arith)
    (ap (λ l. get_or l (k - from) false) rest ∙ get_or-drop from marks (k - from) false ∙ ap (λ x. get_or marks x false) at ∙ e)
