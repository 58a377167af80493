use Rattle.std.proofs.Common.{◌≡◌, List, [], ◌∷◌, ◌++◌, length, sym, ap, ◌∙◌, length-set}
use Rattle.guard.specs.Undo.{undo}
use Rattle.guard.specs.declared.change.Change.{Change}
use Rattle.guard.proofs.Undone.{undo_last, others_inside}
use Rattle.guard.proofs.Guard.drop.Goals as goal

pub loop-change-preserved : goal.loop-change-preserved
loop-change-preserved c =
    let x = c.in-Some.change in
    let xs = c.pop.new.self.items in
    let l = c.loop-change in
    let e : l.changes.items ≡ xs ++ (x ∷ []) = c.in-Some.ensures.items in (
      sym (undo_last xs x l.line) ∙ ap (λ (ys : List Change). undo ys l.line) (sym e) ∙ l.invariant.0,
      others_inside xs l.changes.items x (length l.line) _ e (sym (length-set l.line x.place x.old)) l.invariant.1,
    )
