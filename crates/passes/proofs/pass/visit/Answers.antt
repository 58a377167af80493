use Rattle.std.proofs.Common.{◌≡◌, ◌+◌, ◌-◌, ◌*◌, length, sym, ap, ◌∙◌, arith}
use Rattle.passes.proofs.Turns.{part_long, row_put}
use Rattle.passes.proofs.pass.visit.Goals as goal

pub returns-in-Row-clause-frame : goal.returns-in-Row-clause-frame
returns-in-Row-clause-frame g c =
    let w = length c.args.line.now in
    let i = c.args.i in
    let size : length c.args.frame.now ≡ c.args.n * w = c.requires.size ∙ ap (λ z. c.args.n * z) (sym c.requires.line) in
    row_put c.args.kind (g.C.LineCode.meaning c.args.code.now).size w c.args.n i (i * w + w - i * w) c.args.frame.now c.visit_line.new.line c.in-Row.is c.requires.line (omega arith) c.requires.size c.requires.within
    (c.visit_line.auto.line ∙ part_long c.args.n i w c.args.frame.now c.requires.within size ∙ omega arith)
