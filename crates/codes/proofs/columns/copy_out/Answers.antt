use Rattle.std.proofs.Common.{◌<◌, ◌≢◌, length, arith, get_or-set_other, get_or-set_same, below_more}
use Rattle.codes.proofs.Places.{place_lt, column_is}
use Rattle.codes.proofs.columns.copy_out.Goals as goal

pub bounds-frame-i : goal.bounds-frame-i
bounds-frame-i c =
    let p = place_lt (length c.args.line.now) c.loop-i.i c.args.width c.args.j (omega arith) c.requires.within in
    omega (arith, c.requires.whole)

pub loop-i-preserved : goal.loop-i-preserved
loop-i-preserved c =
    below_more _ _
    (λ k h. let ne : k ≢ c.loop-i.i = omega arith in rw get_or-set_other (c.loop-i.invariant k h))
    (let lt : c.loop-i.i < length c.loop-i.line = omega arith in rw get_or-set_same)

pub returns : goal.returns
returns c =
    column_is c.args.width (length c.args.line.now) c.args.frame.now c.args.j c.loop-i.line c.loop-i.auto.line
    (λ k h. c.loop-i.invariant k (omega arith))
