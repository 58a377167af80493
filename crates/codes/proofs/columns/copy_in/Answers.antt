use Rattle.std.proofs.Common.{◌+◌, ◌*◌, ◌<◌, ◌≢◌, length, sym, refl, arith, get_or-set_other, get_or-set_same, below_more}
use Rattle.codes.proofs.Places.{place_lt, column_is, columns_same, same_row, same_column}
use Rattle.codes.proofs.columns.copy_in.Goals as goal

pub bounds-frame-i : goal.bounds-frame-i
bounds-frame-i c =
    let p = place_lt (length c.args.line.now) c.loop-i.i c.args.width c.args.j (omega arith) c.requires.within in
    omega (arith, c.requires.whole)

pub loop-i-preserved : goal.loop-i-preserved
loop-i-preserved c =
    let w = c.args.width in
    let i = c.loop-i.i in
    let j = c.args.j in (
      below_more _ _
          (λ k h.
          let ne : k * w + j ≢ i * w + j = λ e. let q = same_row w k j i j c.requires.within c.requires.within e in omega arith in
          rw get_or-set_other (c.loop-i.invariant.0 k h))
          (let p = place_lt (length c.args.line.now) i w j (omega arith) c.requires.within in
          let lt : i * w + j < length c.loop-i.frame = omega (arith, c.requires.whole) in
          rw get_or-set_same),
      λ k b h x.
          let ne : k * w + b ≢ i * w + j = λ e. x (same_column w k b i j h c.requires.within e) in
          rw get_or-set_other (c.loop-i.invariant.1 k b h x),
    )

pub returns : goal.returns
returns c =
    let w = c.args.width in
    let n = length c.args.line.now in
    record {
      long = c.loop-i.auto.frame;
      here = sym (column_is w n c.loop-i.frame c.args.j c.args.line.now refl (λ k h. sym (c.loop-i.invariant.0 k (omega arith))));
      others = λ i h x. columns_same w n c.loop-i.frame c.args.frame.now i (λ k l. c.loop-i.invariant.1 k i h x);
    }
