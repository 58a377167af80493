use Rattle.std.proofs.Common.{refl, ◌∙◌, arith}
use Rattle.passes.proofs.Turning.{made_none}
use Rattle.passes.proofs.Turns.{turn_more}
use Rattle.passes.proofs.pass.pass_over.Goals as goal

pub loop-i-init : goal.loop-i-init
loop-i-init g c =
    let zero = c.default-effort.ensures in
    record { same = refl; few = omega (arith, zero.0); low = omega (arith, zero.1); made = rw (zero.0, zero.1) (made_none _ _ _ _) }

pub loop-i-preserved : goal.loop-i-preserved
loop-i-preserved g c =
    let u = c.loop-i.invariant in
    let v = c.visit-visited.ensures in
    record {
      same = v.same ∙ u.same;
      few = omega (arith, u.few, v.once);
      low = omega (arith, u.low, v.low);
      made = turn_more c.args.kind (g.C.LineCode.meaning c.args.code.now) (g.C.LineCode.meaning c.loop-i.code) c.args.n c.loop-i.i _ c.loop-i.frame c.visit-visited.new.frame c.loop-i.lines c.visit-visited.new.lines
          c.loop-i.effort.decodings c.loop-i.effort.changes _ (g.C.LineCode.count c.visit-visited.new.code) c.visit-visited.result
          u.same c.requires.size c.loop-i-test.true v.table c.requires.few v.frame u.made v.visited;
    }
