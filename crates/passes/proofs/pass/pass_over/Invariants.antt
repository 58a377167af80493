use Rattle.std.proofs.Common.{◌≡◌, ◌*◌, ◌≤◌}
use Rattle.passes.specs.Steps.{lines_of, sofar, MadeTo}
use Rattle.passes.proofs.pass.pass_over.Given as goal

abbrev pub invariant-loop-i : goal.invariant-loop-i
invariant-loop-i g l =
    let m = g.C.LineCode.meaning l.initial.code in
    record {
      same : g.C.LineCode.meaning l.code ≡ m;
      few : l.effort.decodings ≤ l.i;
      low : l.effort.changes ≤ 255 * l.i;
      made : MadeTo l.i m (lines_of l.kind m.size l.n) l.n (sofar l.kind l.initial.lines l.initial.frame 0 0 (g.C.LineCode.count l.initial.code))
          (sofar l.kind l.lines l.frame l.effort.decodings l.effort.changes (g.C.LineCode.count l.code));
    }
