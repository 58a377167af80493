use Rattle.codes.proofs.Nearest.{recovers}
use Rattle.codes.proofs.recovery.recover.Goals as goal

pub returns : goal.returns
returns g c = record {
  same = c.decode.ensures.same;
  answer = c.decode.ensures.answer;
  recovers = recovers _ (g.met.L.LineCode.lawful c.args.code.now) _ _ _ _ c.decode.result c.decode.ensures.answer;
}
