use Rattle.std.proofs.Common.{replicate, refl}
use Rattle.std.proofs.lemmas.List.{get_or-replicate}
use Rattle.solving.proofs.recurrence.Recurrence.start.Goals as goal

pub returns : goal.returns
returns c =
    record {
      zeros = replicate 34 0;
      cleared = λ k l. get_or-replicate 34 k 0 0 l;
      locator = c.from.ensures.0;
      previous = c.from-2.ensures.0;
      room = c.from.ensures.1;
      length = refl;
      longer = refl;
      scale = refl;
    }
