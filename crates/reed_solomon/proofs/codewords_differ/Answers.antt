use Rattle.reed_solomon.proofs.Apart.{apart}
use Rattle.reed_solomon.proofs.codewords_differ.Goals as goal

pub returns : goal.returns
returns c = apart
