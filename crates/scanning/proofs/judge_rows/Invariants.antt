use Rattle.std.proofs.Common.{ℕ, ◌<◌, false, get_or}
use Rattle.fields.specs.Binary.{disc}
use Rattle.codes.specs.Meaning.{Word}
use Rattle.codes.specs.Frames.{row}
use Rattle.reed_solomon.specs.Lines.{code_of}
use Rattle.scanning.specs.Judging.{Tells}
use Rattle.scanning.proofs.judge_rows.Given as goal

abbrev pub invariant-loop-i : goal.invariant-loop-i
invariant-loop-i l = (k : ℕ) → k < l.i → Tells (get_or l.marks k false) (Word (code_of disc l.code.numbers) (row l.width l.frame k))
