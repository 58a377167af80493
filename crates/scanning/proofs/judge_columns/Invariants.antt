use Rattle.std.proofs.Common.{ℕ, ◌<◌, false, length, get_or}
use Rattle.fields.specs.Binary.{disc}
use Rattle.codes.specs.Meaning.{Word}
use Rattle.codes.specs.Frames.{column}
use Rattle.reed_solomon.specs.Lines.{code_of}
use Rattle.scanning.specs.Judging.{Tells}
use Rattle.scanning.proofs.judge_columns.Given as goal

abbrev pub invariant-loop-j : goal.invariant-loop-j
invariant-loop-j l = (k : ℕ) → k < l.j → Tells (get_or l.marks k false) (Word (code_of disc l.code.numbers) (column (length l.initial.marks) l.height l.frame k))
