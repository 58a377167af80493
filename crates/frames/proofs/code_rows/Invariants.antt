use Rattle.std.proofs.Common.{ℕ, ◌<◌}
use Rattle.fields.specs.Binary.{disc}
use Rattle.codes.specs.Meaning.{Word}
use Rattle.codes.specs.Frames.{row}
use Rattle.reed_solomon.specs.Lines.{code_of}
use Rattle.coding.specs.Coding.{SameMessage}
use Rattle.frames.proofs.code_rows.Given as goal

abbrev pub invariant-loop-i : goal.invariant-loop-i
invariant-loop-i g l =
    let n = l.coder.numbers in
    ((k : ℕ) → k < l.i → Word (code_of disc n) (row n.length l.frame k))
    × ((k : ℕ) → k < l.i → SameMessage n.dimension (row n.length l.frame k) (row n.dimension l.message k))
