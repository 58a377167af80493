use Rattle.std.proofs.Common.{◌≡◌, ℕ, ◌<◌, ◌≤◌, length}
use Rattle.fields.specs.Binary.{disc}
use Rattle.codes.specs.Meaning.{Word}
use Rattle.codes.specs.Frames.{column}
use Rattle.reed_solomon.specs.Lines.{code_of}
use Rattle.coding.specs.Coding.{SameMessage}
use Rattle.frames.proofs.code_columns.Given as goal

abbrev pub invariant-loop-j : goal.invariant-loop-j
invariant-loop-j g l =
    let n = l.coder.numbers in
    let h = length l.initial.line in
    ((k : ℕ) → k < l.j → Word (code_of disc n) (column l.width h l.frame k))
    × ((k : ℕ) → k < l.j → SameMessage n.dimension (column l.width h l.frame k) (column l.width h l.initial.frame k))
    × ((k : ℕ) → l.j ≤ k → k < l.width → column l.width h l.frame k ≡ column l.width h l.initial.frame k)
