use Rattle.std.proofs.Common.{◌≡◌, ℕ, ◌+◌, ◌-◌, ◌*◌, ◌<◌, ◌≤◌, List, length, take, drop, sym, refl, ◌∙◌, subst, arith, length-drop, length-take, rules, below_more}
use borrow.Rule.Slice.PartMut.{put_mid}
use Rattle.fields.specs.Binary.{disc}
use Rattle.codes.specs.Meaning.{Word}
use Rattle.codes.specs.Frames.{row, Becomes}
use Rattle.codes.proofs.Rows.{row_end, row_becomes}
use Rattle.reed_solomon.specs.Lines.{code_of}
use Rattle.coding.specs.Coding.{SameMessage}
use Rattle.frames.proofs.code_rows.Goals as goal

pub slice_bounds-code_row-end : goal.slice_bounds-code_row-end
slice_bounds-code_row-end g c =
    let n = c.args.coder.now.numbers in
    let e = row_end c.args.height c.loop-i.i n.length (omega (arith, c.requires.less)) in
    let whole = c.requires.whole in
    let fits : c.loop-i.i * n.length + n.length ≤ length c.loop-i.frame = omega arith in
    search rules

pub slice_bounds-code_row-end-in-loop-i : goal.slice_bounds-code_row-end-in-loop-i
slice_bounds-code_row-end-in-loop-i g c =
    let n = c.args.coder.now.numbers in
    let e = row_end c.args.rows c.loop-i.i n.dimension (omega arith) in
    let fits : c.loop-i.i * n.dimension + n.dimension ≤ length c.args.message.now = omega (arith, c.requires.message) in
    search rules

pub loop-i-preserved : goal.loop-i-preserved
loop-i-preserved g c =
    let n = c.args.coder.now.numbers in
    let w = n.length in
    let i = c.loop-i.i in
    let part : i * w + w - i * w ≡ w = omega arith in
    let size : length c.loop-i.frame ≡ c.args.height * w = c.loop-i.auto.frame ∙ c.requires.whole in
    let inside : i < c.args.height = omega (arith, c.requires.less) in
    let end = row_end c.args.height i w inside in
    let long : length c.code_row.new.line ≡ w = c.code_row.auto.line ∙ simp (length-take, length-drop) (omega arith) in
    let becomes : Becomes (row w) c.args.height i c.code_row.new.line c.loop-i.frame (put_mid (i * w) (i * w + w - i * w) c.loop-i.frame c.code_row.new.line) =
    subst (λ (k : ℕ). Becomes (row w) c.args.height i c.code_row.new.line c.loop-i.frame (put_mid (i * w) k c.loop-i.frame c.code_row.new.line)) (sym part)
    (row_becomes w c.args.height i c.loop-i.frame c.code_row.new.line c.code_row.new.line size inside long refl) in
    let from : i * n.dimension + n.dimension - i * n.dimension ≡ n.dimension = omega arith in
    let bytes = drop (i * n.dimension) c.args.message.now in
    let whole : length (take (i * n.dimension + n.dimension - i * n.dimension) bytes) ≡ n.dimension =
    let e = row_end c.args.rows i n.dimension (omega arith) in
    simp (length-take, length-drop) (omega (arith, c.requires.message)) in
    let head : SameMessage n.dimension c.code_row.new.line (take n.dimension bytes) =
    subst (λ (k : ℕ). SameMessage n.dimension c.code_row.new.line (take k bytes)) from
    (subst (λ (k : ℕ). SameMessage k c.code_row.new.line (take (i * n.dimension + n.dimension - i * n.dimension) bytes)) whole c.code_row.ensures.head) in (
      below_more _ _
          (λ k h. subst (Word (code_of disc n)) (sym (becomes.others k (omega (arith, c.requires.less)) (λ q. omega arith))) (c.loop-i.invariant.0 k h))
          (subst (Word (code_of disc n)) (sym becomes.here) c.code_row.ensures.word),
      below_more _ _
          (λ k h. subst (λ (l : List ℕ). SameMessage n.dimension l (row n.dimension c.args.message.now k)) (sym (becomes.others k (omega (arith, c.requires.less)) (λ q. omega arith))) (c.loop-i.invariant.1 k h))
          (subst (λ (l : List ℕ). SameMessage n.dimension l (take n.dimension bytes)) (sym becomes.here) head),
    )
