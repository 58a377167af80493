use Rattle.std.proofs.Common.{◌≡◌, ℕ, ◌+◌, ◌-◌, ◌*◌, ◌<◌, ◌≢◌, length, take, drop, subst, arith, get_or-set_other, get_or-set_same, rules, below_more}
use Rattle.fields.specs.Binary.{disc}
use Rattle.codes.specs.Meaning.{Word}
use Rattle.codes.proofs.Rows.{row_end}
use Rattle.reed_solomon.specs.Lines.{code_of}
use Rattle.scanning.specs.Judging.{Tells}
use Rattle.scanning.proofs.judge_rows.Goals as goal

pub slice_bounds-is_codeword-end : goal.slice_bounds-is_codeword-end
slice_bounds-is_codeword-end c =
    let e = row_end (length c.args.marks.now) c.loop-i.i c.args.width (omega arith) in
    search rules

pub loop-i-preserved : goal.loop-i-preserved
loop-i-preserved c =
    let i = c.loop-i.i in
    let w = c.args.width in
    let part : i * w + w - i * w ≡ w = omega arith in
    let m = code_of disc c.args.code.now.numbers in
    let lt : c.loop-i.i < length c.loop-i.marks = omega arith in
    below_more _ _
    (λ k h. let ne : k ≢ c.loop-i.i = omega arith in rw get_or-set_other (c.loop-i.invariant k h))
    (rw get_or-set_same (subst (λ (n : ℕ). Tells c.is_codeword.result (Word m (take n (drop (i * w) c.args.frame.now)))) part
    (record { then = c.is_codeword.ensures.sound; only = c.is_codeword.ensures.complete })))
