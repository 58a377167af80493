use Rattle.std.proofs.Common.{◌≡◌, ◌*◌, length, ◌∙◌, arith}
use Rattle.fields.specs.Binary.{disc}
use Rattle.fields.specs.Fields.{disc_laws}
use Rattle.reed_solomon.specs.declared.numbers.CodeNumbers.{CodeNumbers}
use Rattle.reed_solomon.specs.Numbers.{Within}
use Rattle.frames.proofs.Carried.{coded}
use Rattle.frames.proofs.FrameCoder.code.Goals as goal

within : (n : CodeNumbers) → Within n.length n.dimension n.root n.order
within n = record { some = n.some; less = n.less; short = n.short; fits = n.fits; checks = n.checks; first = n.first; two = n.two; bytes = n.bytes }

pub returns : goal.returns
returns g c =
    let p = c.args.self.now.rows.numbers in
    let q = c.args.self.now.columns.numbers in
    let whole : length c.args.frame.now ≡ q.length * p.length = omega arith in
    let between = c.code_rows.new.frame in
    let after = c.code_columns.new.frame in (
      whole,
      omega arith,
      coded disc disc_laws p.length p.dimension p.root p.order q.length q.dimension q.root q.order (within p) (within q)
          c.args.message.now between after (c.code_rows.auto.frame ∙ whole) (c.code_columns.auto.frame ∙ c.code_rows.auto.frame ∙ whole)
          c.code_rows.ensures.words c.code_rows.ensures.heads c.code_columns.ensures.words c.code_columns.ensures.heads,
    )
