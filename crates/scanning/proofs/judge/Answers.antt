use Rattle.std.proofs.Common.{◌≡◌, ℕ, Bool, List, subst, arith}
use Rattle.codes.specs.Meaning.{Meaning}
use Rattle.codes.specs.Frames.{row, column}
use Rattle.scanning.specs.Judging.{Marks}
use Rattle.scanning.proofs.judge.Goals as goal

-- marks under one code are marks under another that is the same
under : (m n : Meaning) (line : ℕ → List ℕ) (marks : List Bool) → m ≡ n → Marks m line marks → Marks n line marks
under m n line marks e = subst (λ (k : Meaning). Marks k line marks) e

pub returns : goal.returns
returns c =
    let block = c.args.block.now in
    record {
      long = omega arith;
      tall = c.judge_rows.auto.marks;
      wide = c.judge_columns.auto.marks;
      rows_are = under _ _ (row 182 block) c.judge_rows.new.marks c.disc_line.ensures c.judge_rows.ensures;
      columns_are = under _ _ (column 182 208 block) c.judge_columns.new.marks c.disc_line-2.ensures c.judge_columns.ensures;
    }
