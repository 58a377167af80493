use Rattle.std.proofs.Common.{◌*◌, ◌≡◌, sym, refl, ap, ◌∙◌, subst, arith, mul_comm}
use Rattle.codes.specs.Meaning.{Meaning}
use Rattle.job_rules.specs.Passes.{Pass, passed}
use Rattle.job_rules.proofs.Bounded.{few_changes}
use Rattle.jobs.proofs.Passing.{rows_pass, columns_pass, state_of}
use Rattle.jobs.proofs.job.Job.decode_open.Goals as goal

pub pass_over-effort-requires-in-Column-clause-size : goal.pass_over-effort-requires-in-Column-clause-size
pass_over-effort-requires-in-Column-clause-size g c =
    let j = c.args.self.now in
    let p = g.P.LineCode.meaning j.row_code in
    let q = g.Q.LineCode.meaning j.column_code in
    let n : c.number_of-n.result ≡ p.size = rw c.in-Column.is at c.number_of-n.ensures.value in
    c.requires.fits ∙ mul_comm q.size p.size ∙ ap (λ x. x * q.size) (sym n)

pub returns-in-Row : goal.returns-in-Row
returns-in-Row g c =
    let j = c.args.self.now in
    let p = g.P.LineCode.meaning j.row_code in
    let q = g.Q.LineCode.meaning j.column_code in
    let x = g.P.LineCode.count j.row_code in
    let y = g.Q.LineCode.count j.column_code in
    let v = c.pass_over-effort in
    let x' = g.P.LineCode.count v.new.code in
    let k = v.ensures.made.keeping in
    let e = v.result in
    let n = c.number_of-n.result in
    let short = c.number_of-n.ensures.most in
    record {
      rows = v.ensures.same;
      columns = refl;
      made = subst (λ (m : Meaning). Pass p q c.args.kind (state_of p q j.lines c.args.frame.now j.counts x y) (state_of m q v.new.lines v.new.frame (passed e j.counts) x' y) e) (sym v.ensures.same)
          (rows_pass p q c.args.kind n j.lines v.new.lines c.args.frame.now v.new.frame j.counts x x' y e c.in-Row.is c.number_of-n.ensures.value v.ensures.made);
      few = omega (arith, k.few, short);
      low = few_changes p n e.changes (g.met.P.LineCode.lawful j.row_code) short (omega (arith, k.low));
    }

pub returns-in-Column : goal.returns-in-Column
returns-in-Column g c =
    let j = c.args.self.now in
    let p = g.P.LineCode.meaning j.row_code in
    let q = g.Q.LineCode.meaning j.column_code in
    let x = g.P.LineCode.count j.row_code in
    let y = g.Q.LineCode.count j.column_code in
    let v = c.pass_over-effort-in-Column in
    let y' = g.Q.LineCode.count v.new.code in
    let k = v.ensures.made.keeping in
    let e = v.result in
    let n = c.number_of-n.result in
    let short = c.number_of-n.ensures.most in
    record {
      rows = refl;
      columns = v.ensures.same;
      made = subst (λ (m : Meaning). Pass p q c.args.kind (state_of p q j.lines c.args.frame.now j.counts x y) (state_of p m v.new.lines v.new.frame (passed e j.counts) x y') e) (sym v.ensures.same)
          (columns_pass p q c.args.kind n j.lines v.new.lines c.args.frame.now v.new.frame j.counts x y y' e c.in-Column.is c.number_of-n.ensures.value v.ensures.made);
      few = omega (arith, k.few, short);
      low = few_changes q n e.changes (g.met.Q.LineCode.lawful j.column_code) short (omega (arith, k.low));
    }
