use Rattle.std.proofs.Common.{◌≡◌, ℕ, ◌≤◌, List, take, replicate, ap, ◌∙◌}
use Rattle.std.proofs.lemmas.List.{take-replicate}
use Rattle.job_rules.specs.declared.records.Record.{Record}
use Rattle.job_rules.specs.Records.{fresh}
use Rattle.job_rules.specs.Passes.{State, no_counts}
use Rattle.jobs.proofs.job.Job.new.Goals as goal

-- of 255 records never decoded, as many as there are lines
first : (n : ℕ) (rs : List Record) → n ≤ 255 → rs ≡ replicate 255 fresh → take n rs ≡ replicate n fresh
first n rs le e = ap (take n) e ∙ take-replicate n 255 fresh le

made : (frame : List ℕ) (r r' c c' : List Record) (a b d e m n : ℕ) → r ≡ r' → c ≡ c' → a ≡ 0 → b ≡ 0 → d ≡ 0 → e ≡ 0 →
    ◌≡◌ {A = State} (record { frame = frame; rows = r; columns = c; counts = record { calls = a; passes = b; decodings = d; redelivered = e }; row_count = m; column_count = n })
    (record { frame = frame; rows = r'; columns = c'; counts = no_counts; row_count = m; column_count = n })
made frame r r' c c' a b d e m n s t u v w x = rw (s, t, u, v, w, x)

pub returns-clause-new : goal.returns-clause-new
returns-clause-new g c =
    let p = g.met.P.LineCode.lawful c.args.row_code in
    let q = g.met.Q.LineCode.lawful c.args.column_code in
    let zero = c.default.ensures in
    λ frame. made frame _ _ _ _ _ _ _ _ (g.P.LineCode.count c.args.row_code) (g.Q.LineCode.count c.args.column_code)
    (first (g.Q.LineCode.meaning c.args.column_code).size _ q.short c.new.ensures.rows)
    (first (g.P.LineCode.meaning c.args.row_code).size _ p.short c.new.ensures.columns) zero.0 zero.1.0 zero.1.1.0 zero.1.1.1
