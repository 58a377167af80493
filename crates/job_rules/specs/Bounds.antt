-- How large the counts of a job can grow.
use Rattle.std.specs.Prelude.{ℕ, ◌*◌, ◌^◌, ◌<◌}
use Rattle.job_rules.specs.declared.answers.Report.{Report}

-- the most lines of a kind, and the most bytes of a line
abbrev pub most_lines : ℕ
most_lines = 255

-- the most places that one pass can change: a reach is below half a line, so at most 127 in each line
abbrev pub most_changes : ℕ
most_changes = 255 * 127

-- every number of a report fits four bytes
pub record Low (r : Report) : Type 0 where
  pub passes : r.passes < 2 ^ 32
  pub decodings : r.decodings < 2 ^ 32
  pub redelivered : r.redelivered < 2 ^ 32
  pub changes : r.changes < 2 ^ 32
