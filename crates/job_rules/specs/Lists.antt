-- The calls of a list, as the rules have them.
use Rattle.job_rules.specs.declared.calls.Call.{Call}
use Rattle.job_rules.specs.declared.calls.Call.TheVariants.{Pass, Run, Redeliver}
use Rattle.job_rules.specs.Questions.{Request, pass, run, redeliver}

-- a call with its arguments
abbrev pub request_of : Call → Request
request_of (Pass kind) = pass kind
request_of (Run limit) = run limit
request_of (Redeliver row bytes) = redeliver row bytes.now
