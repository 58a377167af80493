-- Two copies of a frame, compared.
use Rattle.std.specs.Prelude.{◌≡◌, ℕ, ◌+◌, ◌*◌, ◌<◌, List, Ok, Err, Result}
use Rattle.codes.specs.Meaning.{Meaning}
use Rattle.job_rules.specs.declared.answers.Refusal.{Refusal}
use Rattle.job_rules.specs.Promise.{Exactly, WholeReading, left}

-- Where two jobs over codes that are the same call these frames whole: the frames are equal exactly when n is below (2r + 1) × (2c + 1).
-- A refused comparison says nothing of them.
abbrev pub Compared : (p q : Meaning) (one two : List ℕ) → Result ℕ Refusal → Type 0
Compared p q one two (Ok n) = (a b : WholeReading p q) → left a ≡ one → left b ≡ two → Exactly (one ≡ two) (n < (2 * p.reach + 1) * (2 * q.reach + 1))
Compared p q one two (Err why) = Unit {0}
