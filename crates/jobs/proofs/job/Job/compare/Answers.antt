use Rattle.std.proofs.Common.{◌≡◌, ℕ, List, Ok, subst}
use Rattle.codes.specs.Meaning.{Meaning, Lawful, differ}
use Rattle.job_rules.specs.Copies.{Compared}
use Rattle.job_rules.proofs.Promised.{Words, reading_words, words_equal}
use Rattle.jobs.proofs.job.Job.compare.Goals as goal

compared : (p q : Meaning) → Lawful p → Lawful q → (one two : List ℕ) (n : ℕ) → n ≡ differ one two → Compared p q one two (Ok n)
compared p q lp lq one two n e a b ea eb =
    let w = subst (λ (x : List ℕ). Words p q x) ea (reading_words p q lq a) in
    let v = subst (λ (x : List ℕ). Words p q x) eb (reading_words p q lq b) in
    rw e (words_equal p q lp lq one two w v)

pub returns-clause-equal : goal.returns-clause-equal
returns-clause-equal g c =
    let j = c.args.self.now in
    compared (g.P.LineCode.meaning j.row_code) (g.Q.LineCode.meaning j.column_code) (g.met.P.LineCode.lawful j.row_code) (g.met.Q.LineCode.lawful j.column_code) c.args.one.now c.args.two.now c.differences.result c.differences.ensures
