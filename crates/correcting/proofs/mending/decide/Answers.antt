use Rattle.std.proofs.Common.{◌≡◌, ℕ, ◌<◌, List, length, get_or, subst, rules}
use Rattle.solving.specs.Sequences.{terms}
use Rattle.errors.proofs.Decided.{unchanged, unreadable}
use Rattle.correcting.proofs.mending.decide.Goals as goal

pub returns-then-not-is_readable : goal.returns-then-not-is_readable
returns-then-not-is_readable g c =
    unreadable g.F.Field.meaning c.args.code.now.numbers c.args.line.now c.requires.long
    (λ q els. absurd (search (rules, c.is_readable.ensures.1 els)))

pub returns-then-all : goal.returns-then-all
returns-then-all g c =
    let elements = c.is_readable.ensures.0 c.if-not-is_readable.false in
    let s = terms c.args.syndromes.now in
    let zs : (k : ℕ) → k < length c.terms.result.now → get_or c.terms.result.now k 0 ≡ 0 = search rules in
    let z : (k : ℕ) → k < length s → get_or s k 0 ≡ 0 =
    subst (λ (xs : List ℕ). (k : ℕ) → k < length xs → get_or xs k 0 ≡ 0) c.terms.ensures.value zs in
    unchanged g.F.Field.meaning c.args.code.now.numbers c.args.line.now s
    c.args.code.now.fits c.requires.long elements c.requires.count c.requires.sums z
