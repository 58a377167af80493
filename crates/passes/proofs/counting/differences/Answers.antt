use Rattle.std.proofs.Common.{◌≡◌, ℕ, ◌+◌, ◌<◌, ◌≤◌, cond, eqb, List, length, get_or, drop, arith, rules}
use Rattle.std.proofs.lemmas.List.{drop_more, drop_all}
use Rattle.codes.specs.Meaning.{differ}
use Rattle.passes.proofs.counting.differences.Goals as goal

turn : (one two : List ℕ) (i : ℕ) → i < length one → i < length two → differ (drop i one) (drop i two) ≡ cond (eqb (get_or one i 0) (get_or two i 0)) 0 1 + differ (drop (i + 1) one) (drop (i + 1) two)
turn one two i h k = rw (drop_more one i 0 h, drop_more two i 0 k)

at_end : (one two : List ℕ) (i : ℕ) → length one ≤ i → differ (drop i one) (drop i two) ≡ 0
at_end one two i h = rw (drop_all i one h)

pub loop-i-preserved : goal.loop-i-preserved
loop-i-preserved c =
    let t = turn c.args.one.now c.args.two.now c.loop-i.i (omega arith) (omega arith) in
    let inv = c.loop-i.invariant in
    search rules

pub returns : goal.returns
returns c = omega (arith, at_end c.args.one.now c.args.two.now c.loop-i.i (omega arith))
