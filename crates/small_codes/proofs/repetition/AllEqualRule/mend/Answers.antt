use Rattle.std.proofs.Common.{rules, length, refl, sym, subst, ℕ, List, ◌<◌, ◌*◌}
use Rattle.codes.specs.Answers.{Mends, Sticks}
use Rattle.codes.proofs.Lines.{all_below}
use Rattle.small_codes.specs.Repetition.{repetition, unlike}
use Rattle.small_codes.specs.Majority.{mends, sticks}
use Rattle.small_codes.proofs.repetition.AllEqualRule.mend.Goals as goal

pub returns-in_err-symbol : goal.returns-in_err-symbol
returns-in_err-symbol c = λ some short.
    let line = c.args.line.now in
    let stuck : Sticks (repetition (length line)) line line = sticks (length line) line refl some (search rules) in
    search rules

pub returns : goal.returns
returns c = λ some short.
    let line = c.args.line.now in
    let n = length line in
    let symbol = c.in_ok-symbol.symbol in
    let h : (symbol < 256) × (2 * unlike symbol line < n) = search rules in
    let m = mends n line symbol refl some (all_below 256 line (λ i h. search rules)) h.0 h.1 in
    let filled = c.fill.ensures.after (λ y e. e) in
    subst (λ (k : ℕ). Mends (repetition n) line c.fill.new.self k) (search rules)
    (subst (λ (after : List ℕ). Mends (repetition n) line after (unlike symbol line)) (sym filled) m)
