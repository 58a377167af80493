use Rattle.std.proofs.Common.{◌≡◌, ℕ, ◌<◌, get_or}
use Rattle.fields.specs.Laws.{power}
use Rattle.reed_solomon.proofs.syndromes.locators.Given as goal

abbrev pub invariant-loop-place : goal.invariant-loop-place
invariant-loop-place g l =
    let m = g.F.Field.meaning in
    (l.x ≡ power m.mul m.g l.place-index) × ((k : ℕ) → k < l.place-index → get_or l.table k 0 ≡ power m.mul m.g k)
