use Rattle.std.proofs.Common.{◌≡◌, ℕ, ◌-◌, ◌<◌, Bool, true, false, List, length, get_or, refl, sym, ◌∙◌, arith, rules, tests, length-take-le}
use Rattle.std.specs.Prelude.{MatchBool}
use Rattle.std.specs.List.{AllWithin, HoldsAt}
use Rattle.std.proofs.lemmas.Iterator.{cases_from_all, YieldsList-from_slice}
use Rattle.reed_solomon.proofs.Apart.{word_to, word_from}
use Rattle.reed_solomon.proofs.Differ.{all_below, below_at}
use Rattle.reed_solomon.proofs.Zeros.{zeros_all, zeros_each}
use Rattle.algebra.specs.Lines.{Elements}
use Rattle.reed_solomon.proofs.line.Line.check.Goals as goal
use Rattle.reed_solomon.proofs.line.Line.check.Goals.{else-line-self-via-then-line-self+else-not-is_readable, else-line-self-via-else-line-self}

-- what `all` answers where each number was asked to be 0
zero_each : (r : Bool) (xs : List ℕ) → MatchBool r (AllWithin (λ x. x ≡ 0) xs 0 (length xs)) ((k : ℕ) × (k < length xs) × HoldsAt (λ x. x ≡ 0 → ⊥) xs k)
    → (r ≡ true → (k : ℕ) → k < length xs → get_or xs k 0 ≡ 0) × (((k : ℕ) → k < length xs → get_or xs k 0 ≡ 0) → r ≡ true)
zero_each true xs m = (λ e k l. m k 0 (omega arith) l, λ h. refl)
zero_each false xs m = (λ e. absurd (cc), λ h. absurd (m.2 0 (h m.0 m.1)))

pub returns-then-not-is_readable : goal.returns-then-not-is_readable
returns-then-not-is_readable g c = (
  c.if-line-self.true,
  λ e. absurd (search rules),
  λ w. sym c.if-not-is_readable.true ∙ c.is_readable.ensures.1 (below_at g.F.Field.meaning.q c.args.line.now w.below),
)

pub returns : goal.returns
returns g c =
    let m = g.F.Field.meaning in
    let s = c.args.self.now.numbers in
    let line = c.args.line.now in
    let elements : Elements m line = elim c.else-line-self.branch [
      | else-line-self-via-then-line-self+else-not-is_readable w ↦ w.is_readable.ensures.0 w.if-not-is_readable.false
      | else-line-self-via-else-line-self w ↦ absurd (w.if-line-self.false c.in_ok-syndromes.ensures.0)
    ] in
    let zero = zero_each _ _ (cases_from_all _ _ _ (λ x. x ≡ 0) (λ x. x ≡ 0 → ⊥) c.all.ensures.ran (YieldsList-from_slice c.syndromes.new.sums cc) (λ x q k. search (rules, tests)) (λ x q k. search (rules, tests))) in
    let long : length c.syndromes.new.sums ≡ s.length - s.dimension = omega (arith, length-take-le {A = ℕ}) in (
      c.in_ok-syndromes.ensures.0,
      λ e. word_to m s.length s.dimension s.root s.order line c.in_ok-syndromes.ensures.0 c.args.self.now.fits (all_below m.q line elements)
          (zeros_all _ _ (λ k h. sym (c.in_ok-syndromes.ensures.1 k (omega arith)) ∙ zero.0 e k (omega arith))),
      λ w. zero.1 (λ k h. c.in_ok-syndromes.ensures.1 k (omega arith) ∙ zeros_each _ _ (word_from m s.length s.dimension s.root s.order line w).1 k (omega arith)),
    )
