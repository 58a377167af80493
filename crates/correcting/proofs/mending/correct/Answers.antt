use Rattle.std.proofs.Common.{◌≡◌, ℕ, ◌-◌, List, length, sym, ap, ◌∙◌, subst, arith, rules}
use Rattle.std.proofs.lemmas.List.{take_all}
use Rattle.reed_solomon.specs.Lines.{Syndromes}
use Rattle.reed_solomon.specs.declared.numbers.CodeNumbers.{CodeNumbers}
use Rattle.solving.specs.Sequences.{terms}
use Rattle.correcting.proofs.mending.correct.Goals as goal

pub decide-requires : goal.decide-requires
decide-requires g c =
    let sums = c.syndromes.new.sums in
    let few = c.numbers.result.checks in
    let long : length sums ≡ c.checks-checks.result = search rules in
    let is : terms c.new.result ≡ sums = c.new.ensures ∙ take_all 32 sums (omega (arith, c.checks-checks.ensures)) in
    let read = c.in_ok-syndromes.ensures in
    record {
      long = read.0;
      count = ap length is ∙ long ∙ c.checks-checks.ensures ∙ ap (λ (k : CodeNumbers). k.length - k.dimension) c.numbers.ensures;
      sums = subst (λ (xs : List ℕ). Syndromes g.F.Field.meaning c.args.line.now c.args.code.now.numbers.root xs) (sym is) read.1;
    }
