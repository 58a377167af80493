-- What it means that a line is unchanged.
use Rattle.std.proofs.Common.{◌≡◌, ℕ, Bool, true, false, cond, ◌&&◌, eqb, [], ◌∷◌, ◌++◌, sym, refl, ap, ◌∙◌, arith, eq-eqb, ne_eqb, eqb-true}
use borrow.Author.Tests.{eqb-false}
use Rattle.std.proofs.lemmas.Bool.{and_parts}
use Rattle.job_rules.specs.declared.records.Kind.{Kind}
use Rattle.job_rules.specs.declared.records.Kind.TheVariants.{Row, Column}
use Rattle.job_rules.specs.Reader.{Event, Log, given, decoded, same_kind, lies_on, unchanged}
use Rattle.job_rules.specs.Laws.{Spares, Spared, DecodedSince, UnchangedMeans}

kind_is : (a b : Kind) → same_kind a b ≡ true → b ≡ a
kind_is Row Row e = refl
kind_is Row Column e = let z : ◌≡◌ {A = ℕ} 0 1 = cc in absurd (omega arith)
kind_is Column Row e = let z : ◌≡◌ {A = ℕ} 0 1 = cc in absurd (omega arith)
kind_is Column Column e = refl

kind_self : (a : Kind) → same_kind a a ≡ true
kind_self Row = refl
kind_self Column = refl

earlier : (kind : Kind) (i : ℕ) (e : Event) (log : Log) → Spares kind i e → DecodedSince kind i log → DecodedSince kind i (e ∷ log)
earlier kind i e log s d = record { since = e ∷ d.since; before = d.before; split = ap (λ x. e ∷ x) d.split; spared = (s, d.spared) }

-- going back in the log, its decoding is found
found : (kind : Kind) (i : ℕ) (log : Log) → unchanged kind i log ≡ true → DecodedSince kind i log
found kind i [] e = let z : ◌≡◌ {A = ℕ} 0 1 = cc in absurd (omega arith)
found kind i (decoded kind' i' ∷ log) e = at (same_kind kind kind' && eqb i i') refl (found kind i log) e
  where
    at : (b : Bool) → (same_kind kind kind' && eqb i i') ≡ b → (unchanged kind i log ≡ true → DecodedSince kind i log) → cond b true (unchanged kind i log) ≡ true → DecodedSince kind i (decoded kind' i' ∷ log)
    at true h more e =
        let both = and_parts (same_kind kind kind') (eqb i i') h in
        let k = kind_is kind kind' both.0 in
        let n = eqb-true i i' both.1 in
        record { since = []; before = log; split = ap (λ x. decoded x i' ∷ log) k ∙ ap (λ x. decoded kind x ∷ log) (sym n); spared = tt }
    at false h more e = earlier kind i (decoded kind' i') log tt (more e)
found kind i (given r c ∷ log) e = at (eqb i (lies_on kind r c)) refl (found kind i log) e
  where
    at : (b : Bool) → eqb i (lies_on kind r c) ≡ b → (unchanged kind i log ≡ true → DecodedSince kind i log) → cond b false (unchanged kind i log) ≡ true → DecodedSince kind i (given r c ∷ log)
    at true h more e = let z : ◌≡◌ {A = ℕ} 0 1 = cc in absurd (omega arith)
    at false h more e = earlier kind i (given r c) log (λ q. eqb-false i (lies_on kind r c) h (sym q)) (more e)

-- and what came since spares the line
spared : (kind : Kind) (i : ℕ) (since before : Log) → Spared kind i since → unchanged kind i (since ++ decoded kind i ∷ before) ≡ true
spared kind i [] before s = let k = kind_self kind in let n = eq-eqb i i refl in rw (k, n)
spared kind i (decoded kind' i' ∷ since) before s = at (same_kind kind kind' && eqb i i') (spared kind i since before s.1)
  where
    at : (b : Bool) → unchanged kind i (since ++ decoded kind i ∷ before) ≡ true → cond b true (unchanged kind i (since ++ decoded kind i ∷ before)) ≡ true
    at true e = refl
    at false e = e
spared kind i (given r c ∷ since) before s =
    let b = ne_eqb i (lies_on kind r c) (λ q. s.0 (sym q)) in
    rw b (spared kind i since before s.1)

pub unchanged_means_lem : UnchangedMeans
unchanged_means_lem kind i log = record {
  when = λ d. ap (unchanged kind i) d.split ∙ spared kind i d.since d.before d.spared;
  only = found kind i log;
}
