-- How many records have a standing, and which.
use Rattle.std.proofs.Common.{◌≡◌, ℕ, suc, ◌<◌, ◌≤◌, Bool, true, false, cond, List, [], ◌∷◌, length, get_or, refl, ap, ◌∙◌, arith}
use Rattle.std.proofs.lemmas.List.Sums.{sum_by-cons, get_or-le-sum_by}
use Rattle.job_rules.specs.declared.records.Standing.{Standing}
use Rattle.job_rules.specs.declared.records.Standing.TheVariants.{Open, Sound, Stuck}
use Rattle.job_rules.specs.declared.records.Record.{Record}
use Rattle.job_rules.specs.Records.{fresh, is_same_standing, how_many}

pub same_is : (a b : Standing) → is_same_standing a b ≡ true → b ≡ a
same_is Open Open e = refl
same_is Open Sound e = let z : ◌≡◌ {A = ℕ} 0 1 = cc in absurd (omega arith)
same_is Open Stuck e = let z : ◌≡◌ {A = ℕ} 0 1 = cc in absurd (omega arith)
same_is Sound Open e = let z : ◌≡◌ {A = ℕ} 0 1 = cc in absurd (omega arith)
same_is Sound Sound e = refl
same_is Sound Stuck e = let z : ◌≡◌ {A = ℕ} 0 1 = cc in absurd (omega arith)
same_is Stuck Open e = let z : ◌≡◌ {A = ℕ} 0 1 = cc in absurd (omega arith)
same_is Stuck Sound e = let z : ◌≡◌ {A = ℕ} 0 1 = cc in absurd (omega arith)
same_is Stuck Stuck e = refl

pub same_self : (a : Standing) → is_same_standing a a ≡ true
same_self Open = refl
same_self Sound = refl
same_self Stuck = refl

-- a test as a number
abbrev bit : Bool → ℕ
bit b = cond b 1 0

one_or_none : (b : Bool) → bit b ≡ 0 → b ≡ false
one_or_none true e = absurd (omega (arith, e))
one_or_none false e = refl

-- none of them
pub none_of : (st : Standing) (rs : List Record) → how_many st rs ≡ 0 → (i : ℕ) → i < length rs → is_same_standing st (get_or rs i fresh).standing ≡ false
none_of st rs e i l =
    let le = get_or-le-sum_by (λ r. cond (is_same_standing st r.standing) 1 0) rs i fresh l in
    one_or_none _ (omega (arith, le, e))

pub no_more : (st : Standing) (rs : List Record) → ((i : ℕ) → i < length rs → is_same_standing st (get_or rs i fresh).standing ≡ false) → how_many st rs ≡ 0
no_more st [] h = refl
no_more st (r ∷ rs) h =
    let rest = no_more st rs (λ i l. h (suc i) (omega arith)) in
    let here : is_same_standing st r.standing ≡ false = h 0 (omega arith) in
    let one : bit (is_same_standing st r.standing) ≡ 0 = rw here in
    omega (arith, sum_by-cons (λ x. cond (is_same_standing st x.standing) 1 0) r rs, rest, one)

-- some of them
pub one_of : (st : Standing) (rs : List Record) → 1 ≤ how_many st rs → (i : ℕ) × ((i < length rs) × ((get_or rs i fresh).standing ≡ st))
one_of st [] h = absurd (omega (arith, h))
one_of st (r ∷ rs) h = at (is_same_standing st r.standing) refl (one_of st rs)
  where
    at : (b : Bool) → is_same_standing st r.standing ≡ b → (1 ≤ how_many st rs → (i : ℕ) × ((i < length rs) × ((get_or rs i fresh).standing ≡ st))) → (i : ℕ) × ((i < length (r ∷ rs)) × ((get_or (r ∷ rs) i fresh).standing ≡ st))
    at true e more = (0, (omega arith, same_is st r.standing e))
    at false e more =
        let one : bit (is_same_standing st r.standing) ≡ 0 = rw e in
        let rest = more (omega (arith, h, one, sum_by-cons (λ x. cond (is_same_standing st x.standing) 1 0) r rs)) in
        (suc rest.0, (omega (arith, rest.1.0), rest.1.1))

pub counted_one : (st : Standing) (rs : List Record) (i : ℕ) → i < length rs → (get_or rs i fresh).standing ≡ st → 1 ≤ how_many st rs
counted_one st rs i l e =
    let le = get_or-le-sum_by (λ r. cond (is_same_standing st r.standing) 1 0) rs i fresh l in
    let b : is_same_standing st (get_or rs i fresh).standing ≡ true = ap (is_same_standing st) e ∙ same_self st in
    let one : bit (is_same_standing st (get_or rs i fresh).standing) ≡ 1 = rw b in
    omega (arith, le, one)
