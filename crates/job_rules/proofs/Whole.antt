-- Which lines have which standing: whole, quiet and limit.
use Rattle.std.proofs.Common.{◌≡◌, ℕ, ◌<◌, Bool, true, false, length, refl, ap, ◌∙◌, arith}
use Rattle.codes.specs.Meaning.{Meaning}
use Rattle.job_rules.specs.declared.records.Standing.{Standing}
use Rattle.job_rules.specs.declared.records.Standing.TheVariants.{Open, Sound, Stuck}
use Rattle.job_rules.specs.declared.records.Kind.{Kind}
use Rattle.job_rules.specs.declared.records.Kind.TheVariants.{Row, Column}
use Rattle.job_rules.specs.Records.{is_same_standing, how_many}
use Rattle.job_rules.specs.Questions.{lines}
use Rattle.job_rules.specs.Passes.{State, records}
use Rattle.job_rules.specs.Calls.{standing}
use Rattle.job_rules.specs.Promise.{IsWhole, Exactly}
use Rattle.job_rules.specs.Laws.{Shaped}
use Rattle.job_rules.proofs.Standings.{none_of, no_more}

pub table_long : (p q : Meaning) (s : State) → Shaped p q s → (kind : Kind) → length (records kind s) ≡ lines p q kind
table_long p q s h Row = h.rows
table_long p q s h Column = h.columns

sound : (st : Standing) → is_same_standing Open st ≡ false → is_same_standing Stuck st ≡ false → st ≡ Sound
sound Open a b = let z : ◌≡◌ {A = ℕ} 0 1 = cc in absurd (omega arith)
sound Sound a b = refl
sound Stuck a b = let z : ◌≡◌ {A = ℕ} 0 1 = cc in absurd (omega arith)

none_in : (st : Standing) (s : State) → standing st s ≡ 0 → (kind : Kind) → how_many st (records kind s) ≡ 0
none_in st s e Row = omega (arith, e)
none_in st s e Column = omega (arith, e)

-- none open and none stuck: every line is sound
pub whole_from : (p q : Meaning) (s : State) → Shaped p q s → standing Open s ≡ 0 → standing Stuck s ≡ 0 → IsWhole p q s
whole_from p q s h o k kind i l =
    let within : i < length (records kind s) = omega (arith, table_long p q s h kind) in
    sound _ (none_of Open (records kind s) (none_in Open s o kind) i within) (none_of Stuck (records kind s) (none_in Stuck s k kind) i within)

-- and the other way round
pub whole_none : (p q : Meaning) (s : State) → Shaped p q s → IsWhole p q s → (st : Standing) → is_same_standing st Sound ≡ false → standing st s ≡ 0
whole_none p q s h w st e =
    let a = no_more st s.rows (λ i l. ap (is_same_standing st) (w Row i (omega (arith, h.rows))) ∙ e) in
    let b = no_more st s.columns (λ i l. ap (is_same_standing st) (w Column i (omega (arith, h.columns))) ∙ e) in
    omega (arith, a, b)

pub whole_exactly : (p q : Meaning) (s : State) → Shaped p q s → (r : Bool) → (r ≡ true → (standing Open s ≡ 0) × (standing Stuck s ≡ 0)) → (standing Open s ≡ 0 → standing Stuck s ≡ 0 → r ≡ true) → Exactly (r ≡ true) (IsWhole p q s)
whole_exactly p q s h r there back = record {
  when = λ w. back (whole_none p q s h w Open refl) (whole_none p q s h w Stuck refl);
  only = λ e. let k = there e in whole_from p q s h k.0 k.1;
}
