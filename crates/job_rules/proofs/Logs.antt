-- What the log says of lines after one of them was rewritten.
use Rattle.std.proofs.Common.{◌≡◌, ℕ, zero, suc, ◌+◌, ◌<◌, Bool, true, false, cond, eqb, List, [], ◌∷◌, length, get_or, refl, ap, ◌∙◌, arith, eq-eqb, ne_eqb}
use Rattle.codes.specs.Meaning.{differ}
use Rattle.job_rules.specs.declared.records.Kind.{Kind}
use Rattle.job_rules.specs.declared.records.Kind.TheVariants.{Row, Column}
use Rattle.job_rules.specs.Records.{crossing}
use Rattle.job_rules.specs.Reader.{Log, decoded, unchanged, given_at, rewritten}

-- one event more
own_decoded : (kind : Kind) (i : ℕ) (log : Log) → unchanged kind i (decoded kind i ∷ log) ≡ true
own_decoded Row i log = rw (eq-eqb i i refl)
own_decoded Column i log = rw (eq-eqb i i refl)

other_decoded : (kind : Kind) (i k : ℕ) (log : Log) → (k ≡ i → ⊥) → unchanged kind k (decoded kind i ∷ log) ≡ unchanged kind k log
other_decoded Row i k log ne = rw (ne_eqb k i ne)
other_decoded Column i k log ne = rw (ne_eqb k i ne)

across_decoded : (kind : Kind) (i k : ℕ) (log : Log) → unchanged (crossing kind) k (decoded kind i ∷ log) ≡ unchanged (crossing kind) k log
across_decoded Row i k log = refl
across_decoded Column i k log = refl

own_given : (kind : Kind) (i j : ℕ) (log : Log) → unchanged kind i (given_at kind i j ∷ log) ≡ false
own_given Row i j log = rw (eq-eqb i i refl)
own_given Column i j log = rw (eq-eqb i i refl)

other_given : (kind : Kind) (i j k : ℕ) (log : Log) → (k ≡ i → ⊥) → unchanged kind k (given_at kind i j ∷ log) ≡ unchanged kind k log
other_given Row i j k log ne = rw (ne_eqb k i ne)
other_given Column i j k log ne = rw (ne_eqb k i ne)

across_given : (kind : Kind) (i j : ℕ) (log : Log) → unchanged (crossing kind) j (given_at kind i j ∷ log) ≡ false
across_given Row i j log = rw (eq-eqb j j refl)
across_given Column i j log = rw (eq-eqb j j refl)

across_given_other : (kind : Kind) (i j k : ℕ) (log : Log) → (k ≡ j → ⊥) → unchanged (crossing kind) k (given_at kind i j ∷ log) ≡ unchanged (crossing kind) k log
across_given_other Row i j k log ne = rw (ne_eqb k j ne)
across_given_other Column i j k log ne = rw (ne_eqb k j ne)

-- a line rewritten: no other line of its kind changes
pub rewritten_other : (kind : Kind) (i k : ℕ) → (k ≡ i → ⊥) → (j : ℕ) (one two : List ℕ) (log : Log) → unchanged kind k (rewritten kind i j one two log) ≡ unchanged kind k log
unfolding rewritten
rewritten_other kind i k ne j [] two log = refl
rewritten_other kind i k ne j (a ∷ one) [] log = refl
rewritten_other kind i k ne j (a ∷ one) (b ∷ two) log = rewritten_other kind i k ne (suc j) one two _ ∙ at (eqb a b)
  where
    at : (t : Bool) → unchanged kind k (cond t log (given_at kind i j ∷ log)) ≡ unchanged kind k log
    at true = refl
    at false = other_given kind i j k log ne

-- it changes itself when any place differs
pub rewritten_own : (kind : Kind) (i j : ℕ) (one two : List ℕ) (log : Log) → length one ≡ length two → unchanged kind i (rewritten kind i j one two log) ≡ cond (eqb (differ one two) 0) (unchanged kind i log) false
unfolding rewritten
rewritten_own kind i j [] [] log e = refl
rewritten_own kind i j [] (b ∷ two) log e = absurd (omega (arith, e))
rewritten_own kind i j (a ∷ one) [] log e = absurd (omega (arith, e))
rewritten_own kind i j (a ∷ one) (b ∷ two) log e = rewritten_own kind i (suc j) one two _ (omega (arith, e)) ∙ at (eqb a b)
  where
    none : (t : Bool) → cond t false false ≡ false
    none true = refl
    none false = refl

    at : (t : Bool) → cond (eqb (differ one two) 0) (unchanged kind i (cond t log (given_at kind i j ∷ log))) false ≡ cond (eqb (cond t 0 1 + differ one two) 0) (unchanged kind i log) false
    at true = let z : 0 + differ one two ≡ differ one two = omega arith in rw z
    at false =
        let some = ne_eqb (1 + differ one two) 0 (omega arith) in
        rw (own_given kind i j log, some) (none (eqb (differ one two) 0))

-- places before it stay
rewritten_before : (kind : Kind) (i k j : ℕ) (one two : List ℕ) (log : Log) → k < j → unchanged (crossing kind) k (rewritten kind i j one two log) ≡ unchanged (crossing kind) k log
unfolding rewritten
rewritten_before kind i k j [] two log l = refl
rewritten_before kind i k j (a ∷ one) [] log l = refl
rewritten_before kind i k j (a ∷ one) (b ∷ two) log l = rewritten_before kind i k (suc j) one two _ (omega arith) ∙ at (eqb a b)
  where
    at : (t : Bool) → unchanged (crossing kind) k (cond t log (given_at kind i j ∷ log)) ≡ unchanged (crossing kind) k log
    at true = refl
    at false = across_given_other kind i j k log (omega arith)

-- the line across a place changes when the place does
pub rewritten_across : (kind : Kind) (i j k m : ℕ) (one two : List ℕ) (log : Log) → m ≡ j + k → length one ≡ length two → k < length one → unchanged (crossing kind) m (rewritten kind i j one two log) ≡ cond (eqb (get_or one k 0) (get_or two k 0)) (unchanged (crossing kind) m log) false
unfolding rewritten
rewritten_across kind i j k m [] two log at e l = absurd (omega (arith, l))
rewritten_across kind i j k m (a ∷ one) [] log at e l = absurd (omega (arith, e))
rewritten_across kind i j zero m (a ∷ one) (b ∷ two) log at e l = rewritten_before kind i m (suc j) one two _ (omega arith) ∙ here (eqb a b)
  where
    here : (t : Bool) → unchanged (crossing kind) m (cond t log (given_at kind i j ∷ log)) ≡ cond t (unchanged (crossing kind) m log) false
    here true = refl
    here false = let same : m ≡ j = omega arith in rw same (across_given kind i j log)
rewritten_across kind i j (suc k) m (a ∷ one) (b ∷ two) log at e l =
    rewritten_across kind i (suc j) k m one two _ (omega arith) (omega (arith, e)) (omega (arith, l)) ∙ ap (λ x. cond (eqb (get_or one k 0) (get_or two k 0)) x false) (here (eqb a b))
  where
    here : (t : Bool) → unchanged (crossing kind) m (cond t log (given_at kind i j ∷ log)) ≡ unchanged (crossing kind) m log
    here true = refl
    here false = across_given_other kind i j m log (omega arith)

-- a decoding of line i, which became another
module _ (kind : Kind) (i : ℕ) (one two : List ℕ) (log : Log) where
  abbrev pub after : Log
  after = decoded kind i ∷ rewritten kind i 0 one two log

  pub decoded_own : unchanged kind i after ≡ true
  decoded_own = own_decoded kind i (rewritten kind i 0 one two log)

  pub decoded_other : (k : ℕ) → (k ≡ i → ⊥) → unchanged kind k after ≡ unchanged kind k log
  decoded_other k ne = other_decoded kind i k (rewritten kind i 0 one two log) ne ∙ rewritten_other kind i k ne 0 one two log

  pub decoded_across : (k : ℕ) → length one ≡ length two → k < length one → unchanged (crossing kind) k after ≡ cond (eqb (get_or one k 0) (get_or two k 0)) (unchanged (crossing kind) k log) false
  decoded_across k e l = across_decoded kind i k (rewritten kind i 0 one two log) ∙ rewritten_across kind i 0 k k one two log (omega arith) e l
