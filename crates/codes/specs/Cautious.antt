-- The cautious line: what it means, and what making one answers.
use Rattle.std.specs.Prelude.{◌≡◌, ℕ, ◌<◌, ◌≤◌, min, Ok, Err, Result}
use Rattle.codes.specs.Meaning.{Meaning}
use Rattle.codes.specs.declared.cautious.Cautious.{Cautious}
use Rattle.codes.specs.declared.cautious.Refused.{Refused}
use Rattle.codes.specs.declared.cautious.Refused.TheVariants.{Reach}

-- the same length, alphabet and codewords, and a reach of at most s; the reach below is its limit, which `Makes` keeps s to
abbrev pub cautious : Meaning → ℕ → Meaning
cautious m s = record { size = m.size; reach = min s m.reach; alphabet = m.alphabet; word = m.word }

-- the number of the refusal
abbrev pub reach_number : {L : Type 0} → Refused L → ℕ
reach_number (Reach code) = 7

-- a cautious line of reach s over a code: made where s is at most the reach below
pub record Made {L : Type 0} (m : L → Meaning) (code : L) (s : ℕ) (line : Cautious L) : Type 0 where
  pub code_is : line.code ≡ code
  pub allowed : s ≤ (m code).reach
  pub reach_is : (cautious (m line.code) line.reach).reach ≡ s

-- a larger reach is refused, and the code handed back
pub record Beyond {L : Type 0} (m : L → Meaning) (code : L) (s : ℕ) (back : Refused L) : Type 0 where
  pub is : reach_number back ≡ 7
  pub same : back ≡ Reach code
  pub over : (m code).reach < s

-- what making a cautious line answers
abbrev pub Makes : {L : Type 0} → (L → Meaning) → L → ℕ → Result (Cautious L) (Refused L) → Type 0
Makes m code s (Ok line) = Made m code s line
Makes m code s (Err back) = Beyond m code s back
