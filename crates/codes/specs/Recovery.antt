-- What decoding makes of a corrupted codeword.
use Rattle.std.specs.Prelude.{◌≡◌, ℕ, ◌≤◌, List, length, Ok, Result, Option, Some}
use Rattle.codes.specs.Meaning.{Meaning, Word, Below, differ}
use Rattle.codes.specs.declared.Refusal.{Refusal}

-- the line is the codeword `sent`, with other symbols of the alphabet at no more than `reach` places
pub record Corrupts (m : Meaning) (sent line : List ℕ) : Type 0 where
  pub word : Word m sent
  pub long : length line ≡ m.size
  pub below : Below m.alphabet line
  pub few : differ sent line ≤ m.reach

-- every codeword that was corrupted so has become itself again, and the answer is at how many places it was wrong
abbrev pub Recovers : Meaning → (before after : List ℕ) → Result (Option ℕ) Refusal → Type 0
Recovers m before after r = (sent : List ℕ) → Corrupts m sent before → (after ≡ sent) × (r ≡ Ok (Some (differ sent before)))
