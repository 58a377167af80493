-- What decoding promises of a code, by the number of wrong places.
use Rattle.std.specs.Prelude.{◌≡◌, ℕ, ◌≤◌, List, length, Ok, Result, Option, Some}
use Rattle.codes.specs.Meaning.{Meaning, Word, Below, differ}
use Rattle.codes.specs.Answers.{Answers}
use Rattle.codes.specs.declared.Refusal.{Refusal}

-- every codeword, with other symbols at no more than t places, decodes to itself, and the answer is at how many places it was wrong
abbrev pub RecoversWithin : ℕ → Meaning → Type 0
RecoversWithin t m =
    (sent line after : List ℕ) (count count' : ℕ) (r : Result (Option ℕ) Refusal) → Word m sent → length line ≡ m.size → Below m.alphabet line
    → differ sent line ≤ t → Answers m line after count count' r → (after ≡ sent) × (r ≡ Ok (Some (differ sent line)))
