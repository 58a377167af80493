-- What correcting a line answers, and what it leaves.
use Rattle.std.specs.Prelude.{◌≡◌, ℕ, List, Ok, Err, Result, Option}
use Rattle.codes.specs.Meaning.{Meaning}
use Rattle.codes.specs.Answers.{Decodes, Refuses}
use Rattle.codes.specs.declared.Refusal.{Refusal}

-- mended exactly where a codeword is in reach, and else stuck; another length is refused, and nothing changes
abbrev pub Corrects : Meaning → (before after : List ℕ) → Result (Option ℕ) Refusal → Type 0
Corrects m before after (Ok answer) = Decodes m before after answer
Corrects m before after (Err why) = Refuses m before why × (after ≡ before)
