-- What a decoder reads of a received line.
use Rattle.std.specs.Prelude.{◌≡◌, ℕ, List, length, Ok, Err, Result}
use Rattle.fields.specs.Laws.{Meaning}
use Rattle.codes.specs.Answers.{Refuses}
use Rattle.codes.specs.declared.Refusal.{Refusal}
use Rattle.reed_solomon.specs.declared.numbers.CodeNumbers.{CodeNumbers}
use Rattle.reed_solomon.specs.Lines.{Syndromes, code_of}

-- reading the syndromes of a line: they fill the room that is given; a line of another length is refused, and the room unchanged
abbrev pub Receives : Meaning → CodeNumbers → (line before after : List ℕ) → Result (Unit {0}) Refusal → Type 0
Receives m c line before after (Ok u) = (length line ≡ c.length) × Syndromes m line c.root after
Receives m c line before after (Err why) = Refuses (code_of m c) line why × (after ≡ before)
