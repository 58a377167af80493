-- What coding a line means.
use Rattle.std.specs.Prelude.{◌≡◌, ℕ, ◌<◌, List, length, Ok, Err, Result, slice_index}
use Rattle.codes.specs.Meaning.{Meaning, Word}
use Rattle.codes.specs.Answers.{Refuses}
use Rattle.codes.specs.declared.Refusal.{Refusal}

-- the first k symbols of two lines are the same
abbrev pub SameMessage : ℕ → (v w : List ℕ) → Type 0
SameMessage k v w = (p : ℕ) → p < k → slice_index v p ≡ slice_index w p

-- the first k symbols stay, and the others are the only ones that make a codeword
pub record Codes (m : Meaning) (k : ℕ) (before after : List ℕ) : Type 0 where
  pub long : length before ≡ m.size
  pub stays : SameMessage k after before
  pub word : Word m after
  pub only : (v : List ℕ) → Word m v → SameMessage k v before → v ≡ after

-- a line of another length is refused, and stays as it is
abbrev pub Coding : Meaning → ℕ → (before after : List ℕ) → Result (Unit {0}) Refusal → Type 0
Coding m k before after (Ok done) = Codes m k before after
Coding m k before after (Err why) = Refuses m before why × (after ≡ before)
