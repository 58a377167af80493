-- What the calls of a line code answer, and what they leave.
use Rattle.std.specs.Prelude.{◌≡◌, ℕ, ◌+◌, ◌%◌, ◌^◌, ◌≤◌, Bool, true, List, length, Ok, Err, Result, Option, Some, None}
use Rattle.codes.specs.Meaning.{Meaning, Word, Below, InReach, differ}
use Rattle.codes.specs.declared.Refusal.{Refusal}
use Rattle.codes.specs.declared.Refusal.TheVariants.{LineLength}

-- the numbers of the refusals
abbrev pub number : Refusal → ℕ
number LineLength = 3

-- the line was in reach, and is now the codeword there: k places changed
pub record Mends (m : Meaning) (before after : List ℕ) (k : ℕ) : Type 0 where
  pub long : length before ≡ m.size
  pub below : Below m.alphabet before
  pub word : Word m after
  pub changes : differ before after ≡ k
  pub near : k ≤ m.reach

-- stuck: the line is not in reach, and keeps its bytes
pub record Sticks (m : Meaning) (before after : List ℕ) : Type 0 where
  pub long : length before ≡ m.size
  pub same : after ≡ before
  pub far : InReach m before → ⊥

-- a decoding of a line of the code's length, by its answer
abbrev pub Decodes : Meaning → (before after : List ℕ) → Option ℕ → Type 0
Decodes m before after (Some k) = Mends m before after k
Decodes m before after None = Sticks m before after

-- a line of another length is refused
pub record Refuses (m : Meaning) (line : List ℕ) (why : Refusal) : Type 0 where
  pub is : number why ≡ 3
  pub other : length line ≡ m.size → ⊥

-- decode: each decoding that is not refused adds one to the count, which is 0 again after 2^64 - 1
abbrev pub Answers : Meaning → (before after : List ℕ) → (count count' : ℕ) → Result (Option ℕ) Refusal → Type 0
Answers m before after n n' (Ok d) = Decodes m before after d × (n' ≡ (n + 1) % 2 ^ 64)
Answers m before after n n' (Err why) = Refuses m before why × (after ≡ before) × (n' ≡ n)

-- check: yes exactly at a codeword
abbrev pub Checks : Meaning → List ℕ → Result Bool Refusal → Type 0
Checks m line (Ok good) = (length line ≡ m.size) × (good ≡ true → Word m line) × (Word m line → good ≡ true)
Checks m line (Err why) = Refuses m line why
