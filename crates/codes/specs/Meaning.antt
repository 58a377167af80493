-- What a line code means: a length, a reach, an alphabet and a set of codewords.
use Rattle.std.specs.Prelude.{◌≡◌, ℕ, ◌+◌, ◌*◌, ◌<◌, ◌≤◌, Bool, true, cond, List, [], ◌∷◌, length, ◌==◌}

-- at how many places two lines differ
abbrev pub differ : List ℕ → List ℕ → ℕ
differ [] ys = 0
differ (x ∷ xs) [] = 0
differ (x ∷ xs) (y ∷ ys) = cond (x == y) 0 1 + differ xs ys

-- every number of a line is below q
abbrev pub Below : ℕ → List ℕ → Type 0
Below q [] = Unit {0}
Below q (x ∷ xs) = (x < q) × Below q xs

-- the four things; word is the test that, of lines of `size` numbers below `alphabet`, tells the codewords
pub record Meaning : Type 0 where
  pub size : ℕ
  pub reach : ℕ
  pub alphabet : ℕ
  pub word : List ℕ → Bool

-- a codeword
pub record Word (m : Meaning) (line : List ℕ) : Type 0 where
  pub long : length line ≡ m.size
  pub below : Below m.alphabet line
  pub is : m.word line ≡ true

-- the limits, and that two different codewords differ at more than twice the reach
pub record Lawful (m : Meaning) : Type 0 where
  pub some : 1 ≤ m.size
  pub short : m.size ≤ 255
  pub half : 2 * m.reach < m.size
  pub two : 2 ≤ m.alphabet
  pub bytes : m.alphabet ≤ 256
  pub apart : (v w : List ℕ) → Word m v → Word m w → differ v w ≤ 2 * m.reach → v ≡ w

-- a line is in reach when all its numbers are below the alphabet and some codeword differs from it at no more than `reach` places
pub record InReach (m : Meaning) (line : List ℕ) : Type 0 where
  pub long : length line ≡ m.size
  pub below : Below m.alphabet line
  pub word : List ℕ
  pub is : Word m word
  pub near : differ line word ≤ m.reach

-- two codes are the same when their four things are; the codewords are compared as sets
pub record SameCode (m m' : Meaning) : Type 0 where
  pub size : m'.size ≡ m.size
  pub reach : m'.reach ≡ m.reach
  pub alphabet : m'.alphabet ≡ m.alphabet
  pub there : (line : List ℕ) → Word m line → Word m' line
  pub back : (line : List ℕ) → Word m' line → Word m line
