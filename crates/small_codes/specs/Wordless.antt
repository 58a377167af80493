-- The code without codewords.
use Rattle.std.specs.Prelude.{ℕ, ◌-◌, ◌/◌, false}
use Rattle.codes.specs.Meaning.{Meaning}

-- lines of n bytes, none of which is a codeword
abbrev pub wordless : ℕ → Meaning
wordless n = record { size = n; reach = (n - 1) / 2; alphabet = 256; word = λ line. false }
