-- The codewords of a Reed–Solomon code.
use Rattle.std.specs.Prelude.{ℕ, zero, suc, ◌+◌, ◌-◌, ◌/◌, Bool, true, false, cond, ◌==◌}
use Rattle.fields.specs.Laws.{Meaning}
use Rattle.algebra.specs.Lines.{syndrome}
use Rattle.codes.specs.Meaning.{Meaning as Code}

-- f is 0 at each of the numbers below n
unfoldable pub zeros : (ℕ → ℕ) → ℕ → Bool
zeros f zero = true
zeros f (suc n) = cond (f n == 0) (zeros f n) false

-- the code with the numbers n, k, b and q over a field: n symbols, of which all n - k syndromes from b on are 0.
-- Under the numbers of another field than that of q elements nothing is a codeword
abbrev pub reed_solomon_code : Meaning → (n k b q : ℕ) → Code
reed_solomon_code m n k b q = record {
  size = n;
  reach = (n - k) / 2;
  alphabet = m.q;
  word = λ line. cond (q == m.q) (zeros (λ i. syndrome m line (b + i)) (n - k)) false;
}
