-- What shifting and reducing asks of a polynomial.
use Rattle.std.specs.Prelude.{ℕ, ◌<◌, ◌^◌}
use Rattle.fields.specs.Binary.{shift}

-- reducing by p, of degree m, brings the product by x below 2^m
abbrev pub Closed : (m p : ℕ) → Type 0
Closed m p = (a : ℕ) → a < 2 ^ m → shift m p a < 2 ^ m
