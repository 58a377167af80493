-- What a sequence of syndromes and a polynomial hold, as lists.
use Rattle.std.specs.Prelude.{ℕ, ◌+◌, List, take}
use Rattle.solving.specs.declared.sequence.Syndromes.{Syndromes}
use Rattle.solving.specs.declared.polynomial.Polynomial.{Polynomial}

-- the syndromes, in their order
abbrev pub terms : Syndromes → List ℕ
terms s = take s.count s.terms

-- the coefficients, the lowest first: one more than the degree
abbrev pub coefficients : Polynomial → List ℕ
coefficients p = take (p.degree + 1) p.coefficients

-- the highest power with a coefficient that is not 0
abbrev pub degree : Polynomial → ℕ
degree p = p.degree
