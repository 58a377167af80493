-- The two fields: their tests, which the checker computes, and their laws.
use Rattle.std.specs.Prelude.{refl, ℕ, ◌≤◌}
use Rattle.std.proofs.Common.{lit≤, pow_mono}
use Rattle.fields.specs.Laws.{FieldLaws}
use Rattle.fields.specs.Binary.{disc, sixty_four, binary}
use Rattle.fields.specs.Capped.{total}
use Rattle.fields.specs.OnElements.{LawsOnElements}
use Rattle.fields.specs.Computed.{Tests, elements, laws}

pub disc_tests : Tests 8 285
disc_tests = record {
  more = tt;
  count = refl;
  first = refl;
  round = refl;
  below = tt;
  one = tt;
  logs_below = tt;
  powers = tt;
  back = tt;
  forth = tt;
}

pub gf64_tests : Tests 6 67
gf64_tests = record {
  more = tt;
  count = refl;
  first = refl;
  round = refl;
  below = tt;
  one = tt;
  logs_below = tt;
  powers = tt;
  back = tt;
  forth = tt;
}

-- the laws of a field of 2^m elements by its tests
pub binary_laws : (m p : ℕ) → m ≤ 8 → Tests m p → FieldLaws (binary m p)
binary_laws m p small t = total (elements m p) (laws m p t) (pow_mono {i = m} {j = 8} small)

pub disc_elements : LawsOnElements (elements 8 285)
disc_elements = laws 8 285 disc_tests

pub gf64_elements : LawsOnElements (elements 6 67)
gf64_elements = laws 6 67 gf64_tests

pub disc_laws : FieldLaws disc
disc_laws = binary_laws 8 285 (lit≤ tt) disc_tests

pub gf64_laws : FieldLaws sixty_four
gf64_laws = binary_laws 6 67 (lit≤ tt) gf64_tests
