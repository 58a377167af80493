-- What a cautious repetition code means.
use Rattle.codes.specs.Meaning.{Meaning}
use Rattle.codes.specs.Cautious.{cautious}
use Rattle.codes.specs.declared.cautious.Cautious.{Cautious}
use Rattle.small_codes.specs.Repetition.{repetition}
use Rattle.small_codes.specs.declared.small.Small.{Small}
use Rattle.small_codes.specs.declared.repetition.AllEqual.{AllEqual}

-- the repetition code of its length, under its own reach
abbrev pub repeated : Cautious (Small AllEqual) → Meaning
repeated c = cautious (repetition c.code.length) c.reach
