-- The steps of the Berlekamp–Massey method, on its recurrence.
use Rattle.std.specs.Prelude.{◌≡◌, ℕ, ◌+◌, List, slice_set}
use Rattle.fields.specs.Laws.{Meaning}
use Rattle.arrayvec.specs.ArrayVec.{array_vec_len}
use Rattle.solving.specs.Steps.{Cleared, MovesUp, Mixes}
use Rattle.solving.specs.declared.recurrence.Recurrence.{Recurrence}

-- the recurrence of no syndromes, with n + 2 coefficients: its locator is 1, and the previous one x
pub record Starts (n : ℕ) (x : Recurrence) : Type 0 where
  pub zeros : List ℕ
  pub cleared : Cleared zeros
  pub locator : x.locator.items ≡ slice_set zeros 0 1
  pub previous : x.previous.items ≡ slice_set zeros 1 1
  pub room : array_vec_len x.locator ≡ n + 2
  pub length : x.length ≡ 0
  pub longer : x.longer ≡ 1
  pub scale : x.scale ≡ 1

-- the step at the discrepancy d that keeps the length
pub record Keeps (m : Meaning) (d : ℕ) (before after : Recurrence) : Type 0 where
  pub mends : Mixes m before.scale before.locator.items d before.previous.items after.locator.items
  pub moves : MovesUp before.previous.items after.previous.items
  pub room : array_vec_len after.locator ≡ array_vec_len before.locator
  pub length : after.length ≡ before.length
  pub longer : after.longer ≡ before.longer + 1
  pub scale : after.scale ≡ before.scale

-- the step at the discrepancy d that changes it
pub record Grows (m : Meaning) (d : ℕ) (before after : Recurrence) : Type 0 where
  pub mends : Mixes m before.scale before.locator.items d before.previous.items after.locator.items
  pub moves : MovesUp before.locator.items after.previous.items
  pub room : array_vec_len after.locator ≡ array_vec_len before.locator
  pub length : after.length ≡ before.longer
  pub longer : after.longer ≡ before.length + 1
  pub scale : after.scale ≡ d
