-- Writing corrections under guard, one by one.
use Rattle.std.proofs.Common.{◌≡◌, ℕ, ◌+◌, ◌<◌, ◌≤◌, List, length, get_or, set, Result, Ok, Err, sym, ap, ◌∙◌, ap₂, add-one, arith}
use Rattle.std.proofs.lemmas.List.{get_or-map, length-map}
use Rattle.guard.specs.declared.Guard.{Guard}
use Rattle.guard.specs.declared.refusing.SetError.{SetError}
use Rattle.guard.specs.declared.refusing.SetError.TheVariants.{Place, Room}
use Rattle.guard.specs.Guarded.{bytes, count, Changed, Sets}
use Rattle.errors.specs.Places.{patched}
use Rattle.errors.proofs.Patched.{patched_length, patched_more}
use Rattle.correcting.specs.Corrections.{Inside, places_of, values_of}
use Rattle.correcting.specs.declared.correction.Correction.{Correction}

changed : (place value : ℕ) (before after : Guard) (r : Result Unit SetError) → Sets place value before after r
    → place < length (bytes before) → count before < 32 → Changed place value before after
changed place value before after (Ok u) h inside room = h
changed place value before after (Err Place) h inside room = absurd (omega (arith, h.0))
changed place value before after (Err Room) h inside room = absurd (omega (arith, h.0))

-- one more correction is written
pub wrote : (line : List ℕ) (cs : List Correction) (i : ℕ) (d : Correction) (before after : Guard) (r : Result Unit SetError)
    → Inside line (places_of cs) → i < length cs → length cs ≤ 32 → count before ≡ i
    → bytes before ≡ patched line (places_of cs) (values_of cs) i
    → Sets (get_or cs i d).place (get_or cs i d).value before after r
    → (count after ≡ i + 1) × (bytes after ≡ patched line (places_of cs) (values_of cs) (i + 1))
wrote line cs i d before after r inside l few n is h =
    let place : get_or (places_of cs) i 0 ≡ (get_or cs i d).place = get_or-map (λ (c : Correction). c.place) cs i d 0 l in
    let value : get_or (values_of cs) i 0 ≡ (get_or cs i d).value = get_or-map (λ (c : Correction). c.value) cs i d 0 l in
    let within = inside i (omega (arith, length-map cs (λ (c : Correction). c.place))) in
    let long = patched_length line (places_of cs) (values_of cs) i in
    let now-is = changed _ _ before after r h (omega (arith, ap length is)) (omega arith) in (
      now-is.count ∙ ap (λ k. k + 1) n,
      now-is.line ∙ ap₂ (λ p v. set (bytes before) p v) (sym place) (sym value)
          ∙ ap (λ (xs : List ℕ). set xs (get_or (places_of cs) i 0) (get_or (values_of cs) i 0)) is
          ∙ patched_more line (places_of cs) (values_of cs) i ∙ ap (patched line (places_of cs) (values_of cs)) (sym (add-one i)),
    )
