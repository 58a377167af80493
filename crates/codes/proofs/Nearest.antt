-- At most one codeword is in reach of a line.
use Rattle.std.proofs.Common.{◌≡◌, ℕ, ◌<◌, ◌≤◌, min, List, length, Ok, Err, Result, sym, ap, ◌∙◌, arith, Option, Some, None}
use Rattle.codes.specs.Meaning.{Meaning, Lawful, Word, InReach, differ}
use Rattle.codes.specs.Answers.{Mends, Answers}
use Rattle.codes.specs.Recovery.{Recovers}
use Rattle.codes.specs.declared.Refusal.{Refusal}
use Rattle.codes.specs.Cautious.{cautious}
use Rattle.codes.proofs.Lines.{differ_sym, differ_through}

pub nearest : (m : Meaning) → Lawful m → (line v w : List ℕ) → Word m v → Word m w → length line ≡ m.size
    → differ line v ≤ m.reach → differ line w ≤ m.reach → v ≡ w
nearest m law line v w hv hw long nv nw =
    law.apart v w hv hw (omega (arith, differ_through v line w (hv.long ∙ sym long), differ_sym v line))

-- where the code below changed more places than the cautious reach, no codeword is in that reach
pub beyond : (m : Meaning) → Lawful m → (s : ℕ) (before after : List ℕ) (k : ℕ) → Mends m before after k
    → min s m.reach < k → InReach (cautious m s) before → ⊥
beyond m law s before after k mended far near =
    let w : Word m near.word = record { long = near.is.long; below = near.is.below; is = near.is.is } in
    let d = near.near in
    let same : after ≡ near.word =
    nearest m law before after near.word mended.word w mended.long (omega (arith, mended.changes, mended.near)) (omega arith) in
    omega (arith, ap (differ before) same, mended.changes)

-- what every line code answers recovers each codeword that was corrupted within reach
pub recovers : (m : Meaning) → Lawful m → (before after : List ℕ) (n n' : ℕ) (r : Result (Option ℕ) Refusal)
    → Answers m before after n n' r → Recovers m before after r
recovers m law before after n n' (Ok (Some k)) a sent h =
    let flip = differ_sym sent before in
    let few = h.few in
    let d = a.0 in
    let same : after ≡ sent =
    nearest m law before after sent d.word h.word h.long (omega (arith, d.changes, d.near)) (omega arith) in
    (same, ap (λ (x : ℕ). Ok (Some x)) (sym d.changes ∙ ap (differ before) same ∙ sym flip))
recovers m law before after n n' (Ok None) a sent h =
    absurd (a.0.far (record { long = h.long; below = h.below; word = sent; is = h.word; near = omega (arith, differ_sym sent before, h.few) }))
recovers m law before after n n' (Err why) a sent h = absurd (a.0.other h.long)
