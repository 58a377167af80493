use Rattle.std.proofs.Common.{◌≡◌, ℕ, ◌+◌, ◌-◌, ◌<◌, ◌≤◌, List, length, reverse, take, get_or, replicate, sym, ap, subst, ◌∙◌, arith, rules, length-take-le, get_or-take}
use Rattle.std.proofs.lemmas.List.{get_or-reverse, get_or-replicate, length-replicate}
use Rattle.std.proofs.lemmas.Grind.{common_steps}
use borrow.Rule.Slice.PartMut.{put_mid}
use Rattle.fields.specs.Laws.{Meaning}
use Rattle.coding.specs.Division.{Zero, Completed}
use Rattle.coding.proofs.Divided.{completed, codes_of}
use Rattle.coding.proofs.coder.Coder.code.Goals as goal

-- a line whose end is written
written : (a k : ℕ) (xs ys : List ℕ) → a + k ≡ length xs → length ys ≡ k
    → (length (put_mid a k xs ys) ≡ length xs)
    × ((p : ℕ) → p < a → get_or (put_mid a k xs ys) p 0 ≡ get_or xs p 0)
    × ((q : ℕ) → q < k → get_or (put_mid a k xs ys) (a + q) 0 ≡ get_or ys q 0)
written a k xs ys long e = (grind (arith, common_steps), λ p h. grind (arith, common_steps), λ q h. grind (arith, common_steps))

zero : (n : ℕ) → Zero (replicate n 0)
zero n k h = let e = length-replicate {A = ℕ} n 0 in get_or-replicate n k 0 0 (omega arith)

-- a part from the start of zeros
taken_zero : (n : ℕ) (xs : List ℕ) → n ≤ length xs → Zero xs → Zero (take n xs)
taken_zero n xs l h k lk =
    let e = length-take-le n xs l in
    get_or-take n xs k 0 (omega arith) ∙ h k (omega arith)

pub generator-requires-clause-empty : goal.generator-requires-clause-empty
generator-requires-clause-empty g c = zero 33

pub divide-requires-clause-empty : goal.divide-requires-clause-empty
divide-requires-clause-empty g c = taken_zero c.checks-checks.result (replicate 32 0) (search rules) (zero 32)

pub divide-requires-clause-symbols : goal.divide-requires-clause-symbols
divide-requires-clause-symbols g c =
    let line = c.args.line.now in
    let k = c.args.self.now.numbers.dimension in
    let less = c.args.self.now.numbers.less in
    let q : g.F.Field.meaning.q ≡ 256 = ap (λ (m : Meaning). m.q) g.met.F.DiscField.is_disc in
    let elements : (p : ℕ) → p < length c.args.line.now → get_or c.args.line.now p 0 < g.F.Field.meaning.q = search rules in
    let long : length (take k line) ≡ k = length-take-le k line (omega arith) in
    λ p h.
    subst (λ (a : ℕ). a < g.F.Field.meaning.q) (sym (get_or-take k line p 0 (omega arith))) (elements p (omega arith))

pub returns : goal.returns
returns g c =
    let m = g.F.Field.meaning in
    let n = c.args.self.now.numbers in
    let line = c.args.line.now in
    let r = c.divide.new.r in
    let checks = c.checks-checks.result in
    let less = c.args.self.now.numbers.less in
    let some = c.args.self.now.numbers.some in
    let fits = c.args.self.now.numbers.fits in
    let is = c.args.self.now.disc in
    let q : g.F.Field.meaning.q ≡ 256 = ap (λ (m : Meaning). m.q) g.met.F.DiscField.is_disc in
    let elements : (p : ℕ) → p < length c.args.line.now → get_or c.args.line.now p 0 < g.F.Field.meaning.q = search rules in
    let lr : length c.divide.new.r ≡ c.checks-checks.result = grind (arith, common_steps) in
    let end : c.copy_from_slice.new.self ≡ reverse c.divide.new.r = c.copy_from_slice.ensures.after ∙ c.reverse.ensures.after in
    let part : length c.copy_from_slice.new.self ≡ length c.args.line.now - c.args.self.now.numbers.dimension = grind (arith, common_steps) in
    let after = put_mid n.dimension (length line - n.dimension) line c.copy_from_slice.new.self in
    let w = written n.dimension (length line - n.dimension) line c.copy_from_slice.new.self (omega arith) part in
    let done = completed m g.met.F.Field.laws n.root checks n.dimension line after r
    (omega arith) (omega arith) elements c.divide.ensures.elements lr (omega arith) w.0 w.1
    (λ q h. w.2 q (omega arith) ∙ ap (λ xs. get_or xs q 0) end ∙ get_or-reverse r q 0 h)
    (c.divide.ensures.remains n.root c.generator.ensures.is) in
    codes_of n.length n.dimension n.root n.order line after (omega arith) n.less c.args.self.now.disc
    (subst (λ (m : Meaning). Completed m n.root (n.length - n.dimension) line after) g.met.F.DiscField.is_disc
    (subst (λ (k : ℕ). Completed m n.root k line after) c.checks-checks.ensures done))
