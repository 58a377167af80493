use Rattle.std.proofs.Common.{◌≡◌, ℕ, ◌+◌, ◌<◌, List, length, take, set, sym, ap, ◌∙◌, arith, get_or-take, length-take-le, length-set}
use Rattle.std.proofs.Math.Seq.{take-set-lt}
use Rattle.solving.proofs.recurrence.Recurrence.cut.Goals as goal

-- a list that is 0 but at i, cut behind i
kept : (n i : ℕ) (xs ys zs : List ℕ) → xs ≡ take n ys → ys ≡ set zs i 1 → i < n → xs ≡ set (take n zs) i 1
kept n i xs ys zs e f l = e ∙ ap (take n) f ∙ take-set-lt n zs i 1 l

pub returns : goal.returns
returns c =
    let h = c.requires.start in
    let n = c.args.n + 2 in
    let zs = h.zeros in
    let all : length zs ≡ 34 = sym (length-set zs 0 1) ∙ ap length (sym h.locator) ∙ h.room in
    let long : length (take n zs) ≡ n = length-take-le n zs (omega (arith, c.requires.few)) in
    let first = kept n 0 c.truncate.new.self.items c.args.self.now.locator.items zs c.truncate.ensures.items h.locator (omega arith) in
    record {
      zeros = take n zs;
      cleared = λ k l. let m : k < n = omega arith in get_or-take n zs k 0 m ∙ h.cleared k (omega arith);
      locator = first;
      previous = kept n 1 c.truncate-2.new.self.items c.args.self.now.previous.items zs c.truncate-2.ensures.items h.previous (omega arith);
      room = ap length first ∙ length-set (take n zs) 0 1 ∙ long;
      length = h.length;
      longer = h.longer;
      scale = h.scale;
    }
