use Rattle.std.proofs.Common.{◌≡◌, ℕ, ◌+◌, ◌<◌, ◌-◌, length, get_or, sym, refl, subst, arith}
use Rattle.coding.specs.Division.{Shifts}
use Rattle.algebra.proofs.Elements.{some}
use Rattle.coding.proofs.Register.{Fed}
use Rattle.coding.proofs.Divided.{fed_start, fed_step, remains_of}
use Rattle.coding.proofs.division.divide.Goals as goal

pub loop-symbol-init : goal.loop-symbol-init
loop-symbol-init g c =
    let m = g.F.Field.meaning in
    let t = g.met.F.Field.laws in (
      λ k h. subst (λ (n : ℕ). n < m.q) (sym (c.requires.empty k h)) (some m t),
      λ b gen. fed_start m b _ (length c.args.message.now) c.args.message.now c.args.r.now c.requires.empty,
    )

pub loop-symbol-preserved : goal.loop-symbol-preserved
loop-symbol-preserved g c =
    let m = g.F.Field.meaning in
    let l = c.loop-symbol in
    let message = c.args.message.now in
    let fed : c.sum.result ≡ m.add (get_or message l.symbol-index 0) (get_or l.r (length l.r - 1) 0) =
    c.sum.ensures.value (c.requires.symbols l.symbol-index (omega arith)) (l.invariant.0 (length l.r - 1) (omega (arith, c.requires.some))) in (
      c.shift.ensures.elements,
      λ b gen.
          subst (λ (n : ℕ). Fed m b (length message + n) (length message) message c.shift.new.r (l.symbol-index + 1)) (sym c.shift.auto.r)
          (fed_step m b (length message + length l.r) (length message) l.symbol-index message l.r c.shift.new.r c.args.g.now
          (omega arith) (omega arith) c.shift.auto.r (omega arith) refl gen (subst (λ (f : ℕ). Shifts m l.r f c.args.g.now c.shift.new.r) fed c.shift.ensures.is) (l.invariant.1 b gen)),
    )

pub returns-clause-remains : goal.returns-clause-remains
returns-clause-remains g c =
    let m = g.F.Field.meaning in
    let message = c.args.message.now in
    let all : c.loop-symbol.symbol-index ≡ length c.args.message.now = omega arith in
    λ b gen.
    remains_of m g.met.F.Field.laws b message c.loop-symbol.r
    (subst (λ (j : ℕ). Fed m b (length message + length c.loop-symbol.r) (length message) message c.loop-symbol.r j) all (c.loop-symbol.invariant.1 b gen))
