use Rattle.std.proofs.Common.{◌≡◌, ℕ, suc, List, ◌+◌, ◌-◌, ◌<◌, ◌≤◌, ◌++◌, length, take, drop, sym, ap, ◌∙◌, subst, ap₂, add-zero, arith, length-set, length-take-le, get_or-take}
use Rattle.std.proofs.lemmas.List.{take_at}
use Rattle.std.proofs.lemmas.Grind.{common_steps}
use Rattle.fields.specs.Laws.{Meaning, power}
use Rattle.algebra.specs.Lines.{Elements}
use Rattle.algebra.proofs.Numbers.{⟨◌⟩}
use Rattle.coding.specs.Division.{Shifts, shifted}
use Rattle.coding.proofs.Register.{Multiplied}
use Rattle.coding.proofs.Divided.{one_below, gen_start, gen_step, generator_of}
use Rattle.coding.proofs.division.generator.Goals as goal

part_elements : (m : Meaning) (n : ℕ) (xs : List ℕ) → n ≤ length xs → Elements m xs → Elements m (take n xs)
part_elements m n xs l h k lk =
    let e = length-take-le n xs l in
    subst (λ (a : ℕ). a < m.q) (sym (get_or-take n xs k 0 (omega arith))) (h k (omega arith))

part_multiplied : (m : Meaning) (b i n : ℕ) (xs : List ℕ) → n ≤ length xs → Multiplied m b xs i → Multiplied m b (take n xs) i
part_multiplied m b i n xs l h t k lk =
    let e = length-take-le n xs l in
    ap (⟨◌⟩ m t) (get_or-take n xs k 0 (omega arith)) ∙ h t k (omega arith)

pub loop-i-init : goal.loop-i-init
loop-i-init g c =
    let m = g.F.Field.meaning in
    let t = g.met.F.Field.laws in
    let long = length-set c.args.g.now 0 1 in (
      omega arith,
      part_elements m (c.args.n + 1) _ (omega arith) (one_below m t c.args.g.now c.requires.empty),
      c.power-z.ensures ∙ ap₂ (power m.mul) (c.GENERATOR.ensures ∙ g.met.F.Field.generator) (sym (add-zero c.args.b)),
      part_multiplied m c.args.b 0 (c.args.n + 1) _ (omega arith) (gen_start m c.args.b c.args.g.now (omega arith) c.requires.empty long),
    )

pub loop-i-preserved : goal.loop-i-preserved
loop-i-preserved g c =
    let m = g.F.Field.meaning in
    let l = c.loop-i in
    let part = take (c.args.n + 1) l.g in
    let r = c.shift.new.r in
    let e : suc (c.args.b + l._i) ≡ c.args.b + (l._i + 1) = omega arith in
    let long : length c.shift.new.r ≡ c.args.n + 1 = c.shift.auto.r ∙ length-take-le (c.args.n + 1) l.g (omega (arith, l.invariant.0)) in
    let all : length (c.shift.new.r ++ drop (c.args.n + 1) l.g) ≡ 33 = grind (arith, common_steps, long, l.invariant.0) in
    let back : take (c.args.n + 1) (c.shift.new.r ++ drop (c.args.n + 1) l.g) ≡ c.shift.new.r = take_at c.shift.new.r _ (c.args.n + 1) long in
    let is : Shifts m part l.z part r =
    λ k h. c.shift.ensures.is k h ∙ ap (λ a. m.add (shifted part k) (m.mul l.z a)) (sym (get_or-take (c.args.n + 1) l.g k 0 (omega (arith, h, c.shift.auto.r, long)))) in (
      all,
      subst (Elements m) (sym back) c.shift.ensures.elements,
      c.product-z.ensures.value ∙ ap₂ m.mul (c.GENERATOR-in-loop-i.ensures ∙ g.met.F.Field.generator) l.invariant.2 ∙ ap (power m.mul m.g) e,
      subst (λ (xs : List ℕ). Multiplied m c.args.b xs (l._i + 1)) (sym back)
          (gen_step m c.args.b l._i l.z part r l.invariant.3 l.invariant.2 c.shift.auto.r is),
    )

pub slice_bounds-shift-end-in-loop-i-2 : goal.slice_bounds-shift-end-in-loop-i-2
slice_bounds-shift-end-in-loop-i-2 g c = sym c.loop-i.invariant.0

pub returns : goal.returns
returns g c =
    let m = g.F.Field.meaning in
    let l = c.loop-i in
    let part = take (c.args.n + 1) l.g in
    let long = length-take-le (c.args.n + 1) l.g (omega (arith, l.invariant.0)) in
    let all : l._i ≡ length (take (c.args.n + 1) l.g) - 1 = omega arith in
    record {
      elements = l.invariant.1;
      is = generator_of m g.met.F.Field.laws c.args.b part (omega arith) l.invariant.1 (subst (λ (n : ℕ). Multiplied m c.args.b part n) all l.invariant.3);
    }
