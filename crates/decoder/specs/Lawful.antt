-- A Reed–Solomon code is lawful as a line code, and its codewords are recovered.
use Rattle.std.specs.Prelude.{ℕ, ◌-◌, ◌/◌, ◌≤◌}
use Rattle.std.proofs.Common.{arith}
use Rattle.fields.specs.Laws.{Meaning, FieldLaws}
use Rattle.codes.specs.Meaning.{Lawful}
use Rattle.codes.proofs.Nearest.{recovers}
use Rattle.reed_solomon.specs.Numbers.{Within}
use Rattle.reed_solomon.specs.Words.{reed_solomon_code}
use Rattle.reed_solomon.specs.Lines.{code_of}
use Rattle.reed_solomon.specs.declared.numbers.CodeNumbers.{CodeNumbers}
use Rattle.reed_solomon.proofs.Apart.{apart}
use Rattle.decoder.specs.Recovering.{RecoversWithin}

pub lawful : (m : Meaning) → FieldLaws m → (n k b q : ℕ) → Within n k b q → Lawful (reed_solomon_code m n k b q)
lawful m t n k b q within =
    let some = within.some in
    let less = within.less in
    record {
      some = omega arith;
      short = within.short;
      half = omega arith;
      two = t.two;
      bytes = t.bytes;
      apart = λ v w hv hw near. apart m t n k b q within v w hv hw (omega arith);
    }

pub line_is_lawful : (m : Meaning) → FieldLaws m → (c : CodeNumbers) → Lawful (code_of m c)
line_is_lawful m t c =
    lawful m t c.length c.dimension c.root c.order
    (record { some = c.some; less = c.less; short = c.short; fits = c.fits; checks = c.checks; first = c.first; two = c.two; bytes = c.bytes })

pub recovers_within : (m : Meaning) → FieldLaws m → (n k b q t : ℕ) → Within n k b q → t ≤ (n - k) / 2 → RecoversWithin t (reed_solomon_code m n k b q)
recovers_within m laws n k b q t within l sent line after c c' r word long below few answer =
    recovers (reed_solomon_code m n k b q) (lawful m laws n k b q within) line after c c' r answer sent
    (record { word = word; long = long; below = below; few = omega arith })
