-- The thorough reader decodes every line.
use Rattle.std.proofs.Common.{◌≡◌, ℕ, zero, suc, ◌+◌, List, ap, arith}
use Rattle.codes.specs.Meaning.{Meaning}
use Rattle.job_rules.specs.declared.records.Kind.{Kind}
use Rattle.job_rules.specs.Records.{crossing}
use Rattle.job_rules.specs.Questions.{lines}
use Rattle.job_rules.specs.Lines.{line, code, InOrder}
use Rattle.job_rules.specs.Reader.{Reader, Headway, Reading, headway, Through, AllPasses}
use Rattle.job_rules.specs.Laws.{ReadsAll}

readings : (m : Meaning) (kind : Kind) (view : List ℕ → ℕ → List ℕ) (n k : ℕ) (s t : Headway) → InOrder (Reading m kind view n) k s t → t.decodings ≡ s.decodings + k
unfolding InOrder
readings m kind view n zero s t h = omega (arith, ap (λ x. x.decodings) h)
readings m kind view n (suc k) s t (u, h) = omega (arith, h.1.decodings, readings m kind view n k s u h.0)

through_all : (p q : Meaning) (kind : Kind) (s t : Reader) (n : ℕ) → Through p q kind s t n → t.decodings ≡ s.decodings + lines p q kind
through_all p q kind s t n h = readings (code p q kind) kind (line p q kind) (lines p q kind) (lines p q kind) (headway kind s 0) (headway kind t n) h.turns

pub reads_all : ReadsAll
unfolding AllPasses
reads_all p q zero kind s t n h = omega (arith, ap (λ x. x.decodings) h.0)
reads_all p q (suc l) kind s t n h =
    omega (arith, through_all p q kind s h.next h.first h.made, reads_all p q l (crossing kind) h.next t h.left h.rest)
