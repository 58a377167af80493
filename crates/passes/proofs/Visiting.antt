-- A pass that comes to one line.
use Rattle.std.proofs.Common.{◌≡◌, ℕ, ◌≤◌, List, get_or, sym, refl, arith}
use Rattle.std.proofs.lemmas.List.{set-get_or}
use Rattle.codes.specs.Meaning.{Meaning, Lawful}
use Rattle.job_rules.specs.declared.records.Standing.{Standing}
use Rattle.job_rules.specs.declared.records.Standing.TheVariants.{Open, Sound, Stuck}
use Rattle.job_rules.specs.declared.records.Record.{Record}
use Rattle.job_rules.specs.declared.records.Kind.{Kind}
use Rattle.job_rules.specs.declared.records.Lines.{Lines}
use Rattle.job_rules.specs.declared.answers.Effort.{Effort}
use Rattle.job_rules.specs.Records.{fresh, opened, on, crossing}
use Rattle.job_rules.proofs.Places.{wd_self}
use Rattle.job_rules.proofs.Tallies.{decided_near}
use Rattle.passes.specs.Steps.{DecodesLine, By, Visited}

module _ (m : Meaning) (n : ℕ) (kind : Kind) (i : ℕ) (l : Lines) (line : List ℕ) (e : Effort) (never : e.decodings ≡ 0) (none : e.changes ≡ 0) where
  skips : (st : Standing) → (st ≡ Open → ⊥) → By st m n n (get_or (on kind l) i fresh) (get_or (on kind l) i fresh) line line e
  skips Open other = absurd (other refl)
  skips Sound other = record { same = refl; mark = refl; never = never; changes = none; count = refl }
  skips Stuck other = record { same = refl; mark = refl; never = never; changes = none; count = refl }

  -- a line that is not open stays as it is
  pub skipped : ((get_or (on kind l) i fresh).standing ≡ Open → ⊥) → Visited m n n kind i l l line line e
  skipped other = record {
    after = get_or (on kind l) i fresh;
    by = skips (get_or (on kind l) i fresh).standing other;
    own = sym (set-get_or (on kind l) i fresh);
    cross = sym (wd_self opened line (on (crossing kind) l));
  }

-- a decoding changes fewer places than a line can have
pub few_changed : (m : Meaning) (n n' : ℕ) (r r' : Record) (one two : List ℕ) (e : Effort) → Lawful m → DecodesLine m n n' r r' one two e → e.changes ≤ 255
few_changed m n n' r r' one two e law d = omega (arith, d.changes, decided_near m one two d.answer d.decodes, law.half, law.short)
