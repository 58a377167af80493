-- A row that is given new bytes.
use Rattle.std.proofs.Common.{◌≡◌, ℕ, ◌*◌, ◌<◌, List, length, take, drop, ap, ◌∙◌}
use borrow.Rule.Slice.PartMut.{put_mid}
use Rattle.codes.specs.Meaning.{differ}
use Rattle.job_rules.specs.declared.records.Kind.TheVariants.{Row, Column}
use Rattle.job_rules.specs.declared.records.Lines.{Lines}
use Rattle.job_rules.specs.Records.{opened, on}
use Rattle.job_rules.specs.Lines.{where_differ}
use Rattle.job_rules.specs.Calls.{Delivery}
use Rattle.codes.proofs.Rows.{row_becomes}
use Rattle.passes.specs.Steps.{sofar, opened_if}

-- z is the length of the part, as the checker has it
pub delivery : (c r i z n : ℕ) (frame two new : List ℕ) (l l' : Lines) → z ≡ c → length frame ≡ r * c → i < r → length two ≡ c → two ≡ new →
    n ≡ differ (take z (drop (i * c) frame)) new → on Row l' ≡ opened_if n i (on Row l) → on Column l' ≡ where_differ opened (take z (drop (i * c) frame)) new (on Column l) →
    Delivery c r i new (sofar Row l frame 0 0 0).at (sofar Row l' (put_mid (i * c) z frame two) 0 0 0).at
delivery c r i z n frame two new l l' ez size h long same changes own cross =
    let changes' = rw ez at changes in
    let cross' = rw ez at cross in
    rw ez (record {
      frame = row_becomes c r i frame two new size h long same;
      mark = own ∙ ap (λ x. opened_if x i (on Row l)) changes';
      cross = cross';
    })
