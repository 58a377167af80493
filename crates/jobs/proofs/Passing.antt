-- One pass of a job: from the tables that it holds to the records of its lines.
use Rattle.std.proofs.Common.{◌≡◌, ℕ, List, take, refl, arith}
use Rattle.codes.specs.Meaning.{Meaning}
use Rattle.job_rules.specs.declared.records.Kind.{Kind}
use Rattle.job_rules.specs.declared.records.Kind.TheVariants.{Row, Column}
use Rattle.job_rules.specs.declared.records.Lines.{Lines}
use Rattle.job_rules.specs.declared.records.Counts.{Counts}
use Rattle.job_rules.specs.declared.answers.Effort.{Effort}
use Rattle.job_rules.specs.Records.{on}
use Rattle.job_rules.specs.Questions.{lines}
use Rattle.job_rules.specs.Lines.{row, column}
use Rattle.job_rules.specs.Passes.{State, Pass, passed}
use Rattle.job_rules.proofs.Cut.{turns_cut}
use Rattle.passes.specs.Steps.{lines_of, sofar, Made}

-- the state of a job with these tables
abbrev pub state_of : (p q : Meaning) (l : Lines) (frame : List ℕ) (counts : Counts) (m n : ℕ) → State
state_of p q l frame counts m n = record { frame = frame; rows = take q.size (on Row l); columns = take p.size (on Column l); counts = counts; row_count = m; column_count = n }

-- n is the number of lines as it was read
pub rows_pass : (p q : Meaning) (kind : Kind) (n : ℕ) (l l' : Lines) (frame frame' : List ℕ) (counts : Counts) (x x' y : ℕ) (e : Effort) → kind ≡ Row → n ≡ lines p q kind →
    Made p (lines_of kind p.size n) n (sofar kind l frame 0 0 x) (sofar kind l' frame' e.decodings e.changes x') →
    Pass p q kind (state_of p q l frame counts x y) (state_of p q l' frame' (passed e counts) x' y) e
rows_pass p q kind n l l' frame frame' counts x x' y e ek en made =
    let en' = rw ek at en in
    let made' = rw (ek, en') at made in
    rw ek (record {
      turns = turns_cut q.size p.size p (row p.size) q.size q.size (sofar Row l frame 0 0 x) (sofar Row l' frame' e.decodings e.changes x') (omega arith) made'.turns;
      other = refl;
      counts = refl;
    })

pub columns_pass : (p q : Meaning) (kind : Kind) (n : ℕ) (l l' : Lines) (frame frame' : List ℕ) (counts : Counts) (x y y' : ℕ) (e : Effort) → kind ≡ Column → n ≡ lines p q kind →
    Made q (lines_of kind q.size n) n (sofar kind l frame 0 0 y) (sofar kind l' frame' e.decodings e.changes y') →
    Pass p q kind (state_of p q l frame counts x y) (state_of p q l' frame' (passed e counts) x y') e
columns_pass p q kind n l l' frame frame' counts x y y' e ek en made =
    let en' = rw ek at en in
    let made' = rw (ek, en') at made in
    rw ek (record {
      turns = turns_cut p.size q.size q (column p.size q.size) p.size p.size (sofar Column l frame 0 0 y) (sofar Column l' frame' e.decodings e.changes y') (omega arith) made'.turns;
      other = refl;
      counts = refl;
    })
