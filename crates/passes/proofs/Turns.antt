-- Turns of the loop over the lines of a kind, as the loop has them.
use Rattle.std.proofs.Common.{◌≡◌, ℕ, ◌+◌, ◌*◌, ◌<◌, ◌≤◌, ◌-◌, List, length, take, drop, sym, refl, ◌∙◌, subst, arith, mul_comm, length-drop, length-take}
use borrow.Rule.Slice.PartMut.{put_mid}
use Rattle.codes.specs.Meaning.{Meaning}
use Rattle.job_rules.specs.declared.records.Kind.{Kind}
use Rattle.job_rules.specs.declared.records.Kind.TheVariants.{Row, Column}
use Rattle.job_rules.specs.declared.records.Lines.{Lines}
use Rattle.job_rules.specs.declared.answers.Effort.{Effort}
use Rattle.job_rules.specs.Records.{on}
use Rattle.job_rules.specs.Lines.{row, Becomes}
use Rattle.job_rules.specs.Passes.{Progress}
use Rattle.codes.proofs.Rows.{row_becomes, row_end}
use Rattle.codes.proofs.Views.{Shows, rows_show, columns_show}
use Rattle.job_rules.proofs.Lengths.{turns_long}
use Rattle.passes.specs.Steps.{lines_of, Visited, sofar, MadeTo}
use Rattle.passes.proofs.Turning.{made_more}

-- the part of a frame that is row i
pub part_long : (n i w : ℕ) (frame : List ℕ) → i < n → length frame ≡ n * w → length (take (i * w + w - i * w) (drop (i * w) frame)) ≡ w
part_long n i w frame l size = let end = row_end n i w l in simp (length-take, length-drop) (omega arith)

-- row i is decoded in the frame: c' is its length as it was read, and z the length of the part
pub row_put : (kind : Kind) (c c' n i z : ℕ) (frame two : List ℕ) → kind ≡ Row → c' ≡ c → z ≡ c' → length frame ≡ n * c → i < n → length two ≡ z →
    Becomes (lines_of kind c n) n i (lines_of kind c n (put_mid (i * c') z frame two) i) frame (put_mid (i * c') z frame two)
row_put kind c c' n i z frame two ek ec ez size within long =
    let b = row_becomes c n i frame two two size within (long ∙ ez ∙ ec) refl in
    rw (ek, ez, ec) (subst (λ (x : List ℕ). Becomes (row c) n i x frame (put_mid (i * c) c frame two)) (sym b.here) b)

-- a frame is known by its lines of one kind
show : (kind : Kind) (c n : ℕ) → Shows (lines_of kind c n) n (n * c)
show Row c n = rows_show c n
show Column c n = let e = mul_comm c n in subst (λ (x : ℕ). Shows (lines_of Column c n) n x) e (columns_show n c)

-- m₀ is the code of this turn
pub turn_more : (kind : Kind) (m m₀ : Meaning) (n i : ℕ) (s : Progress) (frame frame' : List ℕ) (l l' : Lines) (d c k k' : ℕ) (e : Effort) →
    m₀ ≡ m → length s.at.frame ≡ n * m.size → i < n → length (on kind l) ≡ 255 → n ≤ 255 →
    Becomes (lines_of kind m₀.size n) n i (lines_of kind m₀.size n frame' i) frame frame' →
    MadeTo i m (lines_of kind m.size n) n s (sofar kind l frame d c k) →
    Visited m₀ k k' kind i l l' (lines_of kind m₀.size n frame i) (lines_of kind m₀.size n frame' i) e →
    MadeTo (i + 1) m (lines_of kind m.size n) n s (sofar kind l' frame' (d + e.decodings) (c + e.changes) k')
turn_more kind m m₀ n i s frame frame' l l' d c k k' e em size within table short becomes u v =
    let v' = rw em at v in
    let becomes' = rw em at becomes in
    let was : length frame ≡ n * m.size = turns_long m (lines_of kind m.size n) n i s (sofar kind l frame d c k) u.turns ∙ size in
    made_more m (lines_of kind m.size n) n (n * m.size) i (show kind m.size n) kind l l' frame frame' (lines_of kind m.size n frame' i) d c k k' e was becomes' v' s (omega arith) u
