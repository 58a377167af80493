-- A line that is not open is what a decoding of it would leave.
use Rattle.std.proofs.Common.{◌≡◌, ℕ, ◌+◌, ◌*◌, ◌<◌, ◌≤◌, Bool, true, false, cond, eqb, ◌⊎◌, List, length, get_or, set, sym, refl, ap, ◌∙◌, subst, inl, inr, arith, eqb-true, Option, Some, None}
use Rattle.std.proofs.lemmas.List.{get_or-set_same, get_or-set_other, length-set, ext_get_or}
use Rattle.std.proofs.lemmas.Bool.{cases_eq}
use Rattle.codes.specs.Meaning.{Meaning, Word, InReach, differ}
use Rattle.codes.specs.Answers.{Decodes}
use Rattle.job_rules.specs.declared.records.Standing.{Standing}
use Rattle.job_rules.specs.declared.records.Standing.TheVariants.{Open, Sound, Stuck as Fast}
use Rattle.job_rules.specs.declared.records.Record.{Record}
use Rattle.job_rules.specs.Records.{fresh, opened}
use Rattle.job_rules.specs.Lines.{decided, row, column, where_differ, Seen, Becomes, Decoding}
use Rattle.job_rules.specs.Passes.{Progress, Turn}
use Rattle.job_rules.specs.Calls.{Delivery}
use Rattle.job_rules.proofs.Places.{wd_at, length_wd}
use Rattle.job_rules.proofs.Differ.{differ_none}
use Rattle.codes.proofs.Views.{row_at, row_long}
use Rattle.codes.proofs.Places.{columns_same, column_at}

abbrev pub Settles : Meaning → Standing → List ℕ → Type 0
Settles m Open line = Unit {0}
Settles m Sound line = Word m line
Settles m Fast line = (length line ≡ m.size) × (InReach m line → ⊥)

-- where line i of one view changes at no place k, line k of the other does not change
abbrev pub Crosses : (view view₂ : List ℕ → ℕ → List ℕ) (lines size len : ℕ) → Type 0
Crosses view view₂ lines size len = (i k : ℕ) (line' frame frame' : List ℕ) → length frame ≡ len → i < lines → k < size → Becomes view lines i line' frame frame' → get_or (view frame i) k 0 ≡ get_or line' k 0 → view₂ frame' k ≡ view₂ frame k

pub rows_cross : (c r : ℕ) → Crosses (row c) (column c r) r c (r * c)
rows_cross c r i k line' frame frame' size l h b e = columns_same c r frame' frame k (λ j w. at j w (cases_eq j i))
  where
    at : (j : ℕ) → j < r → (j ≡ i) ⊎ (j ≡ i → ⊥) → get_or frame' (j * c + k) 0 ≡ get_or frame (j * c + k) 0
    at j w (inl f) =
        let a : get_or frame' (i * c + k) 0 ≡ get_or frame (i * c + k) 0 = sym (row_at c i k frame' h) ∙ ap (λ x. get_or x k 0) b.here ∙ sym e ∙ row_at c i k frame h in
        rw f a
    at j w (inr f) = sym (row_at c j k frame' h) ∙ ap (λ x. get_or x k 0) (b.others j w f) ∙ row_at c j k frame h

pub columns_cross : (c r : ℕ) → Crosses (column c r) (row c) c r (r * c)
columns_cross c r i k line' frame frame' size l h b e =
    let long = row_long c r k frame' (b.long ∙ size) h in
    ext_get_or 0 (row c frame' k) (row c frame k) (long ∙ sym (row_long c r k frame size h)) (λ j w. row_at c k j frame' (omega arith) ∙ at j (omega arith) (cases_eq j i) ∙ sym (row_at c k j frame (omega arith)))
  where
    at : (j : ℕ) → j < c → (j ≡ i) ⊎ (j ≡ i → ⊥) → get_or frame' (k * c + j) 0 ≡ get_or frame (k * c + j) 0
    at j w (inl f) =
        let a : get_or frame' (k * c + i) 0 ≡ get_or frame (k * c + i) 0 = sym (column_at c r frame' i k h) ∙ ap (λ x. get_or x k 0) b.here ∙ sym e ∙ column_at c r frame i k h in
        rw f a
    at j w (inr f) = sym (column_at c r frame' j k h) ∙ ap (λ x. get_or x k 0) (b.others j w f) ∙ column_at c r frame j k h

pub record Settled (m m₂ : Meaning) (view view₂ : List ℕ → ℕ → List ℕ) (lines len : ℕ) (s : Seen) : Type 0 where
  pub on : (k : ℕ) → k < lines → Settles m (get_or s.on k fresh).standing (view s.frame k)
  pub across : (k : ℕ) → k < m.size → Settles m₂ (get_or s.across k fresh).standing (view₂ s.frame k)
  pub tall : lines ≤ length s.on
  pub wide : m.size ≤ length s.across
  pub size : length s.frame ≡ len

settled_by : (m : Meaning) (r : Record) (line line' : List ℕ) (a : Option ℕ) → Decodes m line line' a → Settles m (decided r a).standing line'
settled_by m r line line' (Some k) d = d.word
settled_by m r line line' None d = (ap length d.same ∙ d.long, λ w. d.far (subst (InReach m) d.same w))

pub decodes_long : (m : Meaning) (line line' : List ℕ) (a : Option ℕ) → Decodes m line line' a → (length line ≡ m.size) × (length line' ≡ m.size)
decodes_long m line line' (Some k) d = (d.long, d.word.long)
decodes_long m line line' None d = (d.long, ap length d.same ∙ d.long)

module _ (m m₂ : Meaning) (view view₂ : List ℕ → ℕ → List ℕ) (lines len : ℕ) (crosses : Crosses view view₂ lines m.size len) where
  -- line i became line', with the record r', and what crosses its changed places was opened
  module _ (i : ℕ) (within : i < lines) (s t : Seen) (line' : List ℕ) (r' : Record) (u : Settled m m₂ view view₂ lines len s)
      (long : length (view s.frame i) ≡ m.size) (long' : length line' ≡ m.size)
      (becomes : Becomes view lines i line' s.frame t.frame)
      (mark : t.on ≡ set s.on i r')
      (cross : t.across ≡ where_differ opened (view s.frame i) line' s.across)
      (here : Settles m r'.standing line') where
    on_at : (k : ℕ) → k < lines → (k ≡ i) ⊎ (k ≡ i → ⊥) → Settles m (get_or t.on k fresh).standing (view t.frame k)
    on_at k l (inl e) =
        let a : get_or t.on i fresh ≡ r' = ap (λ x. get_or x i fresh) mark ∙ get_or-set_same s.on i r' fresh (omega (arith, u.tall)) in
        rw (e, a, becomes.here) here
    on_at k l (inr ne) =
        let a : get_or t.on k fresh ≡ get_or s.on k fresh = ap (λ x. get_or x k fresh) mark ∙ get_or-set_other s.on i k r' fresh ne in
        rw (a, becomes.others k l ne) (u.on k l)

    across_at : (k : ℕ) → k < m.size → (b : Bool) → eqb (get_or (view s.frame i) k 0) (get_or line' k 0) ≡ b → Settles m₂ (get_or t.across k fresh).standing (view₂ t.frame k)
    across_at k l b e =
        let a : get_or t.across k fresh ≡ cond (eqb (get_or (view s.frame i) k 0) (get_or line' k 0)) (get_or s.across k fresh) (opened (get_or s.across k fresh)) = ap (λ x. get_or x k fresh) cross ∙ wd_at opened fresh (view s.frame i) line' s.across k (long ∙ sym long') (omega arith) (omega (arith, u.wide)) in
        let P : Record → Type 0 = λ x. Settles m₂ x.standing (view₂ t.frame k) in
        subst P (sym a) (go b e)
      where
        go : (b : Bool) → eqb (get_or (view s.frame i) k 0) (get_or line' k 0) ≡ b → Settles m₂ (cond (eqb (get_or (view s.frame i) k 0) (get_or line' k 0)) (get_or s.across k fresh) (opened (get_or s.across k fresh))).standing (view₂ t.frame k)
        go true e = rw (e, crosses i k line' s.frame t.frame u.size within l becomes (eqb-true _ _ e)) (u.across k l)
        go false e = rw e tt

    pub line_settles : Settled m m₂ view view₂ lines len t
    line_settles = record {
      on = λ k l. on_at k l (cases_eq k i);
      across = λ k l. across_at k l _ refl;
      tall = omega (arith, u.tall, ap length mark, length-set s.on i r');
      wide = omega (arith, u.wide, ap length cross, length_wd opened (view s.frame i) line' s.across);
      size = becomes.long ∙ u.size;
    }

  pub decoding_settles : (i : ℕ) → i < lines → (s t : Seen) → Settled m m₂ view view₂ lines len s → Decoding m view lines i s t → Settled m m₂ view view₂ lines len t
  decoding_settles i l s t u d =
      let longs = decodes_long m (view s.frame i) d.line' d.answer d.decodes in
      line_settles i l s t d.line' (decided (get_or s.on i fresh) d.answer) u longs.0 longs.1 d.frame d.mark d.cross
      (settled_by m (get_or s.on i fresh) (view s.frame i) d.line' d.answer d.decodes)

  pub turn_settles : (i : ℕ) → i < lines → (s t : Progress) (st : Standing) → Settled m m₂ view view₂ lines len s.at → Turn st m view lines i s t → Settled m m₂ view view₂ lines len t.at
  turn_settles i l s t Open u h = decoding_settles i l s.at t.at u h.line
  turn_settles i l s t Sound u h = subst (λ (x : Progress). Settled m m₂ view view₂ lines len x.at) (sym h) u
  turn_settles i l s t Fast u h = subst (λ (x : Progress). Settled m m₂ view view₂ lines len x.at) (sym h) u

-- a redelivery keeps lines settled
pub delivery_settles : (m m₂ : Meaning) (r i : ℕ) (bytes : List ℕ) (s t : Seen) → i < r → length bytes ≡ m.size → Settled m m₂ (row m.size) (column m.size r) r (r * m.size) s → Delivery m.size r i bytes s t → Settled m m₂ (row m.size) (column m.size r) r (r * m.size) t
delivery_settles m m₂ r i bytes s t l long u h =
    line_settles m m₂ (row m.size) (column m.size r) r (r * m.size) (rows_cross m.size r) i l s t bytes _ u was long h.frame h.mark h.cross (here _ refl)
  where
    was : length (row m.size s.frame i) ≡ m.size
    was = row_long m.size r i s.frame u.size l

    here : (b : Bool) → eqb (differ (row m.size s.frame i) bytes) 0 ≡ b → Settles m (cond (eqb (differ (row m.size s.frame i) bytes) 0) (get_or s.on i fresh) (opened (get_or s.on i fresh))).standing bytes
    here true e =
        let same = differ_none (row m.size s.frame i) bytes (was ∙ sym long) (eqb-true _ _ e) in
        rw (e, ← same) (u.on i l)
    here false e = rw e tt
