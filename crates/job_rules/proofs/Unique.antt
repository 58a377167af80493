-- There is one history of the thorough reader only.
use Rattle.std.proofs.Common.{◌≡◌, ℕ, zero, suc, ◌+◌, ◌*◌, List, [], ◌∷◌, length, get_or, set, Some, None, Option, sym, refl, ap, ◌∙◌, subst, arith}
use Rattle.codes.specs.Meaning.{Meaning, Lawful, differ}
use Rattle.codes.specs.Answers.{Decodes}
use Rattle.job_rules.specs.declared.records.Record.{Record}
use Rattle.job_rules.specs.declared.records.Kind.{Kind}
use Rattle.job_rules.specs.declared.records.Kind.TheVariants.{Row, Column}
use Rattle.job_rules.specs.declared.answers.Refusal.{Refusal}
use Rattle.job_rules.specs.Records.{fresh, opened, crossing}
use Rattle.job_rules.specs.Questions.{Request, pass, run, redeliver, refusal, lines}
use Rattle.job_rules.specs.Lines.{decided, row, line, code, where_differ, Seen, Becomes, Decoding, InOrder}
use Rattle.job_rules.specs.Calls.{Delivery}
use Rattle.job_rules.specs.Reader.{Log, decoded, rewritten, Reader, Headway, Reading, sees, headway, Through, AllPasses, Receives, Takes, Reads', counted, ReaderStep, History, Reply, changed}
use Rattle.job_rules.proofs.Differ.{differ_via}
use Rattle.codes.proofs.Views.{Shows, becomes_one}
use Rattle.job_rules.proofs.Either.{bytes, shows, lawful}
use Rattle.job_rules.proofs.Accepted.{accepted_fits}

-- a line is decoded to one line, with one answer
pub decodes_one : (m : Meaning) → Lawful m → (line one two : List ℕ) (a b : Option ℕ) → Decodes m line one a → Decodes m line two b → (a ≡ b) × (one ≡ two)
decodes_one m law line one two (Some j) (Some k) d e =
    let v = differ_via line one two (d.long ∙ sym d.word.long) (e.long ∙ sym e.word.long) in
    let same = law.apart one two d.word e.word (omega (arith, v, d.changes, e.changes, d.near, e.near)) in
    let n : j ≡ k = sym d.changes ∙ ap (differ line) same ∙ e.changes in
    (ap Some n, same)
decodes_one m law line one two (Some j) None d e =
    absurd (e.far (record { long = d.long; below = d.below; word = one; is = d.word; near = omega (arith, d.changes, d.near) }))
decodes_one m law line one two None (Some k) d e =
    absurd (d.far (record { long = e.long; below = e.below; word = two; is = e.word; near = omega (arith, e.changes, e.near) }))
decodes_one m law line one two None None d e = (refl, d.same ∙ sym e.same)

abbrev seen_of : List ℕ → List Record → List Record → Seen
seen_of f o a = record { frame = f; on = o; across = a }

pub seen_same : (s t : Seen) → s.frame ≡ t.frame → s.on ≡ t.on → s.across ≡ t.across → s ≡ t
seen_same s t f o a = ap (λ x. seen_of x s.on s.across) f ∙ ap (λ x. seen_of t.frame x s.across) o ∙ ap (seen_of t.frame t.on) a

-- two that are the same part by part
abbrev head_of : Seen → Log → (d c m : ℕ) → Headway
head_of a l d c m = record { at = a; log = l; decodings = d; changes = c; met = m }

heads_same : (a a' : Seen) (l l' : Log) (d d' c c' m m' : ℕ) → a ≡ a' → l ≡ l' → d ≡ d' → c ≡ c' → m ≡ m' → head_of a l d c m ≡ head_of a' l' d' c' m'
heads_same a a' l l' d d' c c' m m' v w x y z = rw (v, w, x, y, z)

abbrev reader_from : List ℕ → (r c : List Record) → Log → (n d m : ℕ) → Reader
reader_from f r c l n d m = record { frame = f; rows = r; columns = c; log = l; calls = n; decodings = d; met = m }

readers_same : (f f' : List ℕ) (r r' c c' : List Record) (l l' : Log) (n n' d d' m m' : ℕ) → f ≡ f' → r ≡ r' → c ≡ c' → l ≡ l' → n ≡ n' → d ≡ d' → m ≡ m' → reader_from f r c l n d m ≡ reader_from f' r' c' l' n' d' m'
readers_same f f' r r' c c' l l' n n' d d' m m' s t u v w x y = rw (s, t, u, v, w, x, y)

-- a redelivery leaves one frame and one set of records
pub delivery_one : (c r i : ℕ) (new : List ℕ) (s t u : Seen) → Shows (row c) r (r * c) → length s.frame ≡ r * c → Delivery c r i new s t → Delivery c r i new s u → t ≡ u
delivery_one c r i new s t u show size a b =
    seen_same t u (becomes_one (row c) r (r * c) i show s.frame t.frame u.frame new size a.frame b.frame) (a.mark ∙ sym b.mark) (a.cross ∙ sym b.cross)

module _ (m : Meaning) (law : Lawful m) (view : List ℕ → ℕ → List ℕ) (n len : ℕ) (shows : Shows view n len) where
  pub decoding_one : (i : ℕ) (s t u : Seen) → length s.frame ≡ len → Decoding m view n i s t → Decoding m view n i s u → t ≡ u
  decoding_one i s t u size d e =
      let both = decodes_one m law (view s.frame i) d.line' e.line' d.answer e.answer d.decodes e.decodes in
      let e' = subst (λ (x : List ℕ). Becomes view n i x s.frame u.frame) (sym both.1) e.frame in
      seen_same t u
      (becomes_one view n len i shows s.frame t.frame u.frame d.line' size d.frame e')
      (d.mark ∙ ap (λ x. set s.on i (decided (get_or s.on i fresh) x)) both.0 ∙ sym e.mark)
      (d.cross ∙ ap (λ x. where_differ opened (view s.frame i) x s.across) both.1 ∙ sym e.cross)

  module _ (kind : Kind) where
    reading_one : (i : ℕ) (s t u : Headway) → length s.at.frame ≡ len → Reading m kind view n i s t → Reading m kind view n i s u → t ≡ u
    reading_one i s t u size d e =
        let at = decoding_one i s.at t.at u.at size d.line e.line in
        heads_same t.at u.at t.log u.log t.decodings u.decodings t.changes u.changes t.met u.met at
        (d.log ∙ ap (λ x. decoded kind i ∷ rewritten kind i 0 (view s.at.frame i) (view x.frame i) s.log) at ∙ sym e.log)
        (d.decodings ∙ sym e.decodings)
        (d.changes ∙ ap (λ x. s.changes + differ (view s.at.frame i) (view x.frame i)) at ∙ sym e.changes)
        (d.met ∙ sym e.met)

    pub readings_long : (k : ℕ) (s t : Headway) → InOrder (Reading m kind view n) k s t → length t.at.frame ≡ length s.at.frame
    unfolding InOrder
    readings_long zero s t h = ap (λ x. length x.at.frame) h
    readings_long (suc k) s t (v, h) = h.1.line.frame.long ∙ readings_long k s v h.0

    pub readings_one : (k : ℕ) (s t u : Headway) → length s.at.frame ≡ len → InOrder (Reading m kind view n) k s t → InOrder (Reading m kind view n) k s u → t ≡ u
    unfolding InOrder
    readings_one zero s t u size d e = d ∙ sym e
    readings_one (suc k) s t u size (v, d) (w, e) =
        let same = readings_one k s v w size d.0 e.0 in
        let e' = subst (λ (x : Headway). Reading m kind view n k x u) (sym same) e.1 in
        reading_one k v t u (readings_long k s v d.0 ∙ size) d.1 e'

module _ (p q : Meaning) (lp : Lawful p) (lq : Lawful q) where
  abbrev Fit : Reader → Type 0
  Fit s = length s.frame ≡ bytes p q

  through_long : (kind : Kind) (s t : Reader) (a : ℕ) → Through p q kind s t a → length t.frame ≡ length s.frame
  through_long kind s t a h =
      readings_long (code p q kind) (lawful p q lp lq kind) (line p q kind) (lines p q kind) (bytes p q) (shows p q kind) kind (lines p q kind) (headway kind s 0) (headway kind t a) h.turns

  through_one : (kind : Kind) (s t u : Reader) (a b : ℕ) → Fit s → Through p q kind s t a → Through p q kind s u b → (t ≡ u) × (a ≡ b)
  through_one kind s t u a b f d e =
      let same = readings_one (code p q kind) (lawful p q lp lq kind) (line p q kind) (lines p q kind) (bytes p q) (shows p q kind) kind (lines p q kind) (headway kind s 0) (headway kind t a) (headway kind u b) f d.turns e.turns in
      (readers kind same (d.calls ∙ sym e.calls), ap (λ x. x.changes) same)
    where
      all : (kind : Kind) → headway kind t a ≡ headway kind u b → t.rows ≡ u.rows → t.columns ≡ u.columns → t.calls ≡ u.calls → t ≡ u
      all kind h r c n =
          readers_same t.frame u.frame t.rows u.rows t.columns u.columns t.log u.log t.calls u.calls t.decodings u.decodings t.met u.met
          (ap (λ x. x.at.frame) h) r c (ap (λ x. x.log) h) n (ap (λ x. x.decodings) h) (ap (λ x. x.met) h)

      readers : (kind : Kind) → headway kind t a ≡ headway kind u b → t.calls ≡ u.calls → t ≡ u
      readers Row h c = all Row h (ap (λ x. x.at.on) h) (ap (λ x. x.at.across) h) c
      readers Column h c = all Column h (ap (λ x. x.at.across) h) (ap (λ x. x.at.on) h) c

  passes_one : (l : ℕ) (kind : Kind) (s t u : Reader) (a b : ℕ) → Fit s → AllPasses p q l kind s t a → AllPasses p q l kind s u b → (t ≡ u) × (a ≡ b)
  unfolding AllPasses
  passes_one zero kind s t u a b f x y = (x.0 ∙ sym y.0, x.1 ∙ sym y.1)
  passes_one (suc l) kind s t u a b f x y =
      let first = through_one kind s x.next y.next x.first y.first f x.made y.made in
      let y' = subst (λ (z : Reader). AllPasses p q l (crossing kind) z u y.left) (sym first.0) y.rest in
      let rest = passes_one l (crossing kind) x.next t u x.left y.left (through_long kind s x.next x.first x.made ∙ f) x.rest y' in
      (rest.0, omega (arith, x.sum, y.sum, first.1, rest.1))

  receives_one : (i : ℕ) (new : List ℕ) (s t u : Reader) → Fit s → Receives p q i new s t → Receives p q i new s u → t ≡ u
  receives_one i new s t u f a b =
      let h = delivery_one p.size q.size i new (sees Row s) (sees Row t) (sees Row u) (shows p q Row) f a.delivers b.delivers in
      readers_same t.frame u.frame t.rows u.rows t.columns u.columns t.log u.log t.calls u.calls t.decodings u.decodings t.met u.met
      (ap (λ x. x.frame) h) (ap (λ x. x.on) h) (ap (λ x. x.across) h) (a.log ∙ sym b.log) (a.calls ∙ sym b.calls) (a.decodings ∙ sym b.decodings) (a.met ∙ sym b.met)

  takes_one : (x : Request) (s t u : Reader) (a b : ℕ) → Fit s → Takes p q x s t a → Takes p q x s u b → (t ≡ u) × (a ≡ b)
  takes_one (pass kind) s t u a b f = through_one kind s t u a b f
  takes_one (run l) s t u a b f = passes_one l Row s t u a b f
  takes_one (redeliver i new) s t u a b f = λ x y. (receives_one i new s t u f x.0 y.0, x.1 ∙ sym y.1)

  abbrev step_of : Reply → Reader → ReaderStep
  step_of r s = record { reply = r; after = s }

  reads_one : (x : Request) (s : Reader) (g h : ReaderStep) (o : Option Refusal) → refusal p q x s.frame s.calls ≡ o →
      Reads' o p q x s g.reply g.after → Reads' o p q x s h.reply h.after → g ≡ h
  reads_one x s g h (Some why) e a b = ap (λ z. step_of z g.after) (a.0 ∙ sym b.0) ∙ ap (step_of h.reply) (a.1 ∙ sym b.1)
  reads_one x s g h None e a b =
      let same = takes_one x (counted s) g.after h.after a.0 b.0 (accepted_fits p q x s.frame s.calls e) a.1.0 b.1.0 in
      let reply = a.1.1 ∙ ap changed same.1 ∙ sym b.1.1 in
      ap (λ z. step_of z g.after) reply ∙ ap (step_of h.reply) same.0

  pub history_one : (requests : List Request) (s : Reader) (g h : List ReaderStep) → History p q requests s g → History p q requests s h → g ≡ h
  unfolding History
  history_one [] s [] [] x y = refl
  history_one [] s [] (k ∷ h) x y = absurd y
  history_one [] s (k ∷ g) h x y = absurd x
  history_one (a ∷ requests) s [] h x y = absurd x
  history_one (a ∷ requests) s (k ∷ g) [] x y = absurd y
  history_one (a ∷ requests) s (k ∷ g) (l ∷ h) x y =
      let same = reads_one a s k l (refusal p q a s.frame s.calls) refl x.0 y.0 in
      let y' = subst (λ (z : ReaderStep). History p q requests z.after h) (sym same) y.1 in
      let rest = history_one requests k.after g h x.1 y' in
      cc
