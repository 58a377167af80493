-- A pass that has come to line i.
use Rattle.std.proofs.Common.{◌≡◌, ℕ, suc, ◌+◌, ◌<◌, List, length, get_or, set, sym, refl, ap, ◌∙◌, add-one, arith}
use Rattle.std.proofs.lemmas.List.{set-get_or}
use Rattle.codes.specs.Meaning.{Meaning, differ}
use Rattle.job_rules.specs.declared.records.Standing.{Standing}
use Rattle.job_rules.specs.declared.records.Standing.TheVariants.{Open, Sound, Stuck}
use Rattle.job_rules.specs.declared.records.Record.{Record}
use Rattle.job_rules.specs.declared.records.Kind.{Kind}
use Rattle.job_rules.specs.declared.records.Lines.{Lines}
use Rattle.job_rules.specs.declared.answers.Effort.{Effort}
use Rattle.job_rules.specs.Records.{fresh, opened, on, crossing}
use Rattle.job_rules.specs.Lines.{Becomes, InOrder, where_differ}
use Rattle.job_rules.specs.Passes.{Progress, Turn, turn}
use Rattle.job_rules.proofs.Places.{wd_self}
use Rattle.codes.proofs.Views.{Shows, becomes_same}
use Rattle.job_rules.proofs.Tallies.{turn_kept, none_kept}
use Rattle.passes.specs.Steps.{By, Visited, sofar, MadeTo}

in_order_none : {S : Type 0} (step : ℕ → S → S → Type 0) (s : S) → InOrder step 0 s s
unfolding InOrder
in_order_none step s = refl

in_order_more : {S : Type 0} (step : ℕ → S → S → Type 0) (n : ℕ) (s u t : S) → InOrder step n s u → step n u t → InOrder step (suc n) s t
unfolding InOrder
in_order_more step n s u t h k = (u, (h, k))

abbrev progress_of : List ℕ → (o a : List Record) → (d c n : ℕ) → Progress
progress_of f o a d c n = record { at = record { frame = f; on = o; across = a }; decodings = d; changes = c; count = n }

progress_same : (f f' : List ℕ) (o o' a a' : List Record) (d d' c c' n n' : ℕ) → f' ≡ f → o' ≡ o → a' ≡ a → d' ≡ d → c' ≡ c → n' ≡ n → progress_of f' o' a' d' c' n' ≡ progress_of f o a d c n
progress_same f f' o o' a a' d d' c c' n n' p q r s t u = rw (p, q, r, s, t, u)

module _ (m : Meaning) (view : List ℕ → ℕ → List ℕ) (lines len i : ℕ) (shows : Shows view lines len) (kind : Kind)
    (l l' : Lines) (frame frame' two : List ℕ) (d c n n' : ℕ) (e : Effort) (size : length frame ≡ len)
    (becomes : Becomes view lines i two frame frame') (v : Visited m n n' kind i l l' (view frame i) two e) where
  abbrev before : Progress
  before = sofar kind l frame d c n

  abbrev beyond : Progress
  beyond = sofar kind l' frame' (d + e.decodings) (c + e.changes) n'

  skip : two ≡ view frame i → v.after ≡ get_or (on kind l) i fresh → e.decodings ≡ 0 → e.changes ≡ 0 → n' ≡ n → beyond ≡ before
  skip same mark never none count =
      progress_same frame frame' (on kind l) (on kind l') (on (crossing kind) l) (on (crossing kind) l') d _ c _ n n'
      (becomes_same view lines len i shows frame frame' two size same becomes)
      (v.own ∙ ap (set (on kind l) i) mark ∙ set-get_or (on kind l) i fresh)
      (v.cross ∙ ap (λ x. where_differ opened (view frame i) x (on (crossing kind) l)) same ∙ wd_self opened (view frame i) (on (crossing kind) l))
      (omega (arith, never)) (omega (arith, none)) count

  turned : (st : Standing) → By st m n n' (get_or (on kind l) i fresh) v.after (view frame i) two e → Turn st m view lines i before beyond
  turned Open b = record {
    line = record { answer = b.answer; line' = two; decodes = b.decodes; frame = becomes; mark = v.own ∙ ap (set (on kind l) i) b.mark; cross = v.cross };
    decodings = ap (λ x. d + x) b.once;
    changes = ap (λ x. c + x) (b.changes ∙ ap (differ (view frame i)) (sym becomes.here));
    count = b.count;
  }
  turned Sound b = skip b.same b.mark b.never b.changes b.count
  turned Stuck b = skip b.same b.mark b.never b.changes b.count

  pub made_more : (s : Progress) → i < length (on kind l) → MadeTo i m view lines s before → MadeTo (i + 1) m view lines s beyond
  made_more s tall u =
      let step = turned (get_or (on kind l) i fresh).standing v.by in
      rw add-one (record {
        turns = in_order_more (turn m view lines) i s before beyond u.turns step;
        keeping = turn_kept m view lines i s before beyond (get_or (on kind l) i fresh).standing tall u.keeping step;
      })

pub made_none : (m : Meaning) (view : List ℕ → ℕ → List ℕ) (lines : ℕ) (s : Progress) → MadeTo 0 m view lines s s
made_none m view lines s = record { turns = in_order_none (turn m view lines) s; keeping = none_kept m view lines 0 s s refl }
