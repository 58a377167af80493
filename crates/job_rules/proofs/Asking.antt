-- The first question that is answered no.
use Rattle.std.proofs.Common.{◌≡◌, ℕ, Bool, true, false, cond, List, [], ◌∷◌, ◌++◌, Some, None, Option, refl, ap, ◌∙◌, arith}
use Rattle.job_rules.specs.declared.answers.Refusal.{Refusal}
use Rattle.job_rules.specs.Questions.{Question, first_no}
use Rattle.job_rules.specs.Laws.{AllYes, FirstNo, FirstNoRefuses}
use Rattle.job_rules.proofs.Accepted.{yes_first}

some_same : (a b : Refusal) → ◌≡◌ {A = Option Refusal} (Some a) (Some b) → a ≡ b
some_same a b e = cc

-- one question before
later : (x : Question) (rest : List Question) (why : Refusal) → x.holds ≡ true → FirstNo rest why → FirstNo (x ∷ rest) why
later x rest why e f = record {
  before = x ∷ f.before;
  it = f.it;
  after = f.after;
  split = ap (λ z. x ∷ z) f.split;
  yeses = (e, f.yeses);
  refused = f.refused;
  is = f.is;
}

found : (qs : List Question) (why : Refusal) → first_no qs ≡ Some why → FirstNo qs why
found [] why e = let z : ◌≡◌ {A = ℕ} 0 1 = cc in absurd (omega arith)
found (x ∷ rest) why e = at x.holds refl (found rest why) e
  where
    at : (b : Bool) → x.holds ≡ b → (first_no rest ≡ Some why → FirstNo rest why) → cond b (first_no rest) (Some x.otherwise) ≡ Some why → FirstNo (x ∷ rest) why
    at true h more e = later x rest why h (more e)
    at false h more e = record { before = []; it = x; after = rest; split = refl; yeses = tt; refused = h; is = some_same x.otherwise why e }

passed : (before : List Question) (it : Question) (after : List Question) → AllYes before → it.holds ≡ false → first_no (before ++ it ∷ after) ≡ Some it.otherwise
passed [] it after y n = rw n
passed (x ∷ before) it after y n = let h = y.0 in rw h (passed before it after y.1 n)

all_yes : (qs : List Question) → first_no qs ≡ None → AllYes qs
all_yes [] e = tt
all_yes (x ∷ rest) e = let k = yes_first x rest e in (k.0, all_yes rest k.1)

none_no : (qs : List Question) → AllYes qs → first_no qs ≡ None
none_no [] y = refl
none_no (x ∷ rest) y = let h = y.0 in rw h (none_no rest y.1)

pub first_no_refuses_lem : FirstNoRefuses
first_no_refuses_lem = record {
  refuses = λ qs why. record {
    when = λ f. ap first_no f.split ∙ passed f.before f.it f.after f.yeses f.refused ∙ ap Some f.is;
    only = found qs why;
  };
  takes = λ qs. record { when = none_no qs; only = all_yes qs };
}
