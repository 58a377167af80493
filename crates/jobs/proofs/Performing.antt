-- A list of calls, done one by one.
use Rattle.std.proofs.Common.{◌≡◌, ℕ, ◌+◌, ◌<◌, ◌≤◌, List, [], ◌∷◌, ◌++◌, map, length, get_or, take, drop, set, Some, None, Option, sym, refl, ap, ◌∙◌, subst, arith}
use Rattle.std.proofs.lemmas.List.{drop_more, drop_all, take_all, append-nil, append_assoc, map_push, map-set, set-get_or, take_more_set, get_or-map, length-map}
use Rattle.codes.specs.Meaning.{Meaning}
use Rattle.job_rules.specs.declared.records.Kind.TheVariants.{Row}
use Rattle.job_rules.specs.declared.calls.Call.{Call}
use Rattle.job_rules.specs.declared.calls.Call.TheVariants.{Pass}
use Rattle.job_rules.specs.declared.calls.Entry.{Entry}
use Rattle.job_rules.specs.Questions.{Request}
use Rattle.job_rules.specs.Lists.{request_of}
use Rattle.job_rules.specs.Passes.{State}
use Rattle.job_rules.specs.Calls.{Answer, Does, Step, Performs, final}
use Rattle.job_rules.specs.Promise.{Gives}

-- an entry that stands for none
abbrev pub nobody : Entry
nobody = record { call = Pass Row; answer = None }

abbrev call_of : Entry → Call
call_of e = e.call

abbrev answer_in : Entry → Option Answer
answer_in e = e.answer

abbrev told : Step → Option Answer
told g = Some g.answer

abbrev pub requests : List Entry → List Request
requests l = map (λ e. request_of e.call) l

abbrev step_of : Answer → State → Step
step_of r s = record { answer = r; after = s }

-- the first i calls of a list are done
pub record Along (p q p' q' : Meaning) (first list : List Entry) (i : ℕ) (s₀ s : State) : Type 0 where
  pub row : p' ≡ p
  pub column : q' ≡ q
  pub so_far : List Step
  pub kept : map call_of list ≡ map call_of first
  pub given : map answer_in (take i list) ≡ map told so_far
  pub ends : s ≡ final s₀ so_far
  pub then : (more : List Step) → Performs p q (requests (drop i first)) s more → Performs p q (requests first) s₀ (so_far ++ more)

pub along_none : (p q : Meaning) (first : List Entry) (s : State) → Along p q p q first first 0 s s
along_none p q first s = record { row = refl; column = refl; so_far = []; kept = refl; given = refl; ends = refl; then = λ more h. h }

final_push : (s t : State) (r : Answer) (gs : List Step) → final s (gs ++ step_of r t ∷ []) ≡ t
final_push s t r [] = refl
final_push s t r (g ∷ gs) = final_push g.after t r gs

module _ (p q p' q' : Meaning) (first list : List Entry) (i : ℕ) (s₀ s : State) (u : Along p q p' q' first list i s₀ s) where
  same_length : length list ≡ length first
  same_length = sym (length-map list call_of) ∙ ap length u.kept ∙ length-map first call_of

  pub along_more : (p'' q'' : Meaning) (t : State) (e e' : Entry) (r : Answer) → i < length list → e ≡ get_or list i nobody → e'.call ≡ e.call → e'.answer ≡ Some r →
      Does p' q' (request_of e.call) s r t → p'' ≡ p' → q'' ≡ q' → Along p q p'' q'' first (set list i e') (i + 1) s₀ t
  unfolding Performs
  along_more p'' q'' t e e' r within read call answer does ep eq =
      let within' : i < length first = omega (arith, same_length) in
      let here : e'.call ≡ get_or (map call_of list) i (call_of nobody) = call ∙ ap call_of read ∙ sym (get_or-map call_of list i nobody (call_of nobody) within) in
      let there : e.call ≡ (get_or first i nobody).call = ap call_of read ∙ sym (get_or-map call_of list i nobody (call_of nobody) within) ∙ ap (λ x. get_or x i (call_of nobody)) u.kept ∙ get_or-map call_of first i nobody (call_of nobody) within' in
      record {
        row = ep ∙ u.row;
        column = eq ∙ u.column;
        so_far = u.so_far ++ step_of r t ∷ [];
        kept = map-set call_of list i e' ∙ ap (set (map call_of list) i) here ∙ set-get_or (map call_of list) i (call_of nobody) ∙ u.kept;
        given = ap (map answer_in) (take_more_set list i e' within) ∙ map_push answer_in (take i list) e' ∙ ap (λ x. x ++ e'.answer ∷ []) u.given ∙ ap (λ x. map told u.so_far ++ x ∷ []) answer ∙ sym (map_push told u.so_far (step_of r t));
        ends = sym (final_push s₀ t r u.so_far);
        then = λ more h.
            let does' = rw (u.row, u.column) at does in
            let does'' = subst (λ (x : Call). Does p q (request_of x) s r t) there does' in
            let split : requests (drop i first) ≡ request_of (get_or first i nobody).call ∷ requests (drop (i + 1) first) = ap requests (drop_more first i nobody within') in
            subst (λ (z : List Step). Performs p q (requests first) s₀ z) (sym (append_assoc u.so_far (step_of r t ∷ []) more))
            (u.then (step_of r t ∷ more) (subst (λ (z : List Request). Performs p q z s (step_of r t ∷ more)) (sym split) (does'', h)));
      }

  -- the answers that the entries hold
  abbrev pub answers_so_far : List Answer
  answers_so_far = map (λ g. g.answer) u.so_far

  told_some : (gs : List Step) → map told gs ≡ map Some (map (λ g. g.answer) gs)
  told_some [] = refl
  told_some (g ∷ gs) = ap (λ x. Some g.answer ∷ x) (told_some gs)

  pub along_given : length list ≤ i → map answer_in list ≡ map Some answers_so_far
  along_given past = ap (map answer_in) (sym (take_all i list past)) ∙ u.given ∙ told_some u.so_far

  pub along_all : length list ≤ i → Gives p q (requests first) s₀ answers_so_far s
  unfolding Performs
  along_all past = record {
    ours = u.so_far;
    performs =
        (let none : drop i first ≡ [] = drop_all i first (omega (arith, same_length)) in
        subst (λ (z : List Step). Performs p q (requests first) s₀ z) (append-nil u.so_far) (u.then [] (subst (λ (z : List Entry). Performs p q (requests z) s []) (sym none) tt)));
    answers_are = refl;
    end_is = u.ends;
  }

-- the same codes and the same start
pub gives_same : (p p' q q' : Meaning) (xs : List Request) (s s' : State) (answers : List Answer) (end : State) → p ≡ p' → q ≡ q' → s ≡ s' → Gives p q xs s answers end → Gives p' q' xs s' answers end
gives_same p p' q q' xs s s' answers end a b c h =
    subst (λ (z : Meaning). Gives z q' xs s' answers end) a (subst (λ (z : Meaning). Gives p z xs s' answers end) b (subst (λ (z : State). Gives p q xs z answers end) c h))
