-- The division by the generator polynomial leaves symbols that make a codeword.
use Rattle.std.proofs.Common.{◌≡◌, ℕ, zero, suc, ◌+◌, ◌-◌, ◌<◌, ◌≤◌, Bool, true, false, cond, eqb, List, [], ◌∷◌, length, get_or, take, set, sym, refl, ap, ◌∙◌, subst, ap₂, mul_comm, add-one, arith, length-set, length-take-le, get_or-set_other, get_or-take, get_or-set_same, eq-eqb}
use Rattle.fields.specs.Laws.{Meaning, FieldLaws}
use Rattle.fields.specs.Laws.{power as raised}
use Rattle.algebra.proofs.Field.{Field}
use Rattle.algebra.proofs.Ring.{ring, zero_mul}
use Rattle.algebra.proofs.Sums.{sum, sum_none, sum_more, sum_cong, sum_front, sum_split}
use Rattle.algebra.proofs.Places.{power, power_none, power_more, eval}
use Rattle.algebra.proofs.Places.{syndrome as theirs}
use Rattle.algebra.proofs.Polynomials.{eval_zero, eval_cong, up}
use Rattle.algebra.proofs.FirstRoot.{power_add, power_mul}
use Rattle.algebra.proofs.Encoder.{generator, generator_more, generator_lead, generator_root, fed, fed_eval}
use Rattle.algebra.proofs.Elements.{Element, some, el_zero, el_one, el_add, el_mul, el_power, el_same, el_none}
use Rattle.algebra.proofs.Numbers.{K, ⟨◌⟩, at, at_is, el_sums, sums_below}
use Rattle.codes.specs.Meaning.{differ, Below}
use Rattle.algebra.specs.Sums.{value}
use Rattle.algebra.specs.Lines.{Elements, syndrome}
use Rattle.algebra.proofs.Theorems.{el_value, value_below}
use Rattle.algebra.proofs.Lines.{place, el_syndrome}
use Rattle.reed_solomon.specs.Words.{zeros, reed_solomon_code}
use Rattle.fields.specs.Binary.{disc}
use Rattle.reed_solomon.proofs.Zeros.{zeros_all}
use native.Mathlib.Decide.{dec_lt}
use Rattle.reed_solomon.proofs.Apart.{close_same, word_to, word_from}
use Rattle.reed_solomon.proofs.Differ.{all_below}
use Rattle.coding.specs.Coding.{SameMessage, Codes}
use Rattle.coding.specs.Division.{Zero, shifted, root, Generator, Remains, Completed}
use Rattle.coding.proofs.Register.{at_root, Multiplied, Fed}

-- the polynomial 1 has elements for coefficients
pub one_below : (m : Meaning) (t : FieldLaws m) (p : List ℕ) → Zero p → (k : ℕ) → k < length (set p 0 1) → get_or (set p 0 1) k 0 < m.q
one_below m t p h zero l =
    let some : 0 < length p = subst (λ (n : ℕ). 0 < n) (length-set p 0 1) l in
    subst (λ (n : ℕ). n < m.q) (sym (get_or-set_same p 0 1 0 some)) t.two
one_below m t p h (suc k) l =
    let inside : suc k < length p = subst (λ (n : ℕ). suc k < n) (length-set p 0 1) l in
    subst (λ (n : ℕ). n < m.q) (sym (get_or-set_other p 0 (suc k) 1 0 (λ e. omega arith) ∙ h (suc k) inside)) (some m t)

pub gen_start : (m : Meaning) (b : ℕ) (xs : List ℕ) → 0 < length xs → ((k : ℕ) → k < length xs → get_or xs k 0 ≡ 0) → length (set xs 0 1) ≡ length xs → Multiplied m b (set xs 0 1) 0
unfolding generator
gen_start m b xs l h e t zero lk = ap (⟨◌⟩ m t) (get_or-set_same xs 0 1 0 l) ∙ el_one m t
gen_start m b xs l h e t (suc k) lk = ap (⟨◌⟩ m t) (get_or-set_other xs 0 (suc k) 1 0 (λ q. omega arith) ∙ h (suc k) (omega arith)) ∙ el_zero m t

pub gen_step : (m : Meaning) (b i z : ℕ) (g g' : List ℕ) → Multiplied m b g i → z ≡ raised m.mul m.g (b + i) → length g' ≡ length g →
    ((k : ℕ) → k < length g → get_or g' k 0 ≡ m.add (shifted g k) (m.mul z (get_or g k 0))) → Multiplied m b g' (i + 1)
gen_step m b i z g g' gen zi e h t k l =
    let R : ℕ → Element m = λ j. power (K m t) (⟨◌⟩ m t m.g) (b + j) in
    ap (⟨◌⟩ m t) (h k (omega arith)) ∙ el_add m t _ _
    ∙ ap₂ (K m t).add (moved k (omega arith)) (el_mul m t _ _ ∙ ap₂ (K m t).mul (ap (⟨◌⟩ m t) zi ∙ el_power m t m.g (b + i)) (gen t k (omega arith)))
    ∙ sym (generator_more (K m t) R i k) ∙ ap (λ a. generator (K m t) R a k) (sym (add-one i))
  where
    moved : (k : ℕ) → k < length g → ⟨◌⟩ m t (shifted g k) ≡ up (K m t) (generator (K m t) (λ j. power (K m t) (⟨◌⟩ m t m.g) (b + j)) i) k
    moved zero l = el_zero m t
    moved (suc k) l = gen t k (omega arith)

pub fed_start : (m : Meaning) (b n k : ℕ) (line r : List ℕ) → ((i : ℕ) → i < length r → get_or r i 0 ≡ 0) → Fed m b n k line r 0
fed_start m b n k line r h t i l =
    ap (λ a. (K m t).mul a (power (K m t) (at_root m t b i) (k - 0)))
    (eval_zero (K m t) (length r) (at m t r) _ (λ j lj. unfold at in ap (⟨◌⟩ m t) (h j lj) ∙ el_zero m t))
    ∙ zero_mul (K m t) _ ∙ sym (sum_none (K m t) _)

module _ (m : Meaning) (t : FieldLaws m) (b i : ℕ) where
  abbrev 𝕂 : Field (Element m)
  𝕂 = K m t

  abbrev R : ℕ → Element m
  R j = power (K m t) (⟨◌⟩ m t m.g) (b + j)

  abbrev z : Element m
  z = at_root m t b i

  whole : (E c Z P : Element m) → 𝕂.mul (𝕂.add (𝕂.mul z E) (𝕂.mul c Z)) P ≡ 𝕂.add (𝕂.mul E (𝕂.mul z P)) (𝕂.mul c (𝕂.mul Z P))
  whole E c Z P = simp ring

  -- a polynomial's value at the root
  root_value : (g : List ℕ) → ⟨◌⟩ m t (value m g (length g) (root m b i)) ≡ eval 𝕂 (length g) (at m t g) z
  root_value g = el_value m t g (length g) (root m b i) ∙ ap (eval 𝕂 (length g) (at m t g)) (el_power m t m.g (b + i))

  -- the register's value, after one more symbol
  fed_value : (n : ℕ) (r r' g : List ℕ) (c : ℕ) → i < suc n → length r ≡ suc n → length r' ≡ suc n → length g ≡ suc (suc n) → Generator m b g →
      ((k : ℕ) → k < suc n → get_or r' k 0 ≡ m.add (shifted r k) (m.mul (m.add c (get_or r n 0)) (get_or g k 0))) →
      eval 𝕂 (suc n) (at m t r') z ≡ 𝕂.add (𝕂.mul z (eval 𝕂 (suc n) (at m t r) z)) (𝕂.mul (⟨◌⟩ m t c) (power 𝕂 z (suc n)))
  unfolding at
  fed_value n r r' g c li lr lr' lg gen h =
      eval_cong 𝕂 (suc n) (at m t r') (fed 𝕂 n (at m t g) (at m t r) (⟨◌⟩ m t c)) z
      (λ k lk. ap (⟨◌⟩ m t) (h k lk) ∙ el_add m t _ _ ∙ ap₂ 𝕂.add (moved k) (el_mul m t _ _ ∙ ap₂ 𝕂.mul (el_add m t _ _) refl))
      ∙ fed_eval 𝕂 n (at m t g) (at m t r) (⟨◌⟩ m t c) z
      (let e : length g - 1 ≡ suc n = omega arith in ap (λ k. ⟨◌⟩ m t (get_or g k 0)) (sym e) ∙ ap (⟨◌⟩ m t) gen.lead ∙ el_one m t)
      (ap (λ k. eval 𝕂 k (at m t g) z) (sym lg) ∙ sym (root_value g) ∙ ap (⟨◌⟩ m t) (gen.zero i (omega arith)) ∙ el_zero m t)
    where
      moved : (k : ℕ) → ⟨◌⟩ m t (shifted r k) ≡ up (K m t) (at m t r) k
      moved zero = el_zero m t
      moved (suc k) = refl

  fed_next : (n k j len : ℕ) (line r r' g : List ℕ) → i < suc n → length r ≡ suc n → length r' ≡ suc n → length g ≡ suc (suc n) → j < k → len ≡ k + suc n → Generator m b g →
      ((a : ℕ) → a < suc n → get_or r' a 0 ≡ m.add (shifted r a) (m.mul (m.add (get_or line j 0) (get_or r n 0)) (get_or g a 0))) →
      𝕂.mul (eval 𝕂 (suc n) (at m t r) z) (power 𝕂 z (k - j)) ≡ sum 𝕂 j (λ p. 𝕂.mul (at m t line p) (power 𝕂 z (len - 1 - p))) →
      𝕂.mul (eval 𝕂 (suc n) (at m t r') z) (power 𝕂 z (k - (j + 1))) ≡ sum 𝕂 (j + 1) (λ p. 𝕂.mul (at m t line p) (power 𝕂 z (len - 1 - p)))
  fed_next n k j len line r r' g li lr lr' lg lj en gen h fd =
      let e1 : suc (k - (j + 1)) ≡ k - j = omega arith in
      let e2 : suc n + (k - (j + 1)) ≡ len - 1 - j = omega arith in
      ap (λ a. 𝕂.mul a (power 𝕂 z (k - (j + 1)))) (fed_value n r r' g (get_or line j 0) li lr lr' lg gen h)
      ∙ whole (eval 𝕂 (suc n) (at m t r) z) (⟨◌⟩ m t (get_or line j 0)) (power 𝕂 z (suc n)) (power 𝕂 z (k - (j + 1)))
      ∙ ap₂ 𝕂.add
      (ap (𝕂.mul (eval 𝕂 (suc n) (at m t r) z)) (sym (power_more 𝕂 z (k - (j + 1))) ∙ ap (power 𝕂 z) e1) ∙ fd)
      (ap₂ 𝕂.mul here (sym (power_add 𝕂 z (suc n) (k - (j + 1))) ∙ ap (power 𝕂 z) e2))
      ∙ sym (sum_more 𝕂 j _) ∙ ap (λ a. sum 𝕂 a (λ p. 𝕂.mul (at m t line p) (power 𝕂 z (len - 1 - p)))) (sym (add-one j))
    where
      here : ⟨◌⟩ m t (get_or line j 0) ≡ at m t line j
      here = unfold at in refl

  sum_back : (n : ℕ) (h : ℕ → Element m) → sum 𝕂 n (λ q. h (n - 1 - q)) ≡ sum 𝕂 n h
  sum_back zero h = sum_none 𝕂 _ ∙ sym (sum_none 𝕂 _)
  sum_back (suc n) h =
      sum_front 𝕂 n (λ q. h (suc n - 1 - q))
      ∙ ap₂ 𝕂.add (let e : suc n - 1 - 0 ≡ n = omega arith in ap h e)
      (sum_cong 𝕂 n _ (λ q. h (n - 1 - q)) (λ q l. let e : suc n - 1 - suc q ≡ n - 1 - q = omega arith in ap h e) ∙ sum_back n h)
      ∙ 𝕂.add_comm _ _ ∙ sym (sum_more 𝕂 n h)

  power_swap : (x : Element m) (a c : ℕ) → power 𝕂 (power 𝕂 x a) c ≡ power 𝕂 (power 𝕂 x c) a
  power_swap x a c = sym (power_mul 𝕂 x c a) ∙ ap (power 𝕂 x) (mul_comm c a) ∙ power_mul 𝕂 x a c

  abbrev share : List ℕ → ℕ → Element m
  share after p = (K m t).mul (at m t after p) (power (K m t) (at_root m t b i) (length after - 1 - p))

  -- the syndrome of the line with the register behind the message
  coded_sum : (k : ℕ) (line after r : List ℕ) → length after ≡ k + length r → ((p : ℕ) → p < k → get_or after p 0 ≡ get_or line p 0) →
      ((q : ℕ) → q < length r → get_or after (k + q) 0 ≡ get_or r (length r - 1 - q) 0) →
      eval 𝕂 (length r) (at m t r) z ≡ sum 𝕂 k (λ p. 𝕂.mul (at m t line p) (power 𝕂 z (length after - 1 - p))) →
      syndrome m after (b + i) ≡ 0
  coded_sum k line after r long same back fd =
      el_none m t _ (unfold syndrome in sums_below m t _ (length after))
      (el_syndrome m t after (b + i) ∙ swapped ∙ ap (λ a. sum 𝕂 a (share after)) long ∙ sum_split 𝕂 k (length r) (share after) ∙ ap₂ 𝕂.add first second ∙ 𝕂.add_self _)
    where
      swapped : theirs (K m t) (length after) (place m t (length after)) (at m t after) (b + i) ≡ sum (K m t) (length after) (share after)
      swapped = unfold theirs place in sum_cong (K m t) (length after) _ _ (λ p l. ap ((K m t).mul (at m t after p)) (power_swap (⟨◌⟩ m t m.g) (length after - 1 - p) (b + i)))

      first : sum (K m t) k (share after) ≡ eval (K m t) (length r) (at m t r) (at_root m t b i)
      first = unfold at in
          sum_cong (K m t) k _ (λ p. (K m t).mul (⟨◌⟩ m t (get_or line p 0)) (power (K m t) (at_root m t b i) (length after - 1 - p))) (λ p l. ap (λ a. (K m t).mul (⟨◌⟩ m t a) (power (K m t) (at_root m t b i) (length after - 1 - p))) (same p l))
          ∙ sym fd

      second : sum (K m t) (length r) (λ q. share after (k + q)) ≡ eval (K m t) (length r) (at m t r) (at_root m t b i)
      second = unfold at eval in
          sum_cong (K m t) (length r) _ (λ q. (K m t).mul (⟨◌⟩ m t (get_or r (length r - 1 - q) 0)) (power (K m t) (at_root m t b i) (length r - 1 - q)))
          (λ q l. let e : length after - 1 - (k + q) ≡ length r - 1 - q = omega arith in ap₂ (λ a c. (K m t).mul (⟨◌⟩ m t a) (power (K m t) (at_root m t b i) c)) (back q l) e)
          ∙ sum_back (length r) (λ q. (K m t).mul (⟨◌⟩ m t (get_or r q 0)) (power (K m t) (at_root m t b i) q))

pub fed_step : (m : Meaning) (b len k j : ℕ) (line r r' g : List ℕ) → 1 ≤ length r → length g ≡ length r + 1 → length r' ≡ length r → j < k → len ≡ k + length r →
    Generator m b g →
    ((a : ℕ) → a < length r → get_or r' a 0 ≡ m.add (shifted r a) (m.mul (m.add (get_or line j 0) (get_or r (length r - 1) 0)) (get_or g a 0))) →
    Fed m b len k line r j → Fed m b len k line r' (j + 1)
fed_step m b len k j line r r' g some lg lr lj en gen h fd t i l =
    let n = length r - 1 in
    let e : length r ≡ suc n = omega arith in
    let e' : length r' ≡ suc n = omega arith in
    subst (λ (a : ℕ). (K m t).mul (eval (K m t) a (at m t r') (at_root m t b i)) (power (K m t) (at_root m t b i) (k - (j + 1))) ≡ sum (K m t) (j + 1) (λ p. (K m t).mul (at m t line p) (power (K m t) (at_root m t b i) (len - 1 - p)))) (sym e')
    (fed_next m t b i n k j len line r r' g (omega arith) e e' (omega arith) lj (omega arith)
    gen (λ a la. h a (omega arith))
    (subst (λ (a : ℕ). (K m t).mul (eval (K m t) a (at m t r) (at_root m t b i)) (power (K m t) (at_root m t b i) (k - j)) ≡ sum (K m t) j (λ p. (K m t).mul (at m t line p) (power (K m t) (at_root m t b i) (len - 1 - p)))) e (fd t i (omega arith))))

-- what remains of a message, in the theory
remains_sum : (m : Meaning) (t : FieldLaws m) (b : ℕ) (message r : List ℕ) → Remains m b message r → (i : ℕ) → i < length r
    → eval (K m t) (length r) (at m t r) (at_root m t b i)
    ≡ sum (K m t) (length message) (λ p. (K m t).mul (at m t message p) (power (K m t) (at_root m t b i) (length message + length r - 1 - p)))
remains_sum m t b message r h i l =
    sym (root_value m t b i r) ∙ ap (⟨◌⟩ m t) (h i l) ∙ el_sums m t _ (length message)
    ∙ sum_cong (K m t) (length message) _ _ (λ p lp.
    el_mul m t _ _ ∙ ap₂ (K m t).mul (sym (at_is m t message p))
    (el_power m t (root m b i) _ ∙ ap (λ z. power (K m t) z (length message + length r - 1 - p)) (el_power m t m.g (b + i))))

-- and back from the register, once it has taken the whole message
pub remains_of : (m : Meaning) (t : FieldLaws m) (b : ℕ) (message r : List ℕ) → Fed m b (length message + length r) (length message) message r (length message) → Remains m b message r
remains_of m t b message r fd i l =
    el_same m t _ _ (value_below m t r (length r) (root m b i)) (sums_below m t _ (length message))
    (root_value m t b i r
    ∙ sym (ap ((K m t).mul _) (let e : length message - length message ≡ 0 = omega arith in ap (power (K m t) (at_root m t b i)) e ∙ power_none (K m t) _) ∙ (K m t).mul_one _)
    ∙ fd t i l
    ∙ sum_cong (K m t) (length message) _ _ (λ p lp.
    sym (el_mul m t _ _ ∙ ap₂ (K m t).mul (sym (at_is m t message p))
    (el_power m t (root m b i) _ ∙ ap (λ z. power (K m t) z (length message + length r - 1 - p)) (el_power m t m.g (b + i)))))
    ∙ sym (el_sums m t _ (length message)))

coded : (m : Meaning) (t : FieldLaws m) (b : ℕ) (message after r : List ℕ) → length after ≡ length message + length r → ((p : ℕ) → p < length message → get_or after p 0 ≡ get_or message p 0) →
    ((q : ℕ) → q < length r → get_or after (length message + q) 0 ≡ get_or r (length r - 1 - q) 0) → Remains m b message r → zeros (λ i. syndrome m after (b + i)) (length r) ≡ true
coded m t b message after r long same back h = zeros_all (λ i. syndrome m after (b + i)) (length r) (λ i l.
    coded_sum m t b i (length message) message after r long same back
    (remains_sum m t b message r h i l
    ∙ ap (λ n. sum (K m t) (length message) (λ p. (K m t).mul (at m t message p) (power (K m t) (at_root m t b i) (n - 1 - p)))) (sym long)))

-- the product of x minus each root is a generator polynomial
pub generator_of : (m : Meaning) (t : FieldLaws m) (b : ℕ) (g : List ℕ) → 1 ≤ length g → Elements m g → Multiplied m b g (length g - 1) → Generator m b g
generator_of m t b g some els h = record {
  lead = el_same m t _ 1 (els (length g - 1) (omega arith)) t.two (h t (length g - 1) (omega arith) ∙ generator_lead (K m t) (at_root m t b) (length g - 1) ∙ sym (el_one m t));
  zero = λ j l.
      let e : length g ≡ suc (length g - 1) = omega arith in
      el_none m t _ (value_below m t g (length g) (root m b j))
      (root_value m t b j g
      ∙ eval_cong (K m t) (length g) (at m t g) (generator (K m t) (at_root m t b) (length g - 1)) (at_root m t b j) (λ k lk. at_is m t g k ∙ h t k lk)
      ∙ ap (λ n. eval (K m t) n (generator (K m t) (at_root m t b) (length g - 1)) (at_root m t b j)) e
      ∙ generator_root (K m t) (at_root m t b) (length g - 1) j l);
}

-- lines that agree on the first k places differ at the others at most
pub differ_tail : (k : ℕ) (xs ys : List ℕ) → length xs ≡ length ys → ((p : ℕ) → p < k → p < length xs → get_or xs p 0 ≡ get_or ys p 0) → differ xs ys ≤ length xs - k
differ_tail k [] ys e h = omega arith
differ_tail k (x ∷ xs) [] e h = absurd (omega (arith, e))
differ_tail zero (x ∷ xs) (y ∷ ys) e h = let r = differ_tail 0 xs ys (omega (arith, e)) (λ p l. absurd (omega arith)) in bound (eqb x y) r
  where
    bound : (b : Bool) → differ xs ys ≤ length xs - 0 → cond b 0 1 + differ xs ys ≤ suc (length xs) - 0
    bound true r = omega (arith, r)
    bound false r = omega (arith, r)
differ_tail (suc k) (x ∷ xs) (y ∷ ys) e h =
    let s : eqb x y ≡ true = eq-eqb x y (h 0 (omega arith) (omega arith)) in
    let r = differ_tail k xs ys (omega (arith, e)) (λ p l l'. h (suc p) (omega arith) (omega arith)) in
    subst (λ (b : Bool). cond b 0 1 + differ xs ys ≤ suc (length xs) - suc k) (sym s) (omega (arith, r))

pub completed : (m : Meaning) (t : FieldLaws m) (b c k : ℕ) (before after r : List ℕ) → length before < m.q → c < length before → Elements m before → Elements m r →
    length r ≡ c → k ≡ length before - c → length after ≡ length before → ((p : ℕ) → p < k → get_or after p 0 ≡ get_or before p 0) →
    ((q : ℕ) → q < length r → get_or after (k + q) 0 ≡ get_or r (length r - 1 - q) 0) → Remains m b (take k before) r → Completed m b c before after
completed m t b c k before after r fits less els rels lr lk la same back rest = record {
  long = la;
  below = below;
  stays = λ p l. same p (omega arith);
  zero = word;
  only = λ v lv bv zv agree.
      close_same m t b c v after (lv ∙ sym la) (omega arith) bv below zv word
      (let d = differ_tail k v after (lv ∙ sym la) (λ p l l'. agree p (omega arith) ∙ sym (same p l)) in omega arith);
}
  where
    part : length (take k before) ≡ k
    part = length-take-le k before (omega arith)

    word : zeros (λ i. syndrome m after (b + i)) c ≡ true
    word = ap (zeros (λ i. syndrome m after (b + i))) (sym lr)
        ∙ coded m t b (take k before) after r (let p = part in omega arith)
        (λ p l. let q = part in same p (omega arith) ∙ sym (get_or-take k before p 0 (omega arith)))
        (subst (λ (n : ℕ). (q : ℕ) → q < length r → get_or after (n + q) 0 ≡ get_or r (length r - 1 - q) 0) (sym part) back) rest

    below : Below m.q after
    below = all_below m.q after (λ p l. elim (dec_lt p k) [
      | yes lp ↦ subst (λ (n : ℕ). n < m.q) (sym (same p lp)) (els p (omega arith))
      | no np ↦ (let e : k + (p - k) ≡ p = omega arith in
          subst (λ (n : ℕ). n < m.q) (sym (ap (λ a. get_or after a 0) (sym e) ∙ back (p - k) (omega arith))) (rels (length r - 1 - (p - k)) (omega arith)))
    ])

-- from symbols that make the syndromes 0 to the code over the disc field
pub codes_of : (n k b q : ℕ) (before after : List ℕ) → length before ≡ n → k < n → q ≡ 256 → Completed disc b (n - k) before after → Codes (reed_solomon_code disc n k b q) k before after
codes_of n k b q before after long less is c =
    let e : length before - (n - k) ≡ k = omega arith in
    record {
      long = long;
      stays = subst (λ (j : ℕ). SameMessage j after before) e c.stays;
      word = word_to disc n k b q after (c.long ∙ long) is c.below c.zero;
      only = λ v w agree.
          c.only v (w.long ∙ sym long) w.below (word_from disc n k b q v w).1 (subst (λ (j : ℕ). SameMessage j v before) (sym e) agree);
    }
