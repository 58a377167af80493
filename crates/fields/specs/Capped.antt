-- The laws of a field on its elements hold of every number, where one that is no element counts as 0.
use Rattle.std.specs.Prelude.{◌≡◌, refl, Bool, true, false, T, ltb, ◌⊎◌}
use Rattle.std.proofs.Common.{sym, ◌∙◌, arith, ltb→lt, lt-ltb, le-ltb, inl, inr}
use Rattle.std.proofs.Math.Path.{ap, ap₂}
use Rattle.std.proofs.Math.Bool.{cond}
use Prim.Native.Nat.{ℕ, zero, suc, ◌<◌, ◌≤◌}
use Rattle.fields.specs.Laws.{Meaning, FieldLaws, capped, cap, power}
use Rattle.fields.specs.OnElements.{LawsOnElements}

pub cap_in : (q a : ℕ) → a < q → cap q a ≡ a
unfolding cap
cap_in q a h = ap (λ t. cond t a 0) (lt-ltb a q h)

cond_below : (q a : ℕ) (t : Bool) → (T t → a < q) → 0 < q → cond t a 0 < q
cond_below q a true h p = h tt
cond_below q a false h p = p

cap_below : (q a : ℕ) → 0 < q → cap q a < q
unfolding cap
cap_below q a p = cond_below q a (ltb a q) (ltb→lt a q) p

module _ (m : Meaning) (l : LawsOnElements m) where
  c : ℕ → ℕ
  c = cap m.q

  some : 0 < m.q
  some = let h = l.two in omega arith

  in_q : (a : ℕ) → c a < m.q
  unfolding c
  in_q a = cap_below m.q a some

  c_add : (a b : ℕ) → c (m.add (c a) (c b)) ≡ m.add (c a) (c b)
  unfolding c
  c_add a b = cap_in m.q _ (l.add_below (c a) (c b) (in_q a) (in_q b))

  c_mul : (a b : ℕ) → c (m.mul (c a) (c b)) ≡ m.mul (c a) (c b)
  unfolding c
  c_mul a b = cap_in m.q _ (l.mul_below (c a) (c b) (in_q a) (in_q b))

  c_in : (a : ℕ) → a < m.q → c a ≡ a
  unfolding c
  c_in a h = cap_in m.q a h

  c_zero : c 0 ≡ 0
  c_zero = c_in 0 some

  c_one : c 1 ≡ 1
  c_one = c_in 1 l.two

  c_inv : (a : ℕ) → c (m.inv (c a)) ≡ m.inv (c a)
  c_inv a = c_in _ (l.inv_below (c a) (in_q a))

  pub powers : (k : ℕ) → (power m.mul m.g k < m.q) × (power (capped m).mul m.g k ≡ power m.mul m.g k)
  unfolding c
  powers zero = (l.two, refl)
  powers (suc k) =
      let h = powers k in
      (l.mul_below _ _ l.g_below h.0, ap₂ m.mul (c_in m.g l.g_below) (ap c h.1 ∙ c_in _ h.0))

  c_out : (a : ℕ) → m.q ≤ a → c a ≡ 0
  unfolding c cap
  c_out a h = ap (λ t. cond t a 0) (le-ltb a m.q h)

  pub mul_out : (a b : ℕ) → (m.q ≤ a) ⊎ (m.q ≤ b) → (capped m).mul a b ≡ 0
  unfolding c
  mul_out a b (inl h) =
      ap (λ t. m.mul t (c b)) (c_out a h) ∙ l.mul_comm 0 (c b) some (in_q b) ∙ l.mul_zero (c b) (in_q b)
  mul_out a b (inr h) = ap (m.mul (c a)) (c_out b h) ∙ l.mul_zero (c a) (in_q a)

  pub inv_out : (a : ℕ) → m.q ≤ a → (capped m).inv a ≡ 0
  unfolding c
  inv_out a h = ap m.inv (c_out a h) ∙ l.inv_zero

  pub total : m.q ≤ 256 → FieldLaws (capped m)
  unfolding c
  total bytes = record {
    two = l.two;
    bytes = bytes;
    g_below = l.g_below;
    add_below = λ a b. l.add_below (c a) (c b) (in_q a) (in_q b);
    add_assoc = λ a b d.
        ap (λ t. m.add t (c d)) (c_add a b) ∙ l.add_assoc (c a) (c b) (c d) (in_q a) (in_q b) (in_q d) ∙ ap (m.add (c a)) (sym (c_add b d));
    add_comm = λ a b. l.add_comm (c a) (c b) (in_q a) (in_q b);
    add_zero = λ a h. ap₂ m.add (c_in a h) c_zero ∙ l.add_zero a h;
    add_self = λ a. l.add_self (c a) (in_q a);
    mul_below = λ a b. l.mul_below (c a) (c b) (in_q a) (in_q b);
    mul_assoc = λ a b d.
        ap (λ t. m.mul t (c d)) (c_mul a b) ∙ l.mul_assoc (c a) (c b) (c d) (in_q a) (in_q b) (in_q d) ∙ ap (m.mul (c a)) (sym (c_mul b d));
    mul_comm = λ a b. l.mul_comm (c a) (c b) (in_q a) (in_q b);
    mul_one = λ a h. ap₂ m.mul (c_in a h) c_one ∙ l.mul_one a h;
    mul_zero = λ a. ap (m.mul (c a)) c_zero ∙ l.mul_zero (c a) (in_q a);
    mul_add = λ a b d.
        ap (m.mul (c a)) (c_add b d)
        ∙ l.mul_add (c a) (c b) (c d) (in_q a) (in_q b) (in_q d)
        ∙ ap₂ m.add (sym (c_mul a b)) (sym (c_mul a d));
    inv_below = λ a. l.inv_below (c a) (in_q a);
    inv_zero = ap m.inv c_zero ∙ l.inv_zero;
    mul_inv = λ a p h. ap₂ m.mul (c_in a h) (c_inv a ∙ ap m.inv (c_in a h)) ∙ l.mul_inv a p h;
    mul_out = λ a b h. mul_out a b (inl h);
    inv_out = inv_out;
    powers_differ = λ i j hi hj e. l.powers_differ i j hi hj (sym (powers i).1 ∙ e ∙ (powers j).1);
    powers_all = λ a p h. let w = l.powers_all a p h in (w.0, w.1, (powers w.0).1 ∙ w.2);
  }

  pub mul_in : (a b : ℕ) → a < m.q → b < m.q → (capped m).mul a b ≡ m.mul a b
  unfolding c
  mul_in a b ha hb = ap₂ m.mul (c_in a ha) (c_in b hb)

  pub add_in : (a b : ℕ) → a < m.q → b < m.q → (capped m).add a b ≡ m.add a b
  unfolding c
  add_in a b ha hb = ap₂ m.add (c_in a ha) (c_in b hb)

  pub inv_in : (a : ℕ) → a < m.q → (capped m).inv a ≡ m.inv a
  unfolding c
  inv_in a ha = ap m.inv (c_in a ha)
