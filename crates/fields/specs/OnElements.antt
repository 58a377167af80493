-- The laws of a field on its elements alone, and what they give.
use Rattle.std.specs.Prelude.{◌≡◌, ℕ, ◌-◌, ◌<◌, ◌≤◌}
use Rattle.std.proofs.Common.{sym, ap, ◌∙◌}
use Rattle.fields.specs.Laws.{power, Meaning}

-- the laws of a field of q elements, whose nonzero elements are the powers of g
pub record Laws (q g : ℕ) (add mul : ℕ → ℕ → ℕ) (inv : ℕ → ℕ) : Type 0 where
  pub two : 2 ≤ q
  pub add_below : (a b : ℕ) → a < q → b < q → add a b < q
  pub add_assoc : (a b c : ℕ) → a < q → b < q → c < q → add (add a b) c ≡ add a (add b c)
  pub add_comm : (a b : ℕ) → a < q → b < q → add a b ≡ add b a
  pub add_zero : (a : ℕ) → a < q → add a 0 ≡ a
  pub add_self : (a : ℕ) → a < q → add a a ≡ 0
  pub mul_below : (a b : ℕ) → a < q → b < q → mul a b < q
  pub mul_assoc : (a b c : ℕ) → a < q → b < q → c < q → mul (mul a b) c ≡ mul a (mul b c)
  pub mul_comm : (a b : ℕ) → a < q → b < q → mul a b ≡ mul b a
  pub mul_one : (a : ℕ) → a < q → mul a 1 ≡ a
  pub mul_zero : (a : ℕ) → a < q → mul a 0 ≡ 0
  pub mul_add : (a b c : ℕ) → a < q → b < q → c < q → mul a (add b c) ≡ add (mul a b) (mul a c)
  pub inv_below : (a : ℕ) → a < q → inv a < q
  pub inv_zero : inv 0 ≡ 0
  pub mul_inv : (a : ℕ) → 0 < a → a < q → mul a (inv a) ≡ 1
  pub g_below : g < q
  pub powers_differ : (i j : ℕ) → i < q - 1 → j < q - 1 → power mul g i ≡ power mul g j → i ≡ j
  pub powers_all : (a : ℕ) → 0 < a → a < q → (i : ℕ) × (i < q - 1) × (power mul g i ≡ a)

abbrev pub LawsOnElements : Meaning → Type 0
LawsOnElements m = Laws m.q m.g m.add m.mul m.inv

module _ {q g : ℕ} {add mul : ℕ → ℕ → ℕ} {inv : ℕ → ℕ} (l : Laws q g add mul inv) where
  -- what gives 1 with a is its inverse
  pub inv_unique : (a x : ℕ) → 0 < a → a < q → x < q → mul a x ≡ 1 → x ≡ inv a
  inv_unique a x pa ha hx e =
      let hi = l.inv_below a ha in
      sym (l.mul_one x hx)
      ∙ ap (mul x) (sym (l.mul_inv a pa ha))
      ∙ sym (l.mul_assoc x a (inv a) hx ha hi)
      ∙ ap (λ t. mul t (inv a)) (l.mul_comm x a hx ha ∙ e)
      ∙ l.mul_comm 1 (inv a) l.two hi
      ∙ l.mul_one (inv a) hi
