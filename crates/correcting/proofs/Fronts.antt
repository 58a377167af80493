-- The front of a list.
use Rattle.std.proofs.Common.{◌≡◌, ℕ, ◌<◌, ◌≤◌, List, length, get_or, take, ap, ◌∙◌, length-take-le, get_or-take}

pub front_length : (front xs : List ℕ) (n : ℕ) → front ≡ take n xs → n ≤ length xs → length front ≡ n
front_length front xs n e l = ap length e ∙ length-take-le n xs l

pub front_at : (front xs : List ℕ) (n i : ℕ) → front ≡ take n xs → i < n → get_or front i 0 ≡ get_or xs i 0
front_at front xs n i e l = ap (λ ys. get_or ys i 0) e ∙ get_or-take n xs i 0 l
