-- One or two octets written one by one are written at the front.
use Rattle.std.proofs.Common.{◌≡◌, ℕ, ◌≤◌, List, [], ◌∷◌, length, set, refl, arith}
use Rattle.rules.specs.Octets.{front}

pub front_one : (l : List ℕ) (a : ℕ) → 1 ≤ length l → set l 0 a ≡ front (a ∷ []) l
unfolding front
front_one [] a h = absurd (omega arith)
front_one (x ∷ l) a h = refl

pub front_two : (l : List ℕ) (a b : ℕ) → 2 ≤ length l → set (set l 0 a) 1 b ≡ front (a ∷ b ∷ []) l
unfolding front
front_two [] a b h = absurd (omega arith)
front_two (x ∷ []) a b h = absurd (omega arith)
front_two (x ∷ y ∷ l) a b h = refl
