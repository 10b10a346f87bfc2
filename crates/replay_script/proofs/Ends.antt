-- Behind the end of a list nothing is left.
use Rattle.std.proofs.Common.{ℕ, zero, suc, ◌≤◌, ◌≡◌, List, [], ◌∷◌, length, drop, arith}
use lib.Seq.{drop-nil}

pub drop_past : (n : ℕ) (l : List ℕ) → length l ≤ n → drop n l ≡ []
drop_past n [] h = drop-nil n
drop_past zero (x ∷ l) h = absurd (omega arith)
drop_past (suc n) (x ∷ l) h = drop_past n l (omega arith)
