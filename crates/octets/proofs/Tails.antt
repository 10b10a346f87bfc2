-- What stands behind a place of an area, as the code takes it and as it is lent and comes back: the length tells that it is all.
use Prim.Native.Nat.{ℕ, ◌-◌}
use native.Mathlib.Omega.{arith}
use mathlib.Core.Path.{◌≡◌, ap, ◌∙◌}
use mathlib.Core.List.{List, ◌++◌, append-nil}
use lib.ListN.{length, take, drop, length-drop, drop_of_length-le}
use lib.Seq.{take_all}

-- all that stands behind a place
pub behind_whole : (k : ℕ) (l : List ℕ) → take (length l - k) (drop k l) ≡ drop k l
behind_whole k l = take_all (length l - k) (drop k l) (rw length-drop (omega arith))

pub length_behind : (k : ℕ) (l : List ℕ) → length (take (length l - k) (drop k l)) ≡ length l - k
length_behind k l = rw (behind_whole k l) (length-drop k l)

-- and lent it comes back behind what stands before
pub tail_back : (k : ℕ) (l m : List ℕ) → take k l ++ (m ++ drop (length l - k) (drop k l)) ≡ take k l ++ m
tail_back k l m =
    let e = length-drop k l in
    ap (λ (x : List ℕ). take k l ++ x)
    (ap (λ (x : List ℕ). m ++ x) (drop_of_length-le (drop k l) {i = length l - k} (omega arith)) ∙ append-nil m)
