-- The records written behind the other parts of an area, and then the gathering's mark, and the count, set there: each is one
-- octet of what stands before the records.
use Prim.Native.Nat.{ℕ, ◌-◌, ◌≤◌}
use native.Mathlib.Omega.{arith}
use mathlib.Core.Path.{◌≡◌, refl, ap, ◌∙◌}
use mathlib.Core.List.{List, [], ◌∷◌, ◌++◌}
use mathlib.Core.Option.{none}
use lib.ListN.{length, take, set}
use borrow.Rule.Slice.PartMut.{put_mid}
use Rattle.rules.specs.Octets.{front}
use Rattle.rules.specs.Saved.{records_place, count_in, link_of, store_gathering}
use Rattle.octets.proofs.Tails.{tail_back}

-- what stands before the records, with the mark set to none
cleared : (l records : List ℕ) → 2 ≤ length l
    → set (take records_place l ++ records) 1 0 ≡ count_in l ∷ (front (0 ∷ []) (link_of l) ++ records)
unfolding front count_in link_of
cleared [] records h = absurd (omega arith)
cleared (x ∷ []) records h = absurd (omega arith)
cleared (x ∷ y ∷ l) records h = refl

counted : (n : ℕ) (l records : List ℕ) → 2 ≤ length l
    → set (set (take records_place l ++ records) 0 n) 1 0 ≡ n ∷ (front (0 ∷ []) (link_of l) ++ records)
unfolding front link_of
counted n [] records h = absurd (omega arith)
counted n (x ∷ []) records h = absurd (omega arith)
counted n (x ∷ y ∷ l) records h = refl

module _ (l records : List ℕ) (h : 2 ≤ length l) where
  pub cleared_back : set (put_mid records_place (length l - records_place) l records) 1 0
      ≡ count_in l ∷ (store_gathering none (link_of l) ++ records)
  unfolding store_gathering
  cleared_back = ap (λ (x : List ℕ). set x 1 0) (tail_back records_place l records) ∙ cleared l records h

  pub counted_back : (n : ℕ) → set (set (put_mid records_place (length l - records_place) l records) 0 n) 1 0
      ≡ n ∷ (store_gathering none (link_of l) ++ records)
  unfolding store_gathering
  counted_back n = ap (λ (x : List ℕ). set (set x 0 n) 1 0) (tail_back records_place l records) ∙ counted n l records h
