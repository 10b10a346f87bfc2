-- Words for all that follows: comparing octets, and what a lent area holds after a write.
use Rattle.std.specs.Prelude.{ℕ, List, [], ◌∷◌, ◌++◌, Bool, true, false, ◌&&◌, ◌||◌, length, drop, leb, ltb, eqb}

-- least ≤ n ≤ most
unfoldable pub between : ℕ → ℕ → ℕ → Bool
between least most n = leb least n && leb n most

-- the same octets, one by one
unfoldable pub same_octets : List ℕ → List ℕ → Bool
same_octets [] [] = true
same_octets [] (y ∷ ys) = false
same_octets (x ∷ xs) [] = false
same_octets (x ∷ xs) (y ∷ ys) = eqb x y && same_octets xs ys

unfoldable pub member : ℕ → List ℕ → Bool
member n [] = false
member n (x ∷ xs) = eqb n x || member n xs

unfoldable pub is_empty : List ℕ → Bool
is_empty [] = true
is_empty (x ∷ xs) = false

-- a test of some one of a list, and of each
module _ {A : Type 0} where
  unfoldable pub some_of : (A → Bool) → List A → Bool
  some_of p [] = false
  some_of p (x ∷ xs) = p x || some_of p xs

  unfoldable pub each_of : (A → Bool) → List A → Bool
  each_of p [] = true
  each_of p (x ∷ xs) = p x && each_of p xs

-- every number of a list is an octet
abbrev pub octets_in : List ℕ → Bool
octets_in l = each_of (λ (o : ℕ). ltb o 256) l

-- What a lent area holds once s was written at its front: the octets behind stay.
unfoldable pub front : List ℕ → List ℕ → List ℕ
front s area = s ++ drop (length s) area
