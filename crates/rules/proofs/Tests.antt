-- What a test that passed or failed tells, for the tests that the definitions are made of; each by cases on the test's value.
use Prim.Native.Nat.{ℕ, ◌≤◌}
use mathlib.Core.Path.{◌≡◌, refl, sym, ap, ap₂, ◌∙◌}
use mathlib.Core.List.{List, [], ◌∷◌}
use mathlib.Core.Bool.{Bool, true, false, not, ◌&&◌, ◌||◌, true≢false}
use lib.Dec.{leb, eqb}
use borrow.Author.Tests.{leb-true, eqb-true, eq-eqb, le-leb}
use Rattle.rules.specs.Octets.{between, same_octets}

-- A test is true or false, with the equation at hand: match on `told t`.
pub data Told? (b : Bool) : Type 0 where
  passed : b ≡ true → Told? b
  failed : b ≡ false → Told? b

pub told : (b : Bool) → Told? b
told true = passed refl
told false = failed refl

pub clash {ℓ} : {A : Type ℓ} {b : Bool} → b ≡ true → b ≡ false → A
clash p q = absurd (true≢false (sym p ∙ q))

-- Both tests of a conjunction, and back. `search (and_l, and_r)` takes a long one apart.
pub and_l : (a b : Bool) → a && b ≡ true → a ≡ true
and_l true b e = refl
and_l false b e = e

pub and_r : (a b : Bool) → a && b ≡ true → b ≡ true
and_r true b e = e
and_r false b e = clash e refl

pub and_both : (a b : Bool) → a ≡ true → b ≡ true → a && b ≡ true
and_both a b p q = ap₂ ◌&&◌ p q

pub and-true : (a : Bool) → a && true ≡ a
and-true true = refl
and-true false = refl

pub and-false : (a : Bool) → a && false ≡ false
and-false true = refl
and-false false = refl

pub or_l : (a b : Bool) → a ≡ true → a || b ≡ true
or_l a b p = ap (λ (x : Bool). x || b) p

pub or_r : (a b : Bool) → b ≡ true → a || b ≡ true
or_r true b p = refl
or_r false b p = p

pub not_passed : (a : Bool) → not a ≡ true → a ≡ false
not_passed true e = sym e
not_passed false e = refl

-- two Booleans are equal when each passes where the other does
pub same_test : (a b : Bool) → (a ≡ true → b ≡ true) → (b ≡ true → a ≡ true) → a ≡ b
same_test true true f g = refl
same_test true false f g = sym (f refl)
same_test false true f g = g refl
same_test false false f g = refl

-- `between`
pub between_least : (least most n : ℕ) → between least most n ≡ true → least ≤ n
unfolding between
between_least least most n e = leb-true least n (and_l (leb least n) (leb n most) e)

pub between_most : (least most n : ℕ) → between least most n ≡ true → n ≤ most
unfolding between
between_most least most n e = leb-true n most (and_r (leb least n) (leb n most) e)

pub between_both : (least most n : ℕ) → least ≤ n → n ≤ most → between least most n ≡ true
unfolding between
between_both least most n p q = and_both (leb least n) (leb n most) (le-leb least n p) (le-leb n most q)

-- `same_octets`
pub same_octets_lem : (a b : List ℕ) → same_octets a b ≡ true → a ≡ b
unfolding same_octets
same_octets_lem [] [] e = refl
same_octets_lem [] (y ∷ ys) e = clash refl (sym e)
same_octets_lem (x ∷ xs) [] e = clash refl (sym e)
same_octets_lem (x ∷ xs) (y ∷ ys) e =
    ap₂ ◌∷◌ (eqb-true x y (and_l (eqb x y) (same_octets xs ys) e)) (same_octets_lem xs ys (and_r (eqb x y) (same_octets xs ys) e))

pub octets_same : (a : List ℕ) → same_octets a a ≡ true
unfolding same_octets
octets_same [] = refl
octets_same (x ∷ xs) = and_both (eqb x x) (same_octets xs xs) (eq-eqb x x refl) (octets_same xs)
