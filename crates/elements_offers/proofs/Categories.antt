-- Categories and their numbers. One proof goes through the numbers, `number_back`; what follows goes by cases on the category.
use Prim.Native.Nat.{ℕ, zero, suc, ◌≤◌, ◌<◌}
use mathlib.Core.Path.{◌≡◌, refl, sym, ap, ◌∙◌}
use mathlib.Core.Bool.{false}
use native.Mathlib.Omega.{arith}
use lib.Dec.{leb, eqb}
use borrow.Author.Tests.{leb-true, leb-false, eqb-true, eqb-false, ne_eqb}
use Rattle.rules.specs.Elements.{Category, category_of, transport, reporting, recovery, protection, compression, multiplexing}
use Rattle.rules.specs.Elements.{codec, delaying, strange, is_strange}
use Rattle.rules.proofs.Tests.{Told?, passed, failed, told, clash}
use Rattle.rules.proofs.AlikeStep.{above_is_strange}

-- what is told of a category, at a number that is known
pub at_key : {A : Type 0} (f : Category → A) {c k : ℕ} → c ≡ k → f (category_of k) ≡ f (category_of c)
at_key f e = ap (λ n. f (category_of n)) (sym e)

-- the number of a category, 0 of a strange one
unfoldable pub number_of : Category → ℕ
number_of transport = 1
number_of reporting = 2
number_of recovery = 3
number_of protection = 4
number_of compression = 5
number_of multiplexing = 6
number_of codec = 7
number_of delaying = 8
number_of strange = 0

number_back : (c : ℕ) → c ≤ 8 → number_of (category_of c) ≡ c
unfolding number_of category_of
number_back zero h = refl
number_back (suc zero) h = refl
number_back (suc (suc zero)) h = refl
number_back (suc (suc (suc zero))) h = refl
number_back (suc (suc (suc (suc zero)))) h = refl
number_back (suc (suc (suc (suc (suc zero))))) h = refl
number_back (suc (suc (suc (suc (suc (suc zero)))))) h = refl
number_back (suc (suc (suc (suc (suc (suc (suc zero))))))) h = refl
number_back (suc (suc (suc (suc (suc (suc (suc (suc zero)))))))) h = refl
number_back (suc (suc (suc (suc (suc (suc (suc (suc (suc c))))))))) h = absurd (omega arith)

strange_zero : (k : Category) → is_strange k ≡ eqb (number_of k) 0
unfolding is_strange number_of
strange_zero transport = refl
strange_zero reporting = refl
strange_zero recovery = refl
strange_zero protection = refl
strange_zero compression = refl
strange_zero multiplexing = refl
strange_zero codec = refl
strange_zero delaying = refl
strange_zero strange = refl

pub known_there : (c : ℕ) → (c ≡ 0 → ⊥) → c ≤ 8 → is_strange (category_of c) ≡ false
known_there c f h = strange_zero (category_of c) ∙ ap (λ n. eqb n 0) (number_back c h) ∙ ne_eqb c 0 f

-- what a category that is not strange tells of its number
known_low : (c : ℕ) → is_strange (category_of c) ≡ false → c ≤ 8
unfolding is_strange
known_low c e = go (told (leb c 8))
  where
    go : Told? (leb c 8) → c ≤ 8
    go (passed t) = leb-true c 8 t
    go (failed t) = clash (ap is_strange (above_is_strange c (leb-false c 8 t))) e

pub known_number : (c : ℕ) → is_strange (category_of c) ≡ false → number_of (category_of c) ≡ c
known_number c e = number_back c (known_low c e)

-- a number that is not the category's is of another category
pub apart : (c : ℕ) (k : Category) → is_strange k ≡ false → (c ≡ number_of k → ⊥) → category_of c ≡ k → ⊥
apart c k known f e = f (sym (known_number c (ap is_strange e ∙ known)) ∙ ap number_of e)

-- a number that is none of those from 1 to 8
pub other_strange : (c : ℕ) → (0 < c → 8 < c) → category_of c ≡ strange
unfolding category_of
other_strange c h = go (told (eqb c 0))
  where
    go : Told? (eqb c 0) → category_of c ≡ strange
    go (passed t) = ap category_of (eqb-true c 0 t)
    go (failed t) = let f = eqb-false c 0 t in above_is_strange c (h (omega arith))
