-- `value_within` meets its contract: 4 and 7 have rules of their own, which the check finds, and a value of any other category
-- is within.
use Prim.Native.Nat.{ℕ}
use mathlib.Core.Path.{◌≡◌, refl}
use mathlib.Core.List.{List}
use mathlib.Core.Bool.{true}
use native.Mathlib.Omega.{arith}
use Rattle.rules.specs.Elements.{Category, category_of, transport, reporting, recovery, protection, compression, multiplexing}
use Rattle.rules.specs.Elements.{codec, delaying, strange, is_strange, value_within}
use Rattle.elements_offers.proofs.Categories.{number_of, apart}
use Rattle.elements_offers.proofs.value_within.Goals as goal

others : (c : ℕ) (v w : List ℕ) → (c ≡ 4 → ⊥) → (c ≡ 7 → ⊥) → true ≡ value_within (category_of c) v w
unfolding value_within is_strange number_of
others c v w f g = go (category_of c) refl
  where
    go : (k : Category) → category_of c ≡ k → true ≡ value_within k v w
    go transport e = refl
    go reporting e = refl
    go recovery e = refl
    go protection e = absurd (apart c protection refl f e)
    go compression e = refl
    go multiplexing e = refl
    go codec e = absurd (apart c codec refl g e)
    go delaying e = refl
    go strange e = refl

pub returns-in_default : goal.returns-in_default
returns-in_default c =
    others c.args.category c.args.value.now c.args.offer.now (omega arith) (omega arith)
