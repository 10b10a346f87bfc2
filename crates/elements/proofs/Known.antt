-- What a number is told by: 1 to 8 are known categories, and any other is a strange one; and Reconfigure takes no known one but 4
-- and 7.
use Rattle.std.proofs.Common.{ℕ, ◌≡◌, true, false, refl, ap}
use Rattle.rules.specs.Elements.{Category, category_of, transport, reporting, recovery, protection, compression, multiplexing}
use Rattle.rules.specs.Elements.{codec, delaying, strange, is_strange, fixed}
use Rattle.rules.specs.declared.Rule.TheVariants.{Reconfiguring}
use Rattle.rules.proofs.Tests.{clash}
use Rattle.elements_offers.proofs.Categories.{number_of, apart, known_there, other_strange}

pub others_fixed : (c : ℕ) → is_strange (category_of c) ≡ false → (c ≡ 4 → ⊥) → (c ≡ 7 → ⊥)
    → fixed Reconfiguring (category_of c) ≡ true
unfolding fixed is_strange number_of
others_fixed c known f g = go (category_of c) refl
  where
    go : (k : Category) → category_of c ≡ k → fixed Reconfiguring k ≡ true
    go transport e = refl
    go reporting e = refl
    go recovery e = refl
    go protection e = absurd (apart c protection refl f e)
    go compression e = refl
    go multiplexing e = refl
    go codec e = absurd (apart c codec refl g e)
    go delaying e = refl
    go strange e = clash (ap is_strange e) known

pub ruleset kinds = (known_there, other_strange, others_fixed)
