-- `length_code` meets its contract: the check finds each arm of the categories 1 to 8, and any other number's is strange.
use native.Mathlib.Omega.{arith}
use Rattle.rules.specs.Elements.{length_code}
use Rattle.elements_offers.proofs.Categories.{other_strange}
use Rattle.elements_offers.proofs.length_code.Goals as goal

pub returns-in_default-clause-code : goal.returns-in_default-clause-code
unfolding length_code
returns-in_default-clause-code c =
    grind (arith, other_strange)
