use Prim.Native.Nat.{◌-◌}
use lib.ListN.{length}
use Rattle.elements_offers.proofs.+offers.Given as goal

abbrev pub decreases-offers : goal.decreases-offers
decreases-offers l = length l.caps.now - l.at
