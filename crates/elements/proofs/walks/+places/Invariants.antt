-- The measure of `places` is what is left of the list.
use Rattle.std.proofs.Common.{◌-◌, length}
use Rattle.elements.proofs.walks.+places.Given as goal

abbrev pub decreases-places : goal.decreases-places
decreases-places l = length l.list.now - l.at
