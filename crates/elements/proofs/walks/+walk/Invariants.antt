-- The measure of `walk` is what is left of the list.
use Rattle.std.proofs.Common.{◌-◌, length}
use Rattle.elements.proofs.walks.+walk.Given as goal

abbrev pub decreases-walk : goal.decreases-walk
decreases-walk l = length l.list.now - l.at
