use Rattle.std.proofs.Common.{◌-◌, length}
use Rattle.elements_order.proofs.+after_protection.Given as goal

abbrev pub decreases-after_protection : goal.decreases-after_protection
decreases-after_protection g l = length l.list.now - l.at
