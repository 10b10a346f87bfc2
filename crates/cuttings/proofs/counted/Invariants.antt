-- `counted` meets its contract: every packet but the last takes at least 45 octets off. The last may take fewer, so the invariant
-- allows 45 more once nothing is left.
use Rattle.std.proofs.Common.{◌+◌, ◌*◌, ◌≤◌, ◌-◌}
use Rattle.cuttings.proofs.counted.Given as goal

abbrev pub invariant-loop-left : goal.invariant-loop-left
invariant-loop-left l = (l.left ≤ 512) × (45 * l.count + l.left ≤ 557 + 45 * (1 - l.left))

abbrev pub decreases-loop-left : goal.decreases-loop-left
decreases-loop-left l = l.left
