-- `sizes` meets its contract: every turn adds at most 300 * 513 to each of the two numbers.
use Rattle.std.proofs.Common.{◌*◌, ◌≤◌}
use Rattle.cuttings.proofs.sizes.Given as goal

abbrev pub invariant-loop-octets : goal.invariant-loop-octets
invariant-loop-octets l = (l.tally.packets ≤ 300 * 513 * l.octets) × (l.tally.different ≤ 300 * 513 * l.octets)
