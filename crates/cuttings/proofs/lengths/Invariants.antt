-- `lengths` meets its contract: every turn adds at most 300 to each of the two numbers.
use Rattle.std.proofs.Common.{◌*◌, ◌≤◌}
use Rattle.cuttings.proofs.lengths.Given as goal

abbrev pub invariant-loop-length : goal.invariant-loop-length
invariant-loop-length l = (l.tally.packets ≤ 300 * l.length) × (l.tally.different ≤ 300 * l.length)
