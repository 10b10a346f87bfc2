-- `message` meets its contract: every turn finds at most one packet that differs.
use Rattle.std.proofs.Common.{◌+◌, ◌≤◌, length}
use Rattle.cuttings.proofs.message.Given as goal

abbrev pub invariant-loop-index : goal.invariant-loop-index
invariant-loop-index l = (length l.rest ≤ 512) × (l.different ≤ l.index + 2)
