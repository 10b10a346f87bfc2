-- `count` meets its contract: all octets are there if the first k are, which are those that are still to be looked at.
use Rattle.std.proofs.Common.{◌≡◌}
use Rattle.replay_hexes.specs.Hexes.{all_there}
use Rattle.replay_hexes.proofs.count.Given as goal

abbrev pub invariant-loop-k : goal.invariant-loop-k
invariant-loop-k l = all_there l.parted l.s l.n ≡ all_there l.parted l.s l.k
