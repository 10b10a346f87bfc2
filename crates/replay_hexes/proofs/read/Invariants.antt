use Rattle.std.proofs.Common.{◌≡◌}
use Rattle.octets.specs.Patch.{patch}
use Rattle.replay_hexes.specs.Hexes.{octets_read}
use Rattle.replay_hexes.proofs.read.Given as goal

abbrev pub invariant-loop-k : goal.invariant-loop-k
invariant-loop-k l = l.dst ≡ patch 0 (octets_read l.parted l.s l.k) l.initial.dst
