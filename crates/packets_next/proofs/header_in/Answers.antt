-- `header_in` meets its contract: a label needs no remainder, for the octet is below 256.
use Rattle.std.proofs.Common.{arith}
use Rattle.rules.specs.Packets.{label_in, mtype_in, signal_in}
use Rattle.packets_next.proofs.header_in.Goals as goal

pub returns : goal.returns
unfolding label_in mtype_in signal_in
returns c = grind arith
