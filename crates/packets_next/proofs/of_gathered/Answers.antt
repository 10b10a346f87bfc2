-- `of_gathered` meets its contract: its tests are those of the definition.
use Rattle.std.proofs.Common.{◌<◌, get_or, arith}
use Rattle.std.proofs.lemmas.Bool.Decides.{nat_tests}
use Rattle.rules.specs.Packets.{label_in, mtype_in, longest}
use Rattle.packets_next.specs.Nexts.{of_gathered}
use Rattle.packets_next.proofs.of_gathered.Goals as goal

pub returns-then-packet-room-2 : goal.returns-then-packet-room-2
unfolding of_gathered label_in mtype_in longest
returns-then-packet-room-2 c =
    let octet : get_or c.args.packet.now 0 0 < 256 = omega (arith, c.type_inv.packet 0) in
    grind (arith, nat_tests)

pub returns-else-packet-room-2 : goal.returns-else-packet-room-2
unfolding of_gathered label_in mtype_in longest
returns-else-packet-room-2 c =
    let octet : get_or c.args.packet.now 0 0 < 256 = omega (arith, c.type_inv.packet 0) in
    grind (arith, nat_tests)
