-- `grow` meets its contract: one part more behind what is gathered, and the head keeps its first five octets.
use native.Mathlib.Omega.{arith}
use mathlib.Core.Path.{◌∙◌}
use lib.ListN.{length-drop}
use Rattle.octets.proofs.Tails.{behind_whole, length_behind}
use Rattle.packets_gather.proofs.Fronts.{grown_stored}
use Rattle.packets_gather.proofs.grow.Goals as goal

pub add_part-requires : goal.add_part-requires
add_part-requires c =
    (c.requires.room_gathers.0, omega (arith, length_behind 1 c.args.packet.now, length-drop 1 c.args.packet.now))

pub returns : goal.returns
returns c =
    c.add_part.ensures
    ∙ grown_stored c.args.room.now c.args.packet.now _ _ c.requires.room_gathers.0 c.requires.room_gathers.1 (omega arith)
    c.gathered-before.ensures (behind_whole 1 c.args.packet.now)
