-- `begin` meets its contract: five stores and a part, which is all that stands behind the header.
use native.Mathlib.Omega.{arith}
use mathlib.Core.Path.{◌∙◌}
use lib.ListN.{length-set, length-drop}
use Rattle.octets.proofs.Tails.{behind_whole, length_behind}
use Rattle.packets_gather.proofs.Fronts.{begun_stored}
use Rattle.packets_gather.proofs.begin.Goals as goal

pub bounds-room-4 : goal.bounds-room-4
bounds-room-4 c =
    simp length-set (omega arith)

pub add_part-requires : goal.add_part-requires
add_part-requires c =
    (simp length-set c.requires.room_whole, omega (arith, length_behind 3 c.args.packet.now, length-drop 3 c.args.packet.now))

pub shape_of-room : goal.shape_of-room
shape_of-room c =
    c.add_part.auto.room ∙ simp length-set

pub returns : goal.returns
returns c =
    rw (c.add_part.ensures, c.header_in-header.ensures)
    (begun_stored c.args.room.now c.args.packet.now _ c.requires.room_whole (behind_whole 3 c.args.packet.now))
