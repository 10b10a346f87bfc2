-- `packet` meets its contract: refused with the number of the first test that fails, or taken.
use Rattle.bridge.proofs.PacketTaken.{may_take, packet_refused, packet_taken}
use Rattle.bridge.proofs.packet.Goals as goal

pub take-requires : goal.take-requires
take-requires c =
    may_take c.args.book.now c.args.size c.args.saved.now c.args.packet.now c.args.reply.now _ c.in-Ok.ensures.right
    c.in-Ok.ensures.number

pub returns-in-Ok : goal.returns-in-Ok
returns-in-Ok c =
    packet_taken c.args.book.now c.args.size c.args.saved.now c.args.packet.now c.args.reply.now _ c.in-Ok.ensures.right
    c.in-Ok.ensures.number _ c.take.ensures

pub returns-in-Err : goal.returns-in-Err
returns-in-Err c =
    packet_refused c.args.book.now c.args.size c.args.saved.now c.args.packet.now c.args.reply.now _ _ _
    c.in-Err.ensures.number c.from.ensures c.nothing.ensures
