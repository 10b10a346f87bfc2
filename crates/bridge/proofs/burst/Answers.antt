-- `burst` meets its contract: refused with the number of the first test that fails, or taken.
use Rattle.bridge.proofs.PacketTaken.{may_take_all, burst_refused, burst_taken_lem}
use Rattle.bridge.proofs.burst.Goals as goal

pub take_all-requires : goal.take_all-requires
take_all-requires c =
    may_take_all c.args.book.now c.args.size c.args.saved.now c.args.octets.now c.args.lengths.now c.args.reply.now _
    c.in-Ok.ensures.right c.in-Ok.ensures.number

pub returns-in-Ok : goal.returns-in-Ok
returns-in-Ok c =
    burst_taken_lem c.args.book.now c.args.size c.args.saved.now c.args.octets.now c.args.lengths.now c.args.reply.now _
    c.in-Ok.ensures.right c.in-Ok.ensures.number _ c.take_all.ensures

pub returns-in-Err : goal.returns-in-Err
returns-in-Err c =
    burst_refused c.args.book.now c.args.size c.args.saved.now c.args.octets.now c.args.lengths.now c.args.reply.now _ _ _
    c.in-Err.ensures.number c.from.ensures c.none_told.ensures
