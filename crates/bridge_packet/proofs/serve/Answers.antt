-- `serve` meets its contract: the records are lent and come back behind the room, and what is said is told.
use Rattle.bridge_packet.proofs.Telling.{whole_serves, as_served}
use Rattle.bridge_packet.proofs.serve.Goals as goal

pub answer-said-requires : goal.answer-said-requires
answer-said-requires c =
    whole_serves c.args.book.octets.now c.args.saved.now c.args.payload.now c.args.reply.now c.requires.1

pub returns : goal.returns
returns c =
    as_served c.args.book.octets.now c.args.saved.now c.args.payload.now c.args.reply.now c.args.header _ _ _ _
    c.answer-said.ensures c.tell.ensures
