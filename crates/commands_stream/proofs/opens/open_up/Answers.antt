-- `open_up` meets its contract: where none awaits its channel, the endpoint that was met is opened.
use Rattle.std.proofs.Common.{refl}
use Rattle.commands_stream.proofs.Moving.{open_moves}
use Rattle.commands_stream.proofs.opens.open_up.Goals as goal

pub returns : goal.returns
returns c =
    open_moves c.requires c.count.ensures c.none_awaits.ensures c.if-not-none_awaits.false
    c.get-h.ensures c.opened.ensures refl c.set_head.ensures
