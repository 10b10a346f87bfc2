-- `close` meets its contract: the endpoint that was met leaves.
use Rattle.commands_stream.proofs.Moving.{closes}
use Rattle.commands_stream.proofs.leaves.close.Goals as goal

pub returns : goal.returns
returns c =
    closes c.requires c.leave.ensures.said c.leave.ensures.records
