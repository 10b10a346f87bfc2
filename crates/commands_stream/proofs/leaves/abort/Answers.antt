-- `abort` meets its contract: the endpoint that was met leaves.
use Rattle.commands_stream.proofs.Moving.{aborts}
use Rattle.commands_stream.proofs.leaves.abort.Goals as goal

pub returns : goal.returns
returns c =
    aborts c.requires c.leave.ensures.said c.leave.ensures.records
