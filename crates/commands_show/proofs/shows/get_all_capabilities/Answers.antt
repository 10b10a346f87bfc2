-- `get_all_capabilities` meets its contract: the list of the entry that was met is copied.
use Rattle.commands_show.proofs.Showing.{shows_all}
use Rattle.commands_show.proofs.shows.get_all_capabilities.Goals as goal

pub returns : goal.returns
returns c =
    shows_all c.requires c.part.ensures c.accepted_with.ensures.said c.accepted_with.ensures.reply
