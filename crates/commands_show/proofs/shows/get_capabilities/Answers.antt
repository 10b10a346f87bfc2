-- `get_capabilities` meets its contract: of the list of the entry that was met, the front is copied.
use Rattle.commands_show.proofs.Showing.{list_inside, front_inside, front_room, shows_some}
use Rattle.commands_show.proofs.shows.get_capabilities.Goals as goal

pub part-requires : goal.part-requires
part-requires c =
    list_inside c.requires

pub part-requires-2 : goal.part-requires-2
part-requires-2 c =
    front_inside c.requires c.part.ensures c.codec_end-size.ensures

pub accepted_with-requires : goal.accepted_with-requires
accepted_with-requires c =
    front_room c.requires c.part.ensures c.codec_end-size.ensures
    c.part-2.ensures

pub returns : goal.returns
returns c =
    shows_some c.requires c.part.ensures c.codec_end-size.ensures
    c.part-2.ensures c.accepted_with.ensures.said c.accepted_with.ensures.reply
