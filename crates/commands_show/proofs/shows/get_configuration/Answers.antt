-- `get_configuration` meets its contract: the configuration of the endpoint that was met is copied.
use Rattle.commands_checks.proofs.Meeting.{stands}
use Rattle.commands_show.proofs.Showing.{config_fits, shows_config}
use Rattle.commands_show.proofs.shows.get_configuration.Goals as goal

pub config-requires : goal.config-requires
config-requires c =
    let it = stands c.requires in (it.inside, it.told)

pub accepted_with-requires : goal.accepted_with-requires
accepted_with-requires c =
    config_fits c.requires c.config.ensures

pub returns : goal.returns
returns c =
    shows_config c.requires c.config.ensures
    c.accepted_with.ensures.said c.accepted_with.ensures.reply
