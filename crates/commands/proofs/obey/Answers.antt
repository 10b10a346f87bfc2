-- `obey` meets its contract: an arm knows the signal, or that it names one endpoint.
use Rattle.std.proofs.Common.{sym, refl, ◌∙◌}
use Rattle.commands.proofs.Dispatch.{given_obeys, others_name_one, unassigned}
use Rattle.commands.proofs.obey.Goals as goal

pub on_endpoint-requires : goal.on_endpoint-requires
on_endpoint-requires c =
    let arm = c.in_default in
    (others_name_one c.signal_of-command.result arm.not-Discover arm.not-Start arm.not-Suspend arm.not-Unassigned, c.requires)

pub returns-in-Unassigned : goal.returns-in-Unassigned
returns-in-Unassigned c =
    given_obeys c.args.book.octets.now c.args.records.now c.args.payload.now c.args.reply.now
    (sym c.signal_of-command.ensures ∙ c.in-Unassigned.is) (unassigned c.requires refl)
