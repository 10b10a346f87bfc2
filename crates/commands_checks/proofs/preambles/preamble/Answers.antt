-- `preamble` meets its contract: by the length, of which a command that names an endpoint has some, and then by the SEID.
use Rattle.std.proofs.Common.{sym, ◌∙◌}
use Rattle.rules.specs.Commands.{our_in}
use Rattle.commands_checks.proofs.Meeting.{names_some, met_long, met_short}
use Rattle.commands_checks.proofs.preambles.preamble.Goals as goal

pub bounds-payload-0 : goal.bounds-payload-0
bounds-payload-0 c =
    names_some c.args.signal c.requires.0 _ (sym c.length_right.ensures ∙ c.if-length_right.true)

pub returns-then-length_right : goal.returns-then-length_right
unfolding our_in
returns-then-length_right c =
    met_long c.args.signal _ _ _ c.length_right.ensures c.if-length_right.true c.meets.ensures

pub returns-else-length_right : goal.returns-else-length_right
returns-else-length_right c =
    met_short c.args.signal _ _ _ c.length_right.ensures c.if-length_right.false
