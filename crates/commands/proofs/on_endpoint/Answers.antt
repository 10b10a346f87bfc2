-- `on_endpoint` meets its contract: what the checks refuse is refused, and at the endpoint that they met `act` answers.
use Rattle.std.proofs.Common.{Err, sym, ap, ◌∙◌}
use Rattle.commands.proofs.Dispatch.{refused}
use Rattle.commands.proofs.on_endpoint.Goals as goal

pub returns-in-Err : goal.returns-in-Err
returns-in-Err c =
    refused c.requires.1 c.args.signal c.requires.0 (sym (ap (λ n. Err n) c.from.ensures ∙ c.in-Err.ensures))
    (c.refused.ensures.said, c.refused.ensures.reply)
