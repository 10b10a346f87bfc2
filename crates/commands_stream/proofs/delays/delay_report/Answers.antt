-- `delay_report` meets its contract: by whether a delay can be reported to the endpoint that was met, it is refused or stored.
use Rattle.std.proofs.Common.{refl, arith}
use Rattle.commands_stream.proofs.Moving.{three, delay_refused, delay_moves}
use Rattle.commands_stream.proofs.delays.delay_report.Goals as goal

pub returns-then-not-takes_delay : goal.returns-then-not-takes_delay
returns-then-not-takes_delay c =
    delay_refused c.requires c.config.ensures c.takes_delay.ensures c.if-not-takes_delay.true
    c.rejected.ensures.said c.rejected.ensures.reply

pub bounds-payload-1 : goal.bounds-payload-1
bounds-payload-1 c =
    omega (arith, three c.requires)

pub bounds-payload-2 : goal.bounds-payload-2
bounds-payload-2 c =
    omega (arith, three c.requires)

pub returns : goal.returns
returns c =
    delay_moves c.requires c.config.ensures c.takes_delay.ensures c.if-not-takes_delay.false
    c.get-h.ensures (rw (← c.from_be_bytes-tenths.ensures) c.delayed.ensures) refl c.set_head.ensures
