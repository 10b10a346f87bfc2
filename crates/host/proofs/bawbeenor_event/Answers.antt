-- `bawbeenor_event` meets its contract: the event that the two numbers mean happens.
use Rattle.std.proofs.Common.{ℕ, ap, ◌∙◌}
use Rattle.rules.specs.Host.{event_call}
use Rattle.host.proofs.bawbeenor_event.Goals as goal

pub returns : goal.returns
returns c =
    ap (λ (n : ℕ). record { number = n; saved = c.event.new.saved }) c.number.ensures
    ∙ c.event.ensures
    ∙ ap (event_call c.args.book.now c.args.saved.now) c.event_of.ensures
