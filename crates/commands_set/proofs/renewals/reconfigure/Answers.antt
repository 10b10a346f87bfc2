-- `reconfigure` meets its contract: by what the check of the elements finds, and what is said and written is a law of `Anew`.
use Rattle.std.proofs.Common.{sym, refl}
use Rattle.rules.specs.declared.Rule.TheVariants.{Reconfiguring}
use Rattle.commands_set.proofs.Doings.{listed, checked_fit}
use Rattle.commands_set.proofs.Anew.{renews, fault_refused, anew_moves}
use Rattle.commands_set.proofs.renewals.reconfigure.Goals as goal

pub offer-requires : goal.offer-requires
offer-requires c =
    listed c.requires

pub invariant_of-new : goal.invariant_of-new
invariant_of-new c =
    record { fits = checked_fit Reconfiguring _ _ 1 (sym c.in-Ok.ensures) }

pub renew-requires : goal.renew-requires
renew-requires c =
    renews c.requires c.get-h.ensures
    (rw (← c.offer.ensures) (sym c.in-Ok.ensures))

pub returns-in-Err : goal.returns-in-Err
returns-in-Err c =
    fault_refused c.requires (rw (← c.offer.ensures) (sym c.in-Err.ensures))
    c.rejected_element.ensures.said c.rejected_element.ensures.reply

pub returns-in-Ok : goal.returns-in-Ok
returns-in-Ok c =
    anew_moves c.requires {m = c.in-Ok.marks} (rw (← c.offer.ensures) (sym c.in-Ok.ensures)) c.get-h.ensures refl c.renew.ensures
