-- `set_picked` meets its contract: each way out has passed the checks before it, and what it says and writes is a law of
-- `Sets`.
use Rattle.std.proofs.Common.{◌≡◌, true, [], sym, refl, ap, ◌∙◌}
use Rattle.rules.specs.Endpoints.{far_right, settled_by}
use Rattle.rules.specs.declared.FarSeid.{FarSeid}
use Rattle.rules.specs.declared.Rule.TheVariants.{Setting}
use Rattle.elements_stored.proofs.Stores.{none_fit}
use Rattle.commands_set.proofs.Doings.{listed, checked_fit}
use Rattle.commands_set.proofs.Sets.{set_keeps, fault_refused, set_moves}
use Rattle.commands_set.proofs.settings.set_picked.Goals as goal

-- the far SEID is right, in the words of the call
right : {far octet : FarSeid} → far ≡ octet → far_right far ≡ true → far_right octet ≡ true
right same h = ap far_right (sym same) ∙ h

pub offer-requires : goal.offer-requires
offer-requires c =
    listed c.requires.0

pub invariant_of-new : goal.invariant_of-new
invariant_of-new c =
    record { fits = checked_fit Setting _ _ 2 (sym c.in-Ok.ensures) }

pub invariant_of-none : goal.invariant_of-none
invariant_of-none c =
    record { fits = rw c.none.ensures (none_fit []) }

pub keep-requires : goal.keep-requires
keep-requires c =
    set_keeps c.requires.0 _ (rw (← c.offer.ensures) (sym c.in-Ok.ensures)) c.none.ensures

pub returns-in-Err : goal.returns-in-Err
returns-in-Err c =
    fault_refused c.requires.0 (right c.requires.1 c.requires.2) (rw (← c.offer.ensures) (sym c.in-Err.ensures))
    c.rejected_element.ensures.said c.rejected_element.ensures.reply

pub returns-in-Ok : goal.returns-in-Ok
returns-in-Ok c =
    set_moves c.requires.0 (right c.requires.1 c.requires.2) _ (rw (← c.offer.ensures) (sym c.in-Ok.ensures)) c.none.ensures
    c.get-h.ensures (c.settled.ensures ∙ ap (λ f. settled_by f c.get-h.result) c.requires.1) refl c.keep.ensures
