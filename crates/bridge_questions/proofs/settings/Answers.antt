-- `settings` meets its contract: the configuration in the record of the endpoint that the SEID names, or what its entry offers
-- where there is none.
use Rattle.std.proofs.Common.{sym, ap, arith}
use Rattle.std.proofs.lemmas.Grind.{common_steps}
use Rattle.rules.specs.Host.{Shown}
use Rattle.bridge_refusals.proofs.Refusing.{Calm}
use Rattle.bridge_questions.proofs.Asked.{refused, answered, record_there, config_fits, offer_inside}
use Rattle.bridge_questions.proofs.Asked.{offer_shown, config_shown}
use Rattle.bridge_questions.proofs.settings.Goals as goal
use Rattle.bridge_questions.proofs.settings.Goals.{In-Ok}

-- nothing is refused
quiet : (c : In-Ok) → Calm c.args.book.now c.args.saved.now
quiet c = answered _ _ c.args.seid (λ i. (c.type_inv.saved i).fits) c.in-Ok.ensures.number

pub returns-in_default : goal.returns-in_default
returns-in_default c =
    sym (ap (λ (x : Shown). x.part) (refused c.args.book.now c.args.saved.now c.args.seid _ c.in_default.ensures.number).shown)

pub records_of-requires : goal.records_of-requires
records_of-requires c = (quiet (goal.at.records_of-requires c).In-Ok).long

pub config-config-requires : goal.config-config-requires
config-config-requires c =
    let quiet = quiet (goal.at.config-config-requires c).In-Ok in (
      record_there c.args.book.now c.args.saved.now c.args.seid quiet _ _ _ _ c.in-Ok.ensures.place _ c.records_of.ensures,
      config_fits c.args.book.now c.args.saved.now c.args.seid quiet _ _ _ _ c.in-Ok.ensures.place _ c.records_of.ensures,
    )

pub part-requires : goal.part-requires
part-requires c =
    offer_inside c.args.book.now c.args.saved.now c.args.seid (quiet (goal.at.part-requires c).In-Ok) _ _ _ _
    c.in-Ok.ensures.place _ c.records_of.ensures

pub returns-then-is_empty : goal.returns-then-is_empty
returns-then-is_empty c =
    offer_shown c.args.book.now c.args.saved.now c.args.seid (quiet (goal.at.returns-then-is_empty c).In-Ok) _ _ _ _
    c.in-Ok.ensures.place _ c.records_of.ensures c.config-config.result.now c.part.result.now
    c.config-config.ensures (grind (arith, common_steps)) c.part.ensures

pub returns-else-is_empty : goal.returns-else-is_empty
returns-else-is_empty c =
    config_shown c.args.book.now c.args.saved.now c.args.seid (quiet (goal.at.returns-else-is_empty c).In-Ok) _ _ _ _
    c.in-Ok.ensures.place _ c.records_of.ensures c.config-config.result.now c.config-config.ensures
    (grind (arith, common_steps))
