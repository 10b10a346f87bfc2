-- `bawbeenor_settings` meets its contract: the number with which the place was not found, then the record's octet that tells the
-- configuration's length.
use Rattle.std.proofs.Common.{◌+◌, ◌≤◌, length, arith}
use Rattle.rules.specs.Saved.{record_room}
use Rattle.bridge_refusals.proofs.Refusing.{Calm}
use Rattle.bridge_questions.proofs.Asked.{answered}
use Rattle.host.specs.Exports.{ours, record_from}
use Rattle.host.proofs.SettingsStand.{refused_stands, record_inside, offer_stands, stored_stands}
use Rattle.host.proofs.bawbeenor_settings.Goals as goal
use Rattle.host.proofs.bawbeenor_settings.Goals.{In-Ok}

-- nothing is refused
quiet : (c : In-Ok) → Calm c.args.book.now c.args.saved.now
quiet c = answered _ _ (ours c.args.seid) (λ i. (c.type_inv.saved i).fits) c.in-Ok.ensures.number

-- the endpoint's record
inside : (c : In-Ok) → record_from c.in-Ok.place.index + record_room ≤ length c.args.saved.now
inside c = record_inside c.args.book.now c.args.saved.now c.args.seid (quiet c) _ _ _ _ c.in-Ok.ensures.place

pub returns-in-Err : goal.returns-in-Err
returns-in-Err c =
    rw (c.nowhere.ensures, c.from.ensures)
    (refused_stands c.args.book.now c.args.saved.now c.args.seid c.in-Err.refusal c.in-Err.ensures.number)

pub overflow_mul-head : goal.overflow_mul-head
overflow_mul-head c = omega (arith, inside (goal.at.overflow_mul-head c).In-Ok)

pub overflow_add-head : goal.overflow_add-head
overflow_add-head c = omega (arith, inside (goal.at.overflow_add-head c).In-Ok)

pub overflow_add-length : goal.overflow_add-length
overflow_add-length c = omega (arith, inside (goal.at.overflow_add-length c).In-Ok)

pub bounds-saved-head : goal.bounds-saved-head
bounds-saved-head c = omega (arith, inside (goal.at.bounds-saved-head c).In-Ok)

pub returns-then-length-eq0 : goal.returns-then-length-eq0
returns-then-length-eq0 c =
    offer_stands c.args.book.now c.args.saved.now c.args.seid (quiet (goal.at.returns-then-length-eq0 c).In-Ok) _ _ _ _
    c.in-Ok.ensures.place c.if-length-eq0.true

pub returns-else-length-eq0 : goal.returns-else-length-eq0
returns-else-length-eq0 c =
    stored_stands c.args.book.now c.args.saved.now c.args.seid (quiet (goal.at.returns-else-length-eq0 c).In-Ok) _ _ _ _
    c.in-Ok.ensures.place c.if-length-eq0.false
