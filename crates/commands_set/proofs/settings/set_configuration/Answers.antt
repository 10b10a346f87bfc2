-- `set_configuration` meets its contract: each way out has passed the checks before it, and what it says and writes is a law of
-- `Sets`.
use Rattle.std.proofs.Common.{◌≡◌, ℕ, ◌-◌, true, List, length, get_or, take, drop, sym, refl, ◌∙◌, arith, length-drop, take_all}
use Rattle.rules.specs.Elements.{items, could_store}
use Rattle.rules.specs.Endpoints.{far_right}
use Rattle.rules.specs.Commands.{far_in}
use Rattle.octets.specs.Patch.{part}
use Rattle.commands_checks.proofs.Meeting.{stands}
use Rattle.commands_set.proofs.Doings.{listed}
use Rattle.commands_set.proofs.Sets.{could_few, far_refused, whole_moves}
use Rattle.commands_set.proofs.settings.set_configuration.Goals as goal
use Rattle.commands_set.proofs.settings.set_configuration.Goals.{Else-not-could_store, Else-not-far_right}

-- ---- What is known on the way

right : (c : Else-not-far_right) → far_right (far_in (get_or c.args.payload.now 1 0)) ≡ true
unfolding far_in
right c = sym c.far_right.ensures ∙ c.if-not-far_right.false

-- the elements, as a part of the payload
elements : (p : List ℕ) → take (length p - 2) (drop 2 p) ≡ drop 2 p
elements p = take_all (length p - 2) (drop 2 p) (rw length-drop (omega arith))

could : (c : Else-not-could_store)
    → could_store (items (part c.args.at.from c.args.at.size c.args.book.octets.now)) (drop 2 c.args.payload.now) ≡ true
could c = rw (← c.offer.ensures) (sym c.could_store.ensures ∙ c.if-not-could_store.false)

pub offer-requires : goal.offer-requires
offer-requires c =
    listed c.requires

pub returns-then-not-far_right : goal.returns-then-not-far_right
unfolding far_in
returns-then-not-far_right c =
    far_refused c.requires (sym c.far_right.ensures ∙ c.if-not-far_right.true)
    c.refused.ensures.said c.refused.ensures.reply

pub set_picked-requires : goal.set_picked-requires
unfolding far_in
set_picked-requires c =
    (c.requires, refl, right (goal.at.set_picked-requires c).Else-not-far_right)

pub keep_whole-requires : goal.keep_whole-requires
keep_whole-requires c =
    let it = could (goal.at.keep_whole-requires c).Else-not-could_store in
    ((stands c.requires).inside, rw (elements c.args.payload.now) (could_few c.requires it))

pub returns : goal.returns
unfolding far_in
returns c =
    whole_moves c.requires (right (goal.at.returns c).Else-not-far_right) (could (goal.at.returns c).Else-not-could_store)
    (elements c.args.payload.now) c.get-h.ensures c.settled.ensures refl c.keep_whole.ensures
