-- `event` meets its contract: the refusal, then what each event does to the records; link loss ends the gathering too.
use Rattle.std.proofs.Common.{rules, refl, sym, subst, arith}
use Rattle.rules.specs.Calls.{Happens}
use Rattle.rules.proofs.Refusing.{handed_on}
use Rattle.bridge_refusals.proofs.Refusing.{Calm, calm}
use Rattle.bridge_link.proofs.Happened.{event_refused, lent_held, up_happens, down_happens, lost_happens}
use Rattle.bridge_link.proofs.event.Goals as goal
use Rattle.bridge_link.proofs.event.Goals.{In_ok-right}

-- nothing is refused
quiet : (c : In_ok-right) → Calm c.args.book.now c.args.saved.now
quiet c = calm c.args.book.now c.args.saved.now (search rules) c.in_ok-right.ensures.number

pub returns-in_err-right : goal.returns-in_err-right
returns-in_err-right c =
    subst (λ n. Happens c.args.book.now c.args.saved.now c.args.event n c.args.saved.now)
    (sym (handed_on _ c.in_err-right.field-0.0 c.from_residual.ensures.1))
    (event_refused c.args.book.now c.args.saved.now c.args.event _ c.in_err-right.ensures.number)

pub slice_bounds-up-count : goal.slice_bounds-up-count
slice_bounds-up-count c = (quiet (goal.at.slice_bounds-up-count c).In_ok-right).long

pub slice_bounds-up-start : goal.slice_bounds-up-start
slice_bounds-up-start c = (quiet (goal.at.slice_bounds-up-start c).In_ok-right).long

pub slice_bounds-down-count : goal.slice_bounds-down-count
slice_bounds-down-count c = (quiet (goal.at.slice_bounds-down-count c).In_ok-right).long

pub slice_bounds-down-start : goal.slice_bounds-down-start
slice_bounds-down-start c = (quiet (goal.at.slice_bounds-down-start c).In_ok-right).long

pub slice_bounds-lost-count : goal.slice_bounds-lost-count
slice_bounds-lost-count c = (quiet (goal.at.slice_bounds-lost-count c).In_ok-right).long

pub slice_bounds-lost-start : goal.slice_bounds-lost-start
slice_bounds-lost-start c = (quiet (goal.at.slice_bounds-lost-start c).In_ok-right).long

pub up-requires : goal.up-requires
up-requires c =
    lent_held c.args.book.now c.args.saved.now (quiet (goal.at.up-requires c).In_ok-right) _ c.count.result
    c.in_ok-right.ensures.right c.count.ensures

pub down-requires : goal.down-requires
down-requires c =
    lent_held c.args.book.now c.args.saved.now (quiet (goal.at.down-requires c).In_ok-right) _ _ c.in_ok-right.ensures.right refl

pub lost-requires : goal.lost-requires
lost-requires c =
    lent_held c.args.book.now c.args.saved.now (quiet (goal.at.lost-requires c).In_ok-right) _ c.count-in-Lost.result
    c.in_ok-right.ensures.right c.count-in-Lost.ensures

pub bounds-saved-1 : goal.bounds-saved-1
bounds-saved-1 c =
    let q = quiet (goal.at.bounds-saved-1 c).In_ok-right in grind (arith, q.long)

pub returns-in-Up : goal.returns-in-Up
returns-in-Up c =
    up_happens c.args.book.now c.args.saved.now (quiet (goal.at.returns-in-Up c).In_ok-right) c.args.event _ c.count.result
    _ c.up.new.records c.in-Up.is c.in_ok-right.ensures.right c.count.ensures c.up.ensures

pub returns-in-Down : goal.returns-in-Down
returns-in-Down c =
    down_happens c.args.book.now c.args.saved.now (quiet (goal.at.returns-in-Down c).In_ok-right) c.args.event _ c.in-Down.seid
    _ c.down.new.records c.in-Down.is c.in_ok-right.ensures.right c.down.ensures

pub returns-in-Lost : goal.returns-in-Lost
returns-in-Lost c =
    lost_happens c.args.book.now c.args.saved.now (quiet (goal.at.returns-in-Lost c).In_ok-right) c.args.event _
    c.count-in-Lost.result c.lost.new.records c.in-Lost.is c.in_ok-right.ensures.right c.count-in-Lost.ensures c.lost.ensures
