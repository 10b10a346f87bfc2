-- `meets` meets its contract: by the place of the SEID, and then by the state in the record there.
use Rattle.std.proofs.Common.{sym, ◌∙◌}
use Rattle.std.proofs.lemmas.Result.{err_from_is_err_and}
use Rattle.commands_checks.proofs.Meeting.{met_unknown, met_inside, met_here, met_wrong}
use Rattle.commands_checks.proofs.preambles.meets.Goals as goal

pub returns-in_err-at : goal.returns-in_err-at
returns-in_err-at c =
    let left = err_from_is_err_and c.from_residual.result c.from_residual.ensures.1 in
    rw (left.1, left.2)
    (met_unknown c.args.signal _ _ c.args.seid c.locate.ensures c.in_err-at.ensures.ok_part c.in_err-at.ensures.value)

pub get-head-requires : goal.get-head-requires
get-head-requires c =
    met_inside c.args.signal _ _ c.args.seid c.args.book.right c.requires
    (sym c.locate.ensures ∙ c.in_ok-at.ensures.ok_part)

pub returns-then-may : goal.returns-then-may
returns-then-may c =
    met_here c.args.signal _ _ c.args.seid c.args.book.right c.requires
    (sym c.locate.ensures ∙ c.in_ok-at.ensures.ok_part) c.get-head.ensures c.may.ensures c.if-may.true

pub returns-else-may : goal.returns-else-may
returns-else-may c =
    met_wrong c.args.signal _ _ c.args.seid c.args.book.right c.requires
    (sym c.locate.ensures ∙ c.in_ok-at.ensures.ok_part) c.get-head.ensures c.may.ensures c.if-may.false
    c.wrong_state.ensures
