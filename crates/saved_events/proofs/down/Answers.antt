-- `down` meets its contract, by where the book has the SEID and by the channel of its endpoint.
use Rattle.std.proofs.Common.{sym, ◌∙◌}
use Rattle.saved_events.proofs.Downs.{down_unknown, down_room, down_done, down_none}
use Rattle.saved_events.proofs.down.Goals as goal

pub get-head-requires : goal.get-head-requires
get-head-requires c =
    down_room c.args.seid c.args.book.octets.now c.args.records.now c.in-Some.place c.args.book.right c.requires
    (sym c.locate.ensures ∙ c.in-Some.is)

pub set-requires : goal.set-requires
set-requires c =
    down_room c.args.seid c.args.book.octets.now c.args.records.now c.in-Some.place c.args.book.right c.requires
    (sym c.locate.ensures ∙ c.in-Some.is)

pub returns : goal.returns
returns c =
    down_done c.args.seid c.args.book.octets.now c.args.records.now c.in-Some.place c.args.book.right c.requires
    (sym c.locate.ensures ∙ c.in-Some.is) c.set.new.records c.get-head.result c.switch_channel.new.e c.is_up.result
    c.get-head.ensures c.is_up.ensures c.if-not-is_up.false c.switch_channel.ensures c.set.ensures

pub returns-then-not-is_up : goal.returns-then-not-is_up
returns-then-not-is_up c =
    down_none c.args.seid c.args.book.octets.now c.args.records.now c.in-Some.place c.args.book.right c.requires
    (sym c.locate.ensures ∙ c.in-Some.is) c.get-head.result c.is_up.result c.get-head.ensures c.is_up.ensures
    c.if-not-is_up.true

pub returns-in_default : goal.returns-in_default
returns-in_default c =
    down_unknown c.args.seid c.args.book.octets.now c.args.records.now (sym c.locate.ensures ∙ c.in_default.is)
