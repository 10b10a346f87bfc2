-- `echo` meets its contract: at packet number i the room holds what the packets before it have of the message, and the turn of
-- the last packet gives the message back.
use Rattle.std.proofs.Common.{◌≡◌, ◌≤◌, length, take, refl, ap, ◌∙◌, arith}
use Rattle.std.proofs.Math.ListN.{length-take}
use Rattle.std.specs.Prelude.{Some}
use Rattle.rules.specs.Octets.{front}
use Rattle.rules.specs.Packets.{Message}
use Rattle.rules.specs.Cutting.{count_of, packet_at}
use Rattle.packets_cut.proofs.Cutter.{size_right_lem}
use Rattle.packets_echo.specs.declared.Echoed.{Echoed}
use Rattle.packets_echo.proofs.Turns.{message_of, Whole, some_packet, few_packets, packet_small, Written, written, lent, fresh}
use Rattle.packets_echo.proofs.Turns.{Back, turn_done, turn_on}
use Rattle.packets_echo.proofs.echo.Goals as goal
use Rattle.packets_echo.proofs.echo.Goals.{After-count-index-end, After-cut-piece, After-receive}

-- ---- What was asked, and a turn

whole_at : (c : After-count-index-end) → Whole c.args.size.octets (message_of c.args.header c.args.payload.now)
whole_at c =
    record {
      right = size_right_lem c.args.size.octets c.args.size.least c.args.size.most;
      most = c.args.size.most;
      room = omega arith;
      short = c.requires.payload_fits;
    }

abbrev message_at : After-cut-piece → Message
message_at c = message_of c.args.header c.args.payload.now

written_at : (c : After-cut-piece) → Whole c.args.size.octets (message_at c)
    → Written c.cut-piece.result (packet_at c.args.size.octets (message_at c) c.loop-index.index) c.loop-index.area
    c.cut-piece.new.area
written_at c w =
    written w c.loop-index.index c.cut-piece.result c.loop-index.area c.cut-piece.new.area c.loop-index.invariant.owed.below
    (omega arith) (omega arith) c.cut-piece.ensures

lent_at : (c : After-cut-piece) → Whole c.args.size.octets (message_at c)
    → take c.cut-piece.result.length c.cut-piece.new.area ≡ packet_at c.args.size.octets (message_at c) c.loop-index.index
lent_at c w = lent c.cut-piece.result _ c.loop-index.area c.cut-piece.new.area (written_at c w)

-- the part of the area that is lent is within it
within : (c : After-cut-piece) → Whole c.args.size.octets (message_at c)
    → c.cut-piece.result.length ≤ length c.cut-piece.new.area
within c w = omega (arith, (written_at c w).size, packet_small w c.loop-index.index)

back_at : (c : After-receive) → let m = message_of c.args.header c.args.payload.now in Whole c.args.size.octets m
    → take c.cut-piece.result.length c.cut-piece.new.area ≡ packet_at c.args.size.octets m c.loop-index.index → (e : Echoed)
    → c.receive.result ≡ Some e → Back m e c.loop-index.message c.receive.new.message
back_at c w packet e d =
    turn_done w c.loop-index.invariant.owed _ packet c.receive.result c.receive.new.room c.loop-index.message
    c.receive.new.message c.receive.ensures.echoed c.receive.ensures.room c.receive.ensures.message e d

-- ---- The goals

pub loop-index-init : goal.loop-index-init
loop-index-init c =
    let w = whole_at c in
    record {
      owed = record { below = some_packet w; few = few_packets w; right = c.requires.room_right; reached = fresh };
      untouched = refl;
    }

pub slice_bounds-receive-end : goal.slice_bounds-receive-end
slice_bounds-receive-end c =
    within (goal.at.slice_bounds-receive-end c).After-cut-piece
    (whole_at (goal.at.slice_bounds-receive-end c).After-count-index-end)

pub slice_bounds-receive-end-in-loop-index : goal.slice_bounds-receive-end-in-loop-index
slice_bounds-receive-end-in-loop-index c =
    let fits =
    within (goal.at.slice_bounds-receive-end-in-loop-index c).After-cut-piece
    (whole_at (goal.at.slice_bounds-receive-end-in-loop-index c).After-count-index-end) in
    simp length-take (omega arith)

pub returns-in-Some : goal.returns-in-Some
returns-in-Some c =
    let w = whole_at (goal.at.returns-in-Some c).After-count-index-end in
    let packet = lent_at (goal.at.returns-in-Some c).After-cut-piece w in
    let b = back_at (goal.at.returns-in-Some c).After-receive w packet c.in-Some.echoed c.in-Some.is in
    record {
      echoed = b.echoed;
      message = b.written ∙ ap (front c.args.payload.now) c.loop-index.invariant.untouched;
    }

pub loop-index-preserved : goal.loop-index-preserved
loop-index-preserved c =
    let w = whole_at (goal.at.loop-index-preserved c).After-count-index-end in
    let packet = lent_at (goal.at.loop-index-preserved c).After-cut-piece w in
    let on =
    turn_on w c.loop-index.invariant.owed _ packet c.receive.result c.receive.new.room c.loop-index.message
    c.receive.new.message c.receive.ensures.echoed c.receive.ensures.room c.receive.ensures.message c.in_default.is in
    record { owed = on.0; untouched = on.1 ∙ c.loop-index.invariant.untouched }

pub unreachable-requires : goal.unreachable-requires
unfolding count_of
unreachable-requires c = omega (arith, c.loop-index.invariant.owed.below)
