-- `step` meets its contract: each arm is the call of its name.
use Rattle.std.proofs.Common.{◌∙◌}
use Rattle.bridge_step.proofs.Made.{checks, freshens, takes, takes_all, happens, shows, hears, stands, counts, cuts}
use Rattle.bridge_step.proofs.step.Goals as goal

pub returns-in-Check : goal.returns-in-Check
returns-in-Check c =
    checks c.args.book.now c.args.saved.now c.args.call c.args.input.now c.args.lengths.now c.args.area.now
    c.args.room.now c.in-Check.is _ (c.number.ensures ∙ c.check.ensures)

pub returns-in-Fresh : goal.returns-in-Fresh
returns-in-Fresh c =
    freshens c.args.book.now c.args.saved.now c.args.call c.args.input.now c.args.lengths.now c.args.area.now
    c.args.room.now c.in-Fresh.is _ _ _ c.number-in-Fresh.ensures c.fresh.ensures

pub returns-in-Packet : goal.returns-in-Packet
returns-in-Packet c =
    takes c.args.book.now c.args.saved.now c.args.call c.args.input.now c.args.lengths.now c.args.area.now
    c.args.room.now _ c.in-Packet.is _ _ _ c.packet.ensures

pub returns-in-Burst : goal.returns-in-Burst
returns-in-Burst c =
    takes_all c.args.book.now c.args.saved.now c.args.call c.args.input.now c.args.lengths.now c.args.area.now
    c.args.room.now _ c.in-Burst.is _ _ _ c.burst.ensures

pub returns-in-Event : goal.returns-in-Event
returns-in-Event c =
    happens c.args.book.now c.args.saved.now c.args.call c.args.input.now c.args.lengths.now c.args.area.now
    c.args.room.now _ c.in-Event.is _ _ _ c.number-in-Event.ensures c.event.ensures

pub returns-in-Settings : goal.returns-in-Settings
returns-in-Settings c =
    shows c.args.book.now c.args.saved.now c.args.call c.args.input.now c.args.lengths.now c.args.area.now
    c.args.room.now _ c.in-Settings.is _ _ _ (c.number-in-Settings.ensures ∙ c.settings_told.ensures)
    c.copy_settings.ensures

pub returns-in-Delay : goal.returns-in-Delay
returns-in-Delay c =
    hears c.args.book.now c.args.saved.now c.args.call c.args.input.now c.args.lengths.now c.args.area.now
    c.args.room.now _ c.in-Delay.is _ c.delay.ensures

pub returns-in-Status : goal.returns-in-Status
returns-in-Status c =
    stands c.args.book.now c.args.saved.now c.args.call c.args.input.now c.args.lengths.now c.args.area.now
    c.args.room.now _ c.in-Status.is _ c.status.ensures

pub returns-in-Packets : goal.returns-in-Packets
returns-in-Packets c =
    counts c.args.book.now c.args.saved.now c.args.call c.args.input.now c.args.lengths.now c.args.area.now
    c.args.room.now _ _ c.in-Packets.is _ c.packets.ensures

pub returns-in-Cut : goal.returns-in-Cut
returns-in-Cut c =
    cuts c.args.book.now c.args.saved.now c.args.call c.args.input.now c.args.lengths.now c.args.area.now
    c.args.room.now _ _ _ c.in-Cut.is _ _ c.cut.ensures
