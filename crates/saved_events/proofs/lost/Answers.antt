-- `lost` meets its contract: after i turns the first i records are idle.
use Rattle.std.proofs.Common.{refl}
use Rattle.saved.proofs.OneStore.{has_room}
use Rattle.saved_events.proofs.Idles.{idle_turn, none_idle}
use Rattle.saved_events.proofs.lost.Goals as goal

pub loop-i-init : goal.loop-i-init
loop-i-init c =
    none_idle c.args.records.now

pub loop-i-preserved : goal.loop-i-preserved
loop-i-preserved c =
    idle_turn c.loop-i.i c.loop-i.records c.args.records.now c.set.new.records c.get-head.result c.idle.result
    (has_room c.args.count c.loop-i.i c.args.records.now c.args.records.now c.loop-i-test.true c.requires refl)
    c.loop-i.invariant c.get-head.ensures c.idle.ensures c.set.ensures
