-- `up` meets its contract: as long as the loop goes on nothing is written and none of the records before awaits.
use Rattle.std.proofs.Common.{arith}
use Rattle.saved_events.proofs.Awaits.{up_done, up_goes_on, up_never}
use Rattle.saved_events.proofs.up.Goals as goal

pub returns-then-is_awaited : goal.returns-then-is_awaited
returns-then-is_awaited c =
    let l = c.loop-index in
    up_done c.args.count l.index l.records c.args.records.now c.set_head.new.records c.get-head.result c.switch_channel.new.e
    c.is_awaited.result c.loop-index-test.true c.requires l.invariant.before l.invariant.same c.get-head.ensures
    c.is_awaited.ensures c.if-is_awaited.true c.switch_channel.ensures c.set_head.ensures

pub loop-index-preserved : goal.loop-index-preserved
loop-index-preserved c =
    let l = c.loop-index in record {
      same = l.invariant.same;
      before = up_goes_on c.args.count l.index l.records c.args.records.now c.get-head.result c.is_awaited.result
          c.loop-index-test.true l.invariant.before l.invariant.same c.get-head.ensures c.is_awaited.ensures
          c.if-is_awaited.false;
    }

pub returns : goal.returns
returns c =
    up_never c.args.count c.loop-index.index c.loop-index.records c.args.records.now (omega arith)
    c.loop-index.invariant.before c.loop-index.invariant.same
