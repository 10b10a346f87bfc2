-- `take_at` meets its contract: the 64 octets are lent, and come back between those before and those behind them.
use Prim.Native.Nat.{◌+◌, ◌-◌}
use native.Mathlib.Omega.{arith}
use Rattle.bridge_burst.proofs.Reached.{slot_back}
use Rattle.bridge_burst.proofs.take_at.Goals as goal

pub returns : goal.returns
returns c =
    slot_back c.args.book.octets.now c.args.size c.args.saved.now c.args.packet.now c.args.from c.args.reply.now
    (c.args.from + 64 - c.args.from) (omega arith) _ c.take.ensures
