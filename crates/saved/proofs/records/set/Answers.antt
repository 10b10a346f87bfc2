-- `set` meets its contract: the head is written at the front of the part that is lent.
use Rattle.saved.proofs.OneStore.{set_by}
use Rattle.saved.proofs.records.set.Goals as goal

pub returns : goal.returns
returns c =
    set_by c.args.i c.args.records.now c.put_head.new.slot c.args.h c.args.size c.put_head.ensures
