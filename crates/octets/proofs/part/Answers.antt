-- `part` meets its contract: from `from` up to `from + size` there are `size` octets.
use Rattle.octets.proofs.Patches.{part_span}
use Rattle.octets.proofs.part.Goals as goal

pub returns : goal.returns
returns c =
    part_span c.args.from c.args.size c.args.s.now
