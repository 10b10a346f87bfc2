-- `after_protection` goes on behind an element, so the octets left grow fewer.
use Rattle.std.proofs.Common.{arith}
use Rattle.elements_reader.proofs.Stands.{stands_whole}
use Rattle.elements_order.proofs.+after_protection.Goals as goal

pub after_protection-requires : goal.after_protection-requires
after_protection-requires g t c κs kept =
    let there = stands_whole _ _ _ _ _ c.in-Whole.ensures in
    (omega arith, kept)
