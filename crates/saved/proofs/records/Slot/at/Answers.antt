-- `at` meets its contract: a record is whole where the records have room for it.
use Rattle.std.proofs.Common.{ap, ◌∙◌, length, arith}
use Rattle.octets.proofs.Patches.{part_length}
use Rattle.saved.proofs.records.Slot.at.Goals as goal

pub invariant_of-result : goal.invariant_of-result
invariant_of-result c =
    record { whole = ap length c.part.ensures ∙ part_length _ _ _ (omega arith) }
