use Rattle.std.proofs.Common.{◌≡◌}
use Rattle.commands_shift.proofs.Shifting.{Reached}
use Rattle.commands_shift.proofs.shift.Given as goal

abbrev pub invariant-loop-octet : goal.invariant-loop-octet
invariant-loop-octet l =
    record {
      silent : l.reply ≡ l.initial.reply;
      reached : Reached l.signal l.to l.book.octets.now l.initial.records l.payload l.records l.octet-index;
    }
