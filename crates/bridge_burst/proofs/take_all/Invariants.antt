use Rattle.bridge_burst.proofs.Reached.{Reached}
use Rattle.bridge_burst.proofs.take_all.Given as goal

abbrev pub invariant-loop-i : goal.invariant-loop-i
invariant-loop-i l = record {
  reached : Reached l.book.octets.now l.size l.initial.saved l.octets l.lengths l.initial.reply l.told l.saved l.reply l.at l.i;
}
