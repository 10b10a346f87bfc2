use Rattle.std.proofs.Common.{◌≡◌}
use Rattle.saved_events.specs.Events.{all_idle}
use Rattle.saved_events.proofs.lost.Given as goal

abbrev pub invariant-loop-i : goal.invariant-loop-i
invariant-loop-i l = l.records ≡ all_idle l.i l.initial.records
