use Rattle.std.proofs.Common.{◌≡◌}
use Rattle.rules.specs.Saved.{ends_in}
use Rattle.rules.proofs.ChannelUp.{NoneBefore}
use Rattle.saved_events.proofs.up.Given as goal

abbrev pub invariant-loop-index : goal.invariant-loop-index
invariant-loop-index l = record {
  same : l.records ≡ l.initial.records;
  before : NoneBefore (ends_in l.count l.initial.records) l.index;
}
