-- `named` meets its contract: after i turns the place is i behind the place in what is left.
use Rattle.std.proofs.Common.{◌+◌, ◌≡◌, true, drop}
use Rattle.replay_script.specs.Tables.{named_of}
use Rattle.replay_script.proofs.tables.named.Given as goal

abbrev pub invariant-loop-i : goal.invariant-loop-i
invariant-loop-i l = named_of l.name true l.table ≡ l.i + named_of l.name l.starts (drop l.i l.table)
