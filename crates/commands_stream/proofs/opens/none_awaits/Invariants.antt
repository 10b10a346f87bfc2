use Rattle.std.proofs.Common.{◌≡◌, ◌-◌, ◌*◌, drop}
use Rattle.rules.specs.Endpoints.{awaiting}
use Rattle.rules.specs.Saved.{record_room, ends_in}
use Rattle.commands_stream.proofs.opens.none_awaits.Given as goal

abbrev pub invariant-loop-i : goal.invariant-loop-i
invariant-loop-i l =
    awaiting (ends_in l.count l.records) ≡ awaiting (ends_in (l.count - l.i) (drop (l.i * record_room) l.records))
