use Rattle.std.proofs.Common.{◌≡◌, ◌-◌, ◌*◌, length}
use Rattle.octets.specs.Patch.{patch}
use Rattle.commands_show.specs.Shown.{all}
use Rattle.commands_show.proofs.Discovering.{Left, octets_left}
use Rattle.commands_show.proofs.discovers.list_entries.Given as goal

abbrev pub invariant-loop-i : goal.invariant-loop-i
invariant-loop-i l =
    let book = l.book.octets.now in
    let others = l.entries - l.i in record {
      room : length l.reply ≡ length l.initial.reply;
      left : Left others book l.at;
      said : patch (l.i * 2) (octets_left others book l.at l.records l.i) l.reply ≡ patch 0 (all book l.records) l.initial.reply;
    }
