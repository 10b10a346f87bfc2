-- `copy_settings` meets its contract: the part is at most 64 octets, and is written at the front of the room.
use native.Mathlib.Omega.{arith}
use mathlib.Core.Path.{ap}
use lib.ListN.{length}
use Rattle.rules.proofs.SettingsShown.{settings_short}
use Rattle.bridge_step.proofs.Made.{copies}
use Rattle.bridge_step.proofs.copy_settings.Goals as goal

pub put-requires : goal.put-requires
put-requires c =
    let short = settings_short c.args.book.now c.args.saved.now c.args.seid in
    let same = ap length c.settings-part.ensures in
    omega arith

pub returns : goal.returns
returns c =
    copies c.args.book.now c.args.saved.now c.args.seid c.settings-part.result.now c.args.room.now _
    c.settings-part.ensures c.put.ensures
