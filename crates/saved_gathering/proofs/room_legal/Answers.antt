-- `room_legal` meets its contract: mark and length first, and behind them the limits of the head.
use Prim.Native.Nat.{◌≤◌, ◌<◌}
use native.Mathlib.Omega.{arith}
use mathlib.Core.Path.{◌∙◌}
use borrow.Author.Tests.{lt-leb}
use Rattle.rules.specs.Saved.{payload_length_in}
use Rattle.saved_gathering.proofs.OneRoom.{none_legal, mark_wrong, too_long, head_legal}
use Rattle.saved_gathering.proofs.room_legal.Goals as goal

pub returns-in-0 : goal.returns-in-0
returns-in-0 c =
    none_legal c.args.room.now c.in-0.is

pub returns-then-from_be_bytes-le512 : goal.returns-then-from_be_bytes-le512
returns-then-from_be_bytes-le512 c =
    let fits : payload_length_in c.args.room.now ≤ 512 = omega arith in
    c.head_right.ensures ∙ head_legal c.args.room.now c.in-1.is c.requires fits (c.type_inv.room 4).fits

pub returns-else-from_be_bytes-le512 : goal.returns-else-from_be_bytes-le512
returns-else-from_be_bytes-le512 c =
    let long : 512 < payload_length_in c.args.room.now = omega arith in
    lt-leb c.from_be_bytes.result 512 c.if-from_be_bytes-le512.false ∙ too_long c.args.room.now c.in-1.is long

pub returns-in_default : goal.returns-in_default
returns-in_default c =
    mark_wrong c.args.room.now (omega arith) (omega arith)
