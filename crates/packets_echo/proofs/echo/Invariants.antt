-- `echo`'s loop: at packet number i the room holds what the packets before it have of the message.
use Rattle.std.proofs.Common.{◌≡◌}
use Rattle.packets_echo.proofs.Turns.{Owed, message_of}
use Rattle.packets_echo.proofs.echo.Given as goal

abbrev pub invariant-loop-index : goal.invariant-loop-index
invariant-loop-index l = record {
  owed : Owed l.size.octets (message_of l.header l.payload) l.index l.room;
  untouched : l.message ≡ l.initial.message;
}
