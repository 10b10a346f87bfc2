-- What is told of a message that may be complete, and what an area holds then.
use Rattle.std.specs.Prelude.{List, ℕ, length, Some, None}
use Rattle.std.specs.declared.option.Option.{Option as Maybe}
use Rattle.std.proofs.Math.Option.{Option, none, some}
use Rattle.rules.specs.Octets.{front}
use Rattle.rules.specs.Packets.{Message}
use Rattle.packets_echo.specs.declared.Echoed.{Echoed}

unfoldable pub echoed_of : Option Message → Maybe Echoed
echoed_of none = None
echoed_of (some m) = Some (record { header = m.header; length = length m.payload })

unfoldable pub payload_on : Option Message → List ℕ → List ℕ
payload_on none area = area
payload_on (some m) area = front m.payload area
