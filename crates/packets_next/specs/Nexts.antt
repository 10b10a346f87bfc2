-- What a packet leads to, as the definitions' `taken` has it, and the message that is complete.
use Rattle.std.specs.Prelude.{ℕ, ◌+◌, ◌-◌, List, Bool, not, ◌&&◌, length, drop, get_or, eqb, leb, if◌then◌else◌}
use Rattle.std.proofs.Math.Option.{Option, none, some}
use Rattle.rules.specs.Octets.{between}
use Rattle.rules.specs.Packets.{Message, Packet, single, start, further, wrong, packet_in, Gathering, is_next, extended, longest}
use Rattle.rules.specs.Packets.{label_in, mtype_in}
use Rattle.rules.specs.Saved.{mark_place, label_place, mtype_place, payload_length_in}
use Rattle.packets_next.specs.declared.nexts.Next.{Next}
use Rattle.packets_next.specs.declared.nexts.Next.TheVariants.{Ended, Single, Begun, Grown, Complete}

-- whether a further packet is of the message that is gathered in a room, and its payload fits behind
unfoldable pub of_gathered : List ℕ → List ℕ → Bool
of_gathered room p =
    not (eqb (get_or room mark_place 0) 0) && eqb (label_in (get_or p 0 0)) (get_or room label_place 0)
    && eqb (mtype_in (get_or p 0 0)) (get_or room mtype_place 0)
    && leb (payload_length_in room + (length p - 1)) longest

unfoldable pub next_further : Option Gathering → Bool → ℕ → ℕ → List ℕ → Next
next_further none last label mtype p = Ended
next_further (some g) last label mtype p =
    if is_next g last label mtype p
    then (if last then Complete g.message.header else Grown)
    else Ended

unfoldable pub next_by : Option Gathering → Packet → Next
next_by g (single m) = if leb (length m.payload) longest then Single m.header else Ended
next_by g (start n m) = if between 2 255 n && leb (length m.payload) longest then Begun else Ended
next_by g (further last label mtype p) = next_further g last label mtype p
next_by g wrong = Ended

unfoldable pub next_of : ℕ → Option Gathering → List ℕ → Next
next_of size g p = next_by g (packet_in size p)

-- the message that is complete, whose payload is the packet's behind its header, or what was gathered and then the packet's
unfoldable pub done_by : Next → Gathering → List ℕ → Option Message
done_by Ended g p = none
done_by (Single h) g p = some (record { header = h; payload = drop 2 p })
done_by Begun g p = none
done_by Grown g p = none
done_by (Complete h) g p = some (extended g.message (drop 1 p))
