-- Cutting a message into packets (document 01, Packets and messages). How many packets and which part of the payload each has is
-- stated over the sizes of the headers; AVDTP's are 2, 3 and 1.
use Rattle.std.specs.Prelude.{ℕ, zero, suc, ◌+◌, ◌-◌, ◌*◌, ◌/◌, List, [], ◌∷◌, ◌++◌, length, take, drop, leb, ltb, eqb}
use Rattle.std.specs.Prelude.{if◌then◌else◌}
use Rattle.rules.specs.Packets.{Message}

-- octets of header in a single, a start and a continue or end
pub record Headers : Type 0 where
  pub single : ℕ
  pub start : ℕ
  pub further : ℕ

abbrev pub avdtp : Headers
avdtp = record { single = 2; start = 3; further = 1 }

-- The number of packets of size m for a payload of n octets: one single, or a start and then as many full packets as are needed.
unfoldable pub packets_for : Headers → ℕ → ℕ → ℕ
packets_for h m n =
    if leb n (m - h.single) then 1
    else suc ((n - (m - h.start) + (m - h.further - 1)) / (m - h.further))

-- The part of the payload in packet number k, counted from 0, of `count`.
unfoldable pub part_of : Headers → ℕ → ℕ → ℕ → List ℕ → List ℕ
part_of h m count zero payload = if eqb count 1 then payload else take (m - h.start) payload
part_of h m count (suc k) payload = take (m - h.further) (drop (m - h.start + k * (m - h.further)) payload)

-- ---- AVDTP's headers, as written: reserved bits are zero (001, 8.4.1 to 8.4.6)

-- octet 0 with packet type 0 single, 1 start, 2 continue, 3 end
unfoldable pub first_octet : ℕ → Message → ℕ
first_octet packet_type m = m.header.label * 16 + packet_type * 4 + m.header.mtype

unfoldable pub header : Message → ℕ → ℕ → List ℕ
header m count zero =
    if eqb count 1 then first_octet 0 m ∷ m.header.signal ∷ []
    else first_octet 1 m ∷ count ∷ m.header.signal ∷ []
header m count (suc k) =
    if ltb (suc (suc k)) count then first_octet 2 m ∷ []
    else first_octet 3 m ∷ []

unfoldable pub count_of : ℕ → Message → ℕ
count_of size m = packets_for avdtp size (length m.payload)

-- Packet number k of the message at a packet size.
unfoldable pub packet_at : ℕ → Message → ℕ → List ℕ
packet_at size m k = header m (count_of size m) k ++ part_of avdtp size (count_of size m) k m.payload

-- n packets from number k on; and all of them
unfoldable pub packets_from : ℕ → Message → ℕ → ℕ → List (List ℕ)
packets_from size m k zero = []
packets_from size m k (suc n) = packet_at size m k ∷ packets_from size m (suc k) n

unfoldable pub cut_up : ℕ → Message → List (List ℕ)
cut_up size m = packets_from size m 0 (count_of size m)
