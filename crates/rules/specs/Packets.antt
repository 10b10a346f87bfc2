-- Packets and messages: headers as read and as written, and the gathering (document 01, Packets and messages; 001, 8.4).
use Rattle.std.specs.Prelude.{ℕ, suc, ◌+◌, ◌/◌, ◌%◌, List, [], ◌∷◌, ◌++◌, Bool, true, false, ◌&&◌, length, get_or, leb, ltb, eqb}
use Rattle.std.specs.Prelude.{if◌then◌else◌}
use Rattle.std.proofs.Math.Option.{Option, none, some}
use Rattle.rules.specs.Octets.{between}
use Rattle.rules.specs.declared.Header.{Header}

-- The smallest and the largest packet size, and the longest payload of a message.
unfoldable pub size_right : ℕ → Bool
size_right size = between 48 672 size

unfoldable pub longest : ℕ
longest = 512

-- A message.
pub record Message : Type 0 where
  pub header : Header
  pub payload : List ℕ

-- ---- Headers, as read: reserved bits are ignored (001, 8.4.1 to 8.4.6)

-- octet 0: label bits 7-4, packet type bits 3-2, message type bits 1-0
unfoldable pub label_in : ℕ → ℕ
label_in h = h / 16 % 16

unfoldable pub mtype_in : ℕ → ℕ
mtype_in h = h % 4

-- the signal octet: the low 6 bits
unfoldable pub signal_in : ℕ → ℕ
signal_in o = o % 64

-- What a packet is by its header alone; `wrong` is never good and never right.
pub data Packet : Type 0 where
  single : Message → Packet
  -- the packet count, and the message as far as this packet has it
  start : ℕ → Message → Packet
  -- whether it is an end, and label, message type and payload
  further : Bool → ℕ → ℕ → List ℕ → Packet
  wrong : Packet

pub data PacketType : Type 0 where
  a_single a_start a_continue an_end : PacketType

unfoldable pub packet_type_in : ℕ → PacketType
packet_type_in h = get_or (a_single ∷ a_start ∷ a_continue ∷ an_end ∷ []) (h / 4 % 4) a_single

unfoldable pub message_from : ℕ → ℕ → List ℕ → Message
message_from h s payload =
    record { header = record { label = label_in h; mtype = mtype_in h; signal = signal_in s }; payload = payload }

-- a single below 2 octets and a start below 3 are wrong
unfoldable pub read_as : PacketType → ℕ → List ℕ → Packet
read_as a_single h [] = wrong
read_as a_single h (s ∷ p) = single (message_from h s p)
read_as a_start h [] = wrong
read_as a_start h (n ∷ []) = wrong
read_as a_start h (n ∷ s ∷ p) = start n (message_from h s p)
read_as a_continue h p = further false (label_in h) (mtype_in h) p
read_as an_end h p = further true (label_in h) (mtype_in h) p

unfoldable pub read : List ℕ → Packet
read [] = wrong
read (h ∷ p) = read_as (packet_type_in h) h p

-- any packet longer than the packet size is wrong
unfoldable pub packet_in : ℕ → List ℕ → Packet
packet_in size p = if ltb size (length p) then wrong else read p

-- ---- The gathering. It is stated over packets as read, so it holds for every size of header.

-- A message of which more parts are owed: what there is of it, the number of packets announced and of those received.
pub record Gathering : Type 0 where
  pub message : Message
  pub count : ℕ
  pub parts : ℕ

-- What one packet leads to: the gathering from then on, and the message that is now complete.
pub record Step : Type 0 where
  pub gathering : Option Gathering
  pub done : Option Message

unfoldable pub ended : Step
ended = record { gathering = none; done = none }

unfoldable pub completes : Message → Step
completes m = record { gathering = none; done = some m }

unfoldable pub gathers : Gathering → Step
gathers g = record { gathering = some g; done = none }

-- the message with a further part of its payload
unfoldable pub extended : Message → List ℕ → Message
extended m p = record { header = m.header; payload = m.payload ++ p }

unfoldable pub begin : ℕ → Message → Step
begin n m =
    if between 2 255 n && leb (length m.payload) longest
    then gathers (record { message = m; count = n; parts = 1 })
    else ended

-- The next right packet: its label and message type, a continue where more than one packet is still owed and an end where one
-- is, and no payload above the limit.
unfoldable pub is_next : Gathering → Bool → ℕ → ℕ → List ℕ → Bool
is_next g last label mtype p =
    eqb label g.message.header.label && eqb mtype g.message.header.mtype
    && (if last then eqb (suc g.parts) g.count else ltb (suc g.parts) g.count)
    && leb (length g.message.payload + length p) longest

unfoldable pub joined : Gathering → Bool → List ℕ → Step
joined g true p = completes (extended g.message p)
joined g false p =
    gathers (record { message = extended g.message p; count = g.count; parts = suc g.parts })

unfoldable pub goes_on : Option Gathering → Bool → ℕ → ℕ → List ℕ → Step
goes_on none last label mtype p = ended
goes_on (some g) last label mtype p = if is_next g last label mtype p then joined g last p else ended

-- Every packet that is not the next right one ends any gathering; a good single or start is then taken as such.
unfoldable pub taken : Option Gathering → Packet → Step
taken g (single m) = if leb (length m.payload) longest then completes m else ended
taken g (start n m) = begin n m
taken g (further last label mtype p) = goes_on g last label mtype p
taken g wrong = ended

unfoldable pub gather : ℕ → Option Gathering → List ℕ → Step
gather size g p = taken g (packet_in size p)

-- Limits of a gathering that is saved.
unfoldable pub gathering_right : Gathering → Bool
gathering_right g =
    leb (length g.message.payload) longest && between 2 255 g.count && leb 1 g.parts && ltb g.parts g.count
    && ltb g.message.header.label 16 && ltb g.message.header.mtype 4 && ltb g.message.header.signal 64
