-- The saved connection: where everything lies in the lent octets, how a connection is read from them and stored into them, and
-- what of the octets counts (document 01, What the host is told: number 12; the layout is ours).
use Rattle.std.specs.Prelude.{ℕ, zero, suc, ◌+◌, ◌*◌, ◌/◌, ◌%◌, List, [], ◌∷◌, ◌++◌, Bool, true, ◌&&◌, ◌||◌, length, take, drop}
use Rattle.std.specs.Prelude.{get_or, leb, eqb, if◌then◌else◌}
use Rattle.std.proofs.Math.Option.{Option, none, some}
use Rattle.rules.specs.Octets.{same_octets, front}
use Rattle.rules.specs.Book.{Book}
use Rattle.rules.specs.Packets.{Gathering, longest}
use Rattle.rules.specs.Endpoints.{Endpoint, Ends, Link, Connection, legal}
use Rattle.rules.specs.declared.State.{State}
use Rattle.rules.specs.declared.State.TheVariants.{Idle, Configured, Open, Streaming, Closing, Aborting}
use Rattle.rules.specs.declared.Channel.{Channel}
use Rattle.rules.specs.declared.Channel.TheVariants.{Absent, Awaited, Up}
use Rattle.rules.specs.Delays.{Delay}
use Rattle.std.specs.Prelude.{None, Some}
use Rattle.rules.specs.declared.Head.{Head}

-- ---- The layout
--
-- octet 0: the count, how many records there are.
-- octets 1 to 520: the link part, which holds the gathering.
--   0 mark (0 none, 1 there) · 1 label · 2 message type · 3 signal · 4 packet count · 5 parts received · 6, 7 payload length,
--   high octet first · 8 to 519 room for the payload
-- then, for each entry of the book in its order, a record of 80 octets:
--   0 our SEID · 1 state · 2 channel · 3 far SEID (0 none) · 4 delay mark (0 unreported, 1 reported) · 5, 6 delay, high octet
--   first · 7 configuration length (0 none) · 8 to 15 no use yet, zero · 16 to 79 room for the configuration
--
-- What is absent in the head of a record, its first 16 octets, is zero there. These do not count: all of the gathering's octets
-- but the mark where the mark says none, octets behind a payload's or a configuration's end, and octets behind the last record.

abbrev pub count_place : ℕ
count_place = 0

abbrev pub count_room : ℕ
count_room = 1

abbrev pub gathering_room : ℕ
gathering_room = 520

-- the link part is the gathering
abbrev pub link_room : ℕ
link_room = gathering_room

-- where the records begin
abbrev pub records_place : ℕ
records_place = 521

abbrev pub record_room : ℕ
record_room = 80

abbrev pub head_room : ℕ
head_room = 16

abbrev pub config_room : ℕ
config_room = 64

-- places in a head
abbrev pub seid_place : ℕ
seid_place = 0

abbrev pub state_place : ℕ
state_place = 1

abbrev pub channel_place : ℕ
channel_place = 2

abbrev pub far_place : ℕ
far_place = 3

abbrev pub delay_mark_place : ℕ
delay_mark_place = 4

abbrev pub delay_high_place : ℕ
delay_high_place = 5

abbrev pub delay_low_place : ℕ
delay_low_place = 6

abbrev pub config_length_place : ℕ
config_length_place = 7

abbrev pub unused_place : ℕ
unused_place = 8

-- places in the link part, where the gathering lies
abbrev pub mark_place : ℕ
mark_place = 0

abbrev pub label_place : ℕ
label_place = 1

abbrev pub mtype_place : ℕ
mtype_place = 2

abbrev pub signal_place : ℕ
signal_place = 3

abbrev pub packets_place : ℕ
packets_place = 4

abbrev pub parts_place : ℕ
parts_place = 5

abbrev pub length_high_place : ℕ
length_high_place = 6

abbrev pub length_low_place : ℕ
length_low_place = 7

abbrev pub payload_place : ℕ
payload_place = 8

-- the octets that a connection over n endpoints takes
unfoldable pub area_for : ℕ → ℕ
area_for n = records_place + n * record_room

-- the three parts of an area
unfoldable pub count_in : List ℕ → ℕ
count_in l = get_or l count_place 0

unfoldable pub link_of : List ℕ → List ℕ
link_of l = take link_room (drop count_room l)

unfoldable pub records_of : List ℕ → List ℕ
records_of l = drop records_place l

-- ---- One record

abbrev pub state_in : ℕ → State
state_in o = get_or (Idle ∷ Configured ∷ Open ∷ Streaming ∷ Closing ∷ Aborting ∷ []) o Idle

abbrev pub state_octet : State → ℕ
state_octet Idle = 0
state_octet Configured = 1
state_octet Open = 2
state_octet Streaming = 3
state_octet Closing = 4
state_octet Aborting = 5

abbrev pub channel_in : ℕ → Channel
channel_in o = get_or (Absent ∷ Awaited ∷ Up ∷ []) o Absent

abbrev pub channel_octet : Channel → ℕ
channel_octet Absent = 0
channel_octet Awaited = 1
channel_octet Up = 2

abbrev pub delay_in : ℕ → ℕ → Delay
delay_in mark tenths = if eqb mark 0 then None else Some tenths

abbrev pub delay_mark : Delay → ℕ
delay_mark None = 0
delay_mark (Some d) = 1

abbrev pub delay_tenths : Delay → ℕ
delay_tenths None = 0
delay_tenths (Some d) = d

-- 16 bits, high octet first
abbrev pub pair_in : ℕ → ℕ → ℕ
pair_in high low = high * 256 + low

unfoldable pub head_in : List ℕ → Head
head_in r =
    record {
      seid = record { 0 = get_or r seid_place 0 };
      state = state_in (get_or r state_place 0);
      channel = channel_in (get_or r channel_place 0);
      far = record { 0 = get_or r far_place 0 };
      delay = delay_in (get_or r delay_mark_place 0) (pair_in (get_or r delay_high_place 0) (get_or r delay_low_place 0));
    }

unfoldable pub config_in : List ℕ → List ℕ
config_in r = take (get_or r config_length_place 0) (drop head_room r)

unfoldable pub endpoint_in : List ℕ → Endpoint
endpoint_in r = record { head = head_in r; config = config_in r }

-- the octets of a head that have no use yet
abbrev pub unused : List ℕ
unused = 0 ∷ 0 ∷ 0 ∷ 0 ∷ 0 ∷ 0 ∷ 0 ∷ 0 ∷ []

-- octets that a stored record can have
unfoldable pub record_right : List ℕ → Bool
record_right r =
    leb (get_or r state_place 0) 5 && leb (get_or r channel_place 0) 2
    && (eqb (get_or r delay_mark_place 0) 1
    || (eqb (get_or r delay_mark_place 0) 0 && eqb (get_or r delay_high_place 0) 0 && eqb (get_or r delay_low_place 0) 0))
    && leb (get_or r config_length_place 0) config_room && same_octets (take 8 (drop unused_place r)) unused

-- the octets of a head whose endpoint has a configuration of n octets, those with a use in front
abbrev pub used_octets : Head → ℕ → List ℕ
used_octets h n =
    h.seid.0 ∷ state_octet h.state ∷ channel_octet h.channel ∷ h.far.0 ∷ delay_mark h.delay
    ∷ delay_tenths h.delay / 256 ∷ delay_tenths h.delay % 256 ∷ n ∷ []

unfoldable pub head_octets : Head → ℕ → List ℕ
head_octets h n = used_octets h n ++ unused

unfoldable pub store_end : Endpoint → List ℕ → List ℕ
store_end e r = front (head_octets e.head (length e.config) ++ e.config) r

-- ---- All records

-- the octets of record i
abbrev pub record_at : ℕ → List ℕ → List ℕ
record_at i l = take record_room (drop (i * record_room) l)

unfoldable pub ends_in : ℕ → List ℕ → Ends
ends_in zero l = []
ends_in (suc n) l = endpoint_in (take record_room l) ∷ ends_in n (drop record_room l)

unfoldable pub records_right : ℕ → List ℕ → Bool
records_right zero l = true
records_right (suc n) l = record_right (take record_room l) && records_right n (drop record_room l)

unfoldable pub store_ends : Ends → List ℕ → List ℕ
store_ends [] l = l
store_ends (e ∷ ends) l = store_end e (take record_room l) ++ store_ends ends (drop record_room l)

-- ---- The gathering

-- how many octets are gathered
abbrev pub payload_length_in : List ℕ → ℕ
payload_length_in l = pair_in (get_or l length_high_place 0) (get_or l length_low_place 0)

unfoldable pub gathering_at : List ℕ → Gathering
gathering_at l =
    record {
      message =
          record {
            header =
                record { label = get_or l label_place 0; mtype = get_or l mtype_place 0; signal = get_or l signal_place 0 };
            payload = take (payload_length_in l) (drop payload_place l);
          };
      count = get_or l packets_place 0;
      parts = get_or l parts_place 0;
    }

unfoldable pub gathering_in : List ℕ → Option Gathering
gathering_in l = if eqb (get_or l mark_place 0) 0 then none else some (gathering_at l)

unfoldable pub gathering_octets_right : List ℕ → Bool
gathering_octets_right l =
    eqb (get_or l mark_place 0) 0 || (eqb (get_or l mark_place 0) 1 && leb (payload_length_in l) longest)

unfoldable pub gathering_head : Gathering → List ℕ
gathering_head g =
    1 ∷ g.message.header.label ∷ g.message.header.mtype ∷ g.message.header.signal ∷ g.count ∷ g.parts
    ∷ length g.message.payload / 256 ∷ length g.message.payload % 256 ∷ []

unfoldable pub store_gathering : Option Gathering → List ℕ → List ℕ
store_gathering none l = front (0 ∷ []) l
store_gathering (some g) l = front (gathering_head g ++ g.message.payload) l

-- ---- The connection

abbrev pub link_in : List ℕ → Link
link_in l = record { gathering = gathering_in l }

abbrev pub store_link : Link → List ℕ → List ℕ
store_link k l = store_gathering k.gathering l

unfoldable pub connection_in : ℕ → List ℕ → Connection
connection_in n l = record { ends = ends_in n (records_of l); link = link_in (link_of l) }

unfoldable pub store : Connection → List ℕ → List ℕ
store c l = length c.ends ∷ (store_link c.link (link_of l) ++ store_ends c.ends (records_of l))

-- Number 12 is given where this is false: a count that is not the book's, too short an area, octets that mean nothing, or a
-- connection that is not legal.
unfoldable pub saved_right : Book → List ℕ → Bool
saved_right book l =
    eqb (count_in l) (length book) && leb (area_for (length book)) (length l) && gathering_octets_right (link_of l)
    && records_right (length book) (records_of l) && legal book (connection_in (length book) l)
