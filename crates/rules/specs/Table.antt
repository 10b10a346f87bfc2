-- The trace table and the cutting cases of document 01 as data, and what playing a table over the host's calls gives.
use Rattle.std.specs.Prelude.{ℕ, List, [], ◌∷◌, map, Bool, true, false, not, length, take, replicate, eqb, if◌then◌else◌}
use Rattle.rules.specs.Book.{book_of, find, Found, unknown, known}
use Rattle.rules.specs.Cutting.{cut_up}
use Rattle.rules.specs.Endpoints.{Endpoint, end_at}
use Rattle.rules.specs.Saved.{connection_in, area_for}
use Rattle.rules.specs.Host.{Answered, packet_call, event_call, fresh_call, delay_call}
use Rattle.rules.specs.declared.OurSeid.{OurSeid}
use Rattle.rules.specs.declared.State.{State}
use Rattle.rules.specs.declared.State.TheVariants.{Idle, Configured, Streaming}
use Rattle.rules.specs.declared.Event.{Event}
use Rattle.rules.specs.declared.Event.TheVariants.{Down}

-- ---- Rows: what is done, and what is seen

-- what a packet comes to: refused with a number, silence, or the packets that go on the air
pub data Out : Type 0 where
  refused : ℕ → Out
  silence : Out
  sent : List (List ℕ) → Out

pub data Row : Type 0 where
  packet : List ℕ → Out → Row
  -- an event, and its number
  event : Event → ℕ → Row
  -- a question for the delay of a SEID, its number, the mark "reported", and tenths
  delay : ℕ → ℕ → Bool → ℕ → Row
  -- a SEID, and the state that the saved octets show
  state : ℕ → State → Row

unfoldable pub out_of : ℕ → Answered → Out
out_of size a =
    if not (eqb a.told.number 0) then refused a.told.number
    else if eqb a.told.mtype 0 then silence
    else sent
    (cut_up size
    (record {
      header = record { label = a.told.label; mtype = a.told.mtype; signal = a.told.signal };
      payload = take a.told.length a.reply;
    }))

-- a reply in one packet
abbrev reply : List ℕ → Out
reply p = sent (p ∷ [])

abbrev pub reply_area : List ℕ
reply_area = replicate 64 0xEE

unfoldable pub state_found : Found → List Endpoint → State
state_found unknown ends = Idle
state_found (known i n) ends = (end_at ends i).head.state

-- The rows with what is really seen in the place of what they say, from a saved area on.
unfoldable pub played : List ℕ → ℕ → List ℕ → List Row → List Row
played book size saved [] = []
played book size saved (packet p out ∷ rows) =
    let a = packet_call book size saved p reply_area in
    packet p (out_of size a) ∷ played book size a.saved rows
played book size saved (event e n ∷ rows) =
    let k = event_call book saved e in
    event e k.number ∷ played book size k.saved rows
played book size saved (delay s n reported tenths ∷ rows) =
    let h = delay_call book saved (record { 0 = s }) in
    delay s h.number h.reported h.tenths ∷ played book size saved rows
played book size saved (state s it ∷ rows) =
    let seid : OurSeid = record { 0 = s } in
    state s (state_found (find seid (book_of book)) (connection_in (length (book_of book)) saved).ends)
    ∷ played book size saved rows

-- from one fresh connection, in an area whose octets were something else before
unfoldable pub played_fresh : List ℕ → ℕ → List Row → List Row
played_fresh book size rows =
    played book size (fresh_call book (replicate (area_for (length (book_of book))) 0xDD)).saved rows

-- ---- Traces from one fresh connection (document 01)

unfoldable pub trace_book : List ℕ
trace_book =
    0x48 ∷ 0x4C ∷ 0x42 ∷ 0x00 ∷ 0x01 ∷ 0x02
    ∷ 0x01 ∷ 0x00 ∷ 0x0C ∷ 0x01 ∷ 0x00 ∷ 0x07 ∷ 0x06 ∷ 0x00 ∷ 0x00 ∷ 0xFF ∷ 0xFF ∷ 0x02 ∷ 0x35 ∷ 0x08 ∷ 0x00
    ∷ 0x05 ∷ 0x08 ∷ 0x0A ∷ 0x01 ∷ 0x00 ∷ 0x07 ∷ 0x06 ∷ 0x00 ∷ 0x00 ∷ 0xFF ∷ 0xFF ∷ 0x02 ∷ 0x35 ∷ []

abbrev pub set_configuration1 : List ℕ
set_configuration1 =
    0x40 ∷ 0x03 ∷ 0x04 ∷ 0x04 ∷ 0x01 ∷ 0x00 ∷ 0x07 ∷ 0x06 ∷ 0x00 ∷ 0x00 ∷ 0x21 ∷ 0x15 ∷ 0x02 ∷ 0x35 ∷ 0x08 ∷ 0x00 ∷ []

unfoldable pub trace_table : List Row
trace_table =
    packet (0x10 ∷ 0x01 ∷ []) (reply (0x12 ∷ 0x01 ∷ 0x04 ∷ 0x00 ∷ 0x14 ∷ 0x08 ∷ []))
    ∷ packet (0x20 ∷ 0x02 ∷ 0x04 ∷ [])
    (reply (0x22 ∷ 0x02 ∷ 0x01 ∷ 0x00 ∷ 0x07 ∷ 0x06 ∷ 0x00 ∷ 0x00 ∷ 0xFF ∷ 0xFF ∷ 0x02 ∷ 0x35 ∷ []))
    ∷ packet (0x24 ∷ 0x02 ∷ 0x02 ∷ []) silence
    ∷ packet (0x2C ∷ 0x04 ∷ [])
    (reply (0x22 ∷ 0x02 ∷ 0x01 ∷ 0x00 ∷ 0x07 ∷ 0x06 ∷ 0x00 ∷ 0x00 ∷ 0xFF ∷ 0xFF ∷ 0x02 ∷ 0x35 ∷ []))
    ∷ packet (0x24 ∷ 0x02 ∷ 0x02 ∷ []) silence
    ∷ packet (0x3C ∷ 0x04 ∷ []) silence
    ∷ packet (0x30 ∷ 0x0C ∷ 0x04 ∷ [])
    (reply (0x32 ∷ 0x0C ∷ 0x01 ∷ 0x00 ∷ 0x07 ∷ 0x06 ∷ 0x00 ∷ 0x00 ∷ 0xFF ∷ 0xFF ∷ 0x02 ∷ 0x35 ∷ 0x08 ∷ 0x00 ∷ []))
    ∷ packet set_configuration1 (reply (0x42 ∷ 0x03 ∷ []))
    ∷ packet set_configuration1 (reply (0x43 ∷ 0x03 ∷ 0x00 ∷ 0x13 ∷ []))
    ∷ packet (0x50 ∷ 0x0D ∷ 0x04 ∷ 0x05 ∷ 0xDC ∷ []) (reply (0x52 ∷ 0x0D ∷ []))
    ∷ delay 1 0 true 1500
    ∷ packet (0x60 ∷ 0x06 ∷ 0x04 ∷ []) (reply (0x62 ∷ 0x06 ∷ []))
    ∷ packet (0x70 ∷ 0x07 ∷ 0x04 ∷ []) (reply (0x73 ∷ 0x07 ∷ 0x04 ∷ 0x31 ∷ []))
    ∷ event Event.Up 0
    ∷ packet (0x80 ∷ 0x07 ∷ 0x04 ∷ 0x14 ∷ []) (reply (0x83 ∷ 0x07 ∷ 0x14 ∷ 0x31 ∷ []))
    ∷ state 1 Streaming
    ∷ packet (0x90 ∷ 0x09 ∷ 0x04 ∷ []) (reply (0x92 ∷ 0x09 ∷ []))
    ∷ packet (0xA0 ∷ 0x05 ∷ 0x04 ∷ 0x01 ∷ 0x00 ∷ []) (reply (0xA3 ∷ 0x05 ∷ 0x01 ∷ 0x1A ∷ []))
    ∷ packet (0xB0 ∷ 0x0A ∷ 0x0C ∷ []) silence
    ∷ packet (0xC0 ∷ 0x0E ∷ []) (reply (0xC1 ∷ 0x0E ∷ []))
    ∷ []

-- ---- Cutting at size 48 (document 01): the lengths of the packets, by the length of the payload

unfoldable pub cut_lengths : ℕ → ℕ → List ℕ
cut_lengths size n =
    map length (cut_up size (record { header = record { label = 1; mtype = 2; signal = 12 }; payload = replicate n 0xAB }))

-- ---- The lecture hall: a delay of 3,500 tenths is reported, the endpoint is aborted, its channel goes down, and an old headset
-- that never reports is configured on the same endpoint.

unfoldable pub hall_table : List Row
hall_table =
    packet set_configuration1 (reply (0x42 ∷ 0x03 ∷ []))
    ∷ packet (0x50 ∷ 0x06 ∷ 0x04 ∷ []) (reply (0x52 ∷ 0x06 ∷ []))
    ∷ event Event.Up 0
    ∷ packet (0x60 ∷ 0x07 ∷ 0x04 ∷ []) (reply (0x62 ∷ 0x07 ∷ []))
    ∷ packet (0x70 ∷ 0x0D ∷ 0x04 ∷ 0x0D ∷ 0xAC ∷ []) (reply (0x72 ∷ 0x0D ∷ []))
    ∷ delay 1 0 true 3500
    ∷ packet (0x80 ∷ 0x0A ∷ 0x04 ∷ []) (reply (0x82 ∷ 0x0A ∷ []))
    ∷ event (Down (record { 0 = 1 })) 0
    ∷ delay 1 0 false 0
    ∷ packet
    (0x10 ∷ 0x03 ∷ 0x04 ∷ 0x08 ∷ 0x01 ∷ 0x00 ∷ 0x07 ∷ 0x06 ∷ 0x00 ∷ 0x00 ∷ 0x21 ∷ 0x15 ∷ 0x02 ∷ 0x35 ∷ [])
    (reply (0x12 ∷ 0x03 ∷ []))
    ∷ state 1 Configured
    ∷ delay 1 0 false 0
    ∷ []
