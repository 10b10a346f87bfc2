-- The host's calls: what each returns and what each lent area holds afterwards, refusals 1 to 12 in the stated order (document
-- 01, What the host is told).
use Rattle.std.specs.Prelude.{ℕ, zero, suc, List, [], true, false, not, ◌&&◌, leb, ltb, eqb, if◌then◌else◌}
use Rattle.std.proofs.Math.Option.{Option, none, some}
use lib.ListN.{length}
use Rattle.rules.specs.Octets.{front, is_empty}
use Rattle.rules.specs.Book.{Entry, Book, book_number, book_of, Found, unknown, known, find}
use Rattle.rules.specs.Packets.{Message, Gathering, gather, size_right, longest}
use Rattle.rules.specs.Cutting.{avdtp, packets_for, packet_at, count_of}
use Rattle.rules.specs.Endpoints.{Endpoint, Ends, Connection, idle_head, fresh_connection, end_at, happens}
use Rattle.rules.specs.Saved.{area_for, connection_in, store, saved_right}
use Rattle.rules.specs.Commands.{Reply, silence, general_reject, accept, reject, answer}
use Rattle.rules.specs.declared.OurSeid.{OurSeid}
use Rattle.rules.specs.Delays.{Delay}
use Rattle.std.specs.Prelude.{None, Some}
use Rattle.rules.specs.declared.Head.{Head}
use Rattle.rules.specs.declared.Event.{Event}
use Rattle.rules.specs.declared.Told.{Told}
use Rattle.rules.specs.declared.Heard.{Heard}
use Rattle.rules.specs.declared.Standing.{Standing}
use Rattle.rules.specs.declared.Piece.{Piece}

-- ---- check

unfoldable pub check_call : List ℕ → ℕ
check_call book = book_number book

-- ---- Refusals that the calls share: book 1 to 7, then 12. A number that is not 0 goes before what is tested after it.

unfoldable pub number_or : ℕ → ℕ → ℕ
number_or zero next = next
number_or (suc n) next = suc n

unfoldable pub saved_number : List ℕ → List ℕ → ℕ
saved_number book saved = if saved_right (book_of book) saved then 0 else 12

unfoldable pub refusal_of : List ℕ → List ℕ → ℕ
refusal_of book saved = number_or (book_number book) (saved_number book saved)

-- where packets are taken, the packet size, 8, is tested between the two
abbrev pub sized_or : List ℕ → ℕ → ℕ → ℕ
sized_or book size next = number_or (book_number book) (if not (size_right size) then 8 else next)

unfoldable pub packet_refusal : List ℕ → ℕ → List ℕ → List ℕ → ℕ
packet_refusal book size saved reply = sized_or book size (if ltb (length reply) 64 then 9 else saved_number book saved)

-- ---- fresh: an area too short is 12

pub record Kept : Type 0 where
  pub number : ℕ
  pub saved : List ℕ

unfoldable pub fresh_call : List ℕ → List ℕ → Kept
fresh_call book saved =
    let number = number_or (book_number book) (if ltb (length saved) (area_for (length (book_of book))) then 12 else 0) in
    if eqb number 0 then record { number = 0; saved = store (fresh_connection (book_of book)) saved }
    else record { number = number; saved = saved }

-- ---- packet: book, 8, 9, 12

-- refusal and silence have 0 in label, message type, signal and length
unfoldable pub nothing_said : ℕ → Told
nothing_said number = record { number = number; label = 0; mtype = 0; signal = 0; length = 0 }

unfoldable pub said : Message → ℕ → List ℕ → Told
said m mtype payload =
    record { number = 0; label = m.header.label; mtype = mtype; signal = m.header.signal; length = lib.ListN.length payload }

-- message types: 1 general reject, 2 accept, 3 reject
unfoldable pub told_of : Message → Reply → Told
told_of m silence = nothing_said 0
told_of m general_reject = said m 1 []
told_of m (accept p) = said m 2 p
told_of m (reject p) = said m 3 p

unfoldable pub payload_of : Reply → List ℕ
payload_of silence = []
payload_of general_reject = []
payload_of (accept p) = p
payload_of (reject p) = p

-- What a packet leads to on a legal connection.
pub record Handled : Type 0 where
  pub told : Told
  pub payload : List ℕ
  pub connection : Connection

unfoldable pub handled_by : Book → Ends → Option Gathering → Option Message → Handled
handled_by book ends g none =
    record { told = nothing_said 0; payload = []; connection = record { ends = ends; link = record { gathering = g } } }
handled_by book ends g (some m) =
    let o = answer book ends m in
    record {
      told = told_of m o.reply;
      payload = payload_of o.reply;
      connection = record { ends = o.ends; link = record { gathering = g } };
    }

unfoldable pub takes : Book → ℕ → Connection → List ℕ → Handled
takes book size c packet =
    let s = gather size c.link.gathering packet in handled_by book c.ends s.gathering s.done

pub record Answered : Type 0 where
  pub told : Told
  pub saved : List ℕ
  pub reply : List ℕ

unfoldable pub packet_call : List ℕ → ℕ → List ℕ → List ℕ → List ℕ → Answered
packet_call book size saved packet reply =
    let number = packet_refusal book size saved reply in
    let t = takes (book_of book) size (connection_in (length (book_of book)) saved) packet in
    if eqb number 0
    then record { told = t.told; saved = store t.connection saved; reply = front t.payload reply }
    else record { told = nothing_said number; saved = saved; reply = reply }

-- ---- event: book, 12, 10

unfoldable pub event_call : List ℕ → List ℕ → Event → Kept
event_call book saved e =
    let m = happens (book_of book) (connection_in (length (book_of book)) saved) e in
    let number = number_or (refusal_of book saved) m.number in
    if eqb number 0 then record { number = 0; saved = store m.connection saved }
    else record { number = number; saved = saved }

-- ---- settings and delay: book, 12, 10

-- the configuration if there is one, else the offered list
unfoldable pub settings_of : Entry → Endpoint → List ℕ
settings_of n e = if is_empty e.config then n.caps else e.config

pub record Shown : Type 0 where
  pub number : ℕ
  pub part : List ℕ

unfoldable pub shown_at : Found → Ends → Shown
shown_at unknown ends = record { number = 10; part = [] }
shown_at (known i n) ends = record { number = 0; part = settings_of n (end_at ends i) }

-- every refusal shows an empty part
unfoldable pub settings_call : List ℕ → List ℕ → OurSeid → Shown
settings_call book saved s =
    let shown = shown_at (find s (book_of book)) (connection_in (length (book_of book)) saved).ends in
    let number = refusal_of book saved in
    if eqb number 0 then shown else record { number = number; part = [] }

-- what an unreported delay shows
abbrev pub unreported_tenths : ℕ
unreported_tenths = 0

unfoldable pub heard : ℕ → Delay → Heard
heard number None = record { number = number; reported = false; tenths = unreported_tenths }
heard number (Some d) = record { number = number; reported = true; tenths = d }

unfoldable pub heard_at : Found → Ends → Heard
heard_at unknown ends = heard 10 None
heard_at (known i n) ends = heard 0 (end_at ends i).head.delay

-- a refused delay question shows unreported
unfoldable pub delay_call : List ℕ → List ℕ → OurSeid → Heard
delay_call book saved s =
    let asked = heard_at (find s (book_of book)) (connection_in (length (book_of book)) saved).ends in
    let number = refusal_of book saved in
    if eqb number 0 then asked else heard number None

-- ---- status: book, 12, 10

unfoldable pub standing : ℕ → Head → Standing
standing number h = record { number = number; state = h.state; channel = h.channel; far = h.far }

-- a refused status question shows idle, no channel, 0
unfoldable pub nowhere : ℕ → Standing
nowhere number = standing number (idle_head (record { 0 = 0 }))

unfoldable pub standing_at : Found → Ends → Standing
standing_at unknown ends = nowhere 10
standing_at (known i n) ends = standing 0 (end_at ends i).head

unfoldable pub status_call : List ℕ → List ℕ → OurSeid → Standing
status_call book saved s =
    let asked = standing_at (find s (book_of book)) (connection_in (length (book_of book)) saved).ends in
    let number = refusal_of book saved in
    if eqb number 0 then asked else nowhere number

-- ---- packets: how many, 0 where size or length is refused

unfoldable pub packets_call : ℕ → ℕ → ℕ
packets_call size n = if size_right size && leb n longest then packets_for avdtp size n else 0

-- ---- cut: 8, 11, 9

-- what the cutter tells, and the lent area at exit
pub record Cut : Type 0 where
  pub piece : Piece
  pub area : List ℕ

unfoldable pub cut_refusal : ℕ → Message → ℕ → List ℕ → ℕ
cut_refusal size m k area =
    if not (size_right size) then 8
    else if not (ltb k (count_of size m)) then 11
    else if ltb longest (lib.ListN.length m.payload) then 11
    else if not (ltb m.header.label 16) then 11
    else if not (ltb m.header.mtype 4) then 11
    else if not (ltb m.header.signal 64) then 11
    else if ltb (lib.ListN.length area) (lib.ListN.length (packet_at size m k)) then 9
    else 0

unfoldable pub cut_call : ℕ → Message → ℕ → List ℕ → Cut
cut_call size m k area =
    let number = cut_refusal size m k area in
    let packet = packet_at size m k in
    if eqb number 0
    then record { piece = record { number = 0; length = lib.ListN.length packet }; area = front packet area }
    else record { piece = record { number = number; length = 0 }; area = area }
