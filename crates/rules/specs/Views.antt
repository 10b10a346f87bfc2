-- The words of "each call is a function of the connection that the saved octets show": what a call says over a connection and
-- where the connection goes, on a right book and a right area, where of the refusals only 8, 13, 9 and 10 can be given.
use Rattle.std.specs.Prelude.{ℕ, ◌≡◌, List, [], ◌∷◌, ◌++◌, true, not, length, take, drop, ltb, eqb, if◌then◌else◌}
use Rattle.rules.specs.Octets.{front}
use Rattle.rules.specs.Book.{Book, find, book_of}
use Rattle.rules.specs.Packets.{size_right}
use Rattle.rules.specs.Endpoints.{Connection, fresh_connection, happens}
use Rattle.rules.specs.Saved.{connection_in, saved_right}
use Rattle.rules.specs.Host.{nothing_said, takes, shown_at, heard_at, standing_at, packets_call, cut_call}
use Rattle.rules.specs.Bursts.{slot, most_packets, burst_room, filled, none_told, packets_in}
use Rattle.rules.specs.Sessions.{Call, check, fresh, packet, event, settings, delay, packets, cut, Answer, number, told}
use Rattle.rules.specs.Sessions.{shown, heard, counted, cut_off, call, status, stands, burst, told_each}
use Rattle.rules.specs.declared.Told.{Told}

-- ---- A call over the connection: what it says, and where the connection goes

-- the refusals of a packet that are left
unfoldable pub packet_number : ℕ → List ℕ → ℕ
packet_number size reply = if not (size_right size) then 8 else if ltb (length reply) 64 then 9 else 0

-- and of a burst
unfoldable pub burst_number : ℕ → List ℕ → List ℕ → ℕ
burst_number size lengths reply =
    if not (size_right size) then 8
    else if ltb most_packets (length lengths) then 13
    else if ltb (length reply) burst_room then 9
    else 0

-- the packets of a burst: what is told of each, the reply area and the connection after the last
pub record Handed : Type 0 where
  pub told : List Told
  pub reply : List ℕ
  pub connection : Connection

unfoldable pub takes_each : Book → ℕ → Connection → List (List ℕ) → List ℕ → Handed
takes_each book size c [] reply = record { told = []; reply = reply; connection = c }
takes_each book size c (p ∷ ps) reply =
    let t = takes book size c p in
    let rest = takes_each book size t.connection ps (drop slot reply) in
    record {
      told = t.told ∷ rest.told;
      reply = front t.payload (take slot reply) ++ rest.reply;
      connection = rest.connection;
    }

unfoldable pub says : Book → Connection → Call → Answer
says book c check = number 0
says book c fresh = number 0
says book c (packet size p reply) =
    if eqb (packet_number size reply) 0 then told (takes book size c p).told (front (takes book size c p).payload reply)
    else told (nothing_said (packet_number size reply)) reply
says book c (burst size octets lengths reply) =
    let h = takes_each book size c (packets_in octets lengths) reply in
    let n = burst_number size lengths reply in
    if eqb n 0 then told_each (record { number = 0; told = filled h.told }) h.reply else told_each (none_told n) reply
says book c (event v) = number (happens book c v).number
says book c (settings s) = shown (shown_at (find s book) c.ends)
says book c (delay s) = heard (heard_at (find s book) c.ends)
says book c (status s) = stands (standing_at (find s book) c.ends)
says book c (packets size n) = counted (packets_call size n)
says book c (cut size m k area) = cut_off (cut_call size m k area)

unfoldable pub goes : Book → Connection → Call → Connection
goes book c check = c
goes book c fresh = fresh_connection book
goes book c (packet size p reply) = if eqb (packet_number size reply) 0 then (takes book size c p).connection else c
goes book c (burst size octets lengths reply) =
    if eqb (burst_number size lengths reply) 0 then (takes_each book size c (packets_in octets lengths) reply).connection else c
goes book c (event v) = (happens book c v).connection
goes book c (settings s) = c
goes book c (delay s) = c
goes book c (status s) = c
goes book c (packets size n) = c
goes book c (cut size m k area) = c

-- ---- A right area and the connection that it shows, before and after a call

pub record View (b s : List ℕ) (c : Connection) : Type 0 where
  pub right : saved_right (book_of b) s ≡ true
  pub shows : connection_in (length (book_of b)) s ≡ c

pub record Stepped (b s : List ℕ) (c : Connection) (k : Call) : Type 0 where
  pub answer : (call b s k).answer ≡ says (book_of b) c k
  pub next : View b (call b s k).saved (goes (book_of b) c k)
