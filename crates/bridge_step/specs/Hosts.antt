-- A host over one book and one saved area: it makes steps, and hands the area that one step left to the next. All that is known
-- of a step is the contract of the function `step`.
use Rattle.std.specs.Prelude.{ℕ, ◌≡◌, List, [], ◌∷◌, map, true, false, length, take}
use Rattle.rules.specs.Octets.{some_of}
use Rattle.rules.specs.Book.{book_of}
use Rattle.rules.specs.Saved.{connection_in, saved_right}
use Rattle.rules.specs.Bursts.{filled}
use Rattle.rules.specs.OneByOne.{packet_calls, slot_answers}
use Rattle.rules.specs.Listed.{is12}
use Rattle.rules.specs.Alike.{none_reported, compared}
use Rattle.rules.specs.Sessions
use Rattle.rules.specs.Sessions.{check, fresh, packet, event, settings, delay, packets, cut, number, told, shown, heard, status}
use Rattle.rules.specs.Sessions.{stands, counted, cut_off, burst, told_each}
use Rattle.bridge_step.specs.declared.Call.{Call}
use Rattle.bridge_step.specs.declared.Call.TheVariants.{Check, Fresh, Packet, Event, Settings, Delay, Status, Packets, Cut}
use Rattle.bridge_step.specs.declared.Call.TheVariants.{Burst}
use Rattle.bridge_step.specs.declared.Answer.{Answer}
use Rattle.rules.specs.declared.Told.{Told}
use Rattle.bridge_step.specs.Steps.{call_by, Steps}

-- what a host hands to a step: a call, the octets that it reads, the lengths of a burst's packets, the area that it lends, and
-- the room for settings
pub record Asked : Type 0 where
  pub call : Call
  pub input : List ℕ
  pub lengths : List ℕ
  pub area : List ℕ
  pub room : List ℕ

unfoldable pub call_of : Asked → Sessions.Call
call_of k = call_by k.call k.input k.lengths k.area

-- any call of a sequence, as a host asks for it with some room for settings
unfoldable pub asked_of : List ℕ → Sessions.Call → Asked
asked_of room check = record { call = Check; input = []; lengths = []; area = []; room = room }
asked_of room fresh = record { call = Fresh; input = []; lengths = []; area = []; room = room }
asked_of room (packet size p reply) = record { call = Packet size; input = p; lengths = []; area = reply; room = room }
asked_of room (burst size octets lengths reply) =
    record { call = Burst size; input = octets; lengths = lengths; area = reply; room = room }
asked_of room (event e) = record { call = Event e; input = []; lengths = []; area = []; room = room }
asked_of room (settings s) = record { call = Settings s; input = []; lengths = []; area = []; room = room }
asked_of room (delay s) = record { call = Delay s; input = []; lengths = []; area = []; room = room }
asked_of room (status s) = record { call = Status s; input = []; lengths = []; area = []; room = room }
asked_of room (packets size n) = record { call = Packets size n; input = []; lengths = []; area = []; room = room }
asked_of room (cut size m k area) =
    record { call = Cut size m.header k; input = m.payload; lengths = []; area = area; room = room }

-- what the host reads of what a step answers: what is told, the lent area at exit, and the part at the front of the room
unfoldable pub read_by : Answer → List ℕ → List ℕ → Sessions.Answer
read_by (Answer.Number n) area room = number n
read_by (Answer.Told t) area room = told t area
read_by (Answer.Burst b) area room = told_each b area
read_by (Answer.Shown n size) area room = shown (record { number = n; part = take size room })
read_by (Answer.Heard h) area room = heard h
read_by (Answer.Stands t) area room = stands t
read_by (Answer.Counted n) area room = counted n
read_by (Answer.CutOff piece) area room = cut_off (record { piece = piece; area = area })

-- a row of steps: the answers as they are read, and the saved area after it
pub data Runs (book : List ℕ) : List ℕ → List Asked → List Sessions.Answer → List ℕ → Type 0 where
  ended : (saved : List ℕ) → Runs book saved [] [] saved
  goes : (saved : List ℕ) (k : Asked) (a : Answer) (next area' room' : List ℕ) (more : List Asked) (said : List Sessions.Answer)
      (last : List ℕ)
      → Steps book saved k.call k.input k.lengths k.area k.room a next area' room'
      → Runs book next more said last → Runs book saved (k ∷ more) (read_by a area' room' ∷ said) last

-- ---- The words of the theorems about hosts

-- the answers and the saved area of the definitions' sequence
pub record Defined (book saved : List ℕ) (calls : List Sessions.Call) (said : List Sessions.Answer) (last : List ℕ) : Type 0 where
  pub told : said ≡ Sessions.answers book saved calls
  pub left : last ≡ Sessions.after book saved calls

-- a right saved area is left, and 12 was never told
pub record Legal (book : List ℕ) (said : List Sessions.Answer) (last : List ℕ) : Type 0 where
  pub right : saved_right (book_of book) last ≡ true
  pub none12 : some_of is12 said ≡ false

-- two hosts cannot be told apart
pub record Indistinct (b b' : List ℕ) (said said' : List Sessions.Answer) (last last' : List ℕ) : Type 0 where
  pub answers : map compared said ≡ map compared said'
  pub connections : connection_in (length (book_of b)) last ≡ connection_in (length (book_of b')) last'
  pub unreported : none_reported (connection_in (length (book_of b)) last).ends ≡ true

-- a burst, as a host that makes its packets' steps one by one has it: what is told of each packet, and a run with these answers,
-- each with its own 64 octets of the reply area at exit
pub record BurstRuns (book saved : List ℕ) (size : ℕ) (ps : List (List ℕ)) (reply room : List ℕ) (each : List Told)
    (next reply' : List ℕ) : Type 0 where
  pub told : List Told
  pub all : each ≡ filled told
  pub runs : Runs book saved (map (asked_of room) (packet_calls size ps reply)) (slot_answers told reply') next
