-- The contract of `step`, one equation: the answer and every lent area at exit are what the step of a sequence makes of the
-- inputs.
use Rattle.std.specs.Prelude.{ℕ, ◌≡◌, List}
use lib.ListN.{length}
use Rattle.rules.specs.Octets.{front}
use Rattle.rules.specs.Host.{settings_call}
use Rattle.rules.specs.Sessions
use Rattle.rules.specs.Sessions.{check, fresh, packet, event, settings, delay, packets, cut, number, told, shown, heard, status}
use Rattle.rules.specs.Sessions.{stands, counted, cut_off, burst, told_each}
use Rattle.rules.specs.declared.OurSeid.{OurSeid}
use Rattle.bridge_step.specs.declared.Call.{Call}
use Rattle.bridge_step.specs.declared.Call.TheVariants.{Check, Fresh, Packet, Event, Settings, Delay, Status, Packets, Cut}
use Rattle.bridge_step.specs.declared.Call.TheVariants.{Burst}
use Rattle.bridge_step.specs.declared.Answer.{Answer}

-- ---- What the code takes and gives, in the words of the definitions

-- a call, with the octets that it reads, the lengths of a burst's packets and the area that it lends
unfoldable pub call_by : Call → List ℕ → List ℕ → List ℕ → Sessions.Call
call_by Check input lengths area = check
call_by Fresh input lengths area = fresh
call_by (Packet size) input lengths area = packet size input area
call_by (Burst size) input lengths area = burst size input lengths area
call_by (Event e) input lengths area = event e
call_by (Settings s) input lengths area = settings s
call_by (Delay s) input lengths area = delay s
call_by (Status s) input lengths area = status s
call_by (Packets size length) input lengths area = packets size length
call_by (Cut size header index) input lengths area = cut size (record { header = header; payload = input }) index area

-- an answer: what is told, and of the part that is shown the length
unfoldable pub answer_in : Sessions.Answer → Answer
answer_in (number n) = Answer.Number n
answer_in (told t reply) = Answer.Told t
answer_in (told_each b reply) = Answer.Burst b
answer_in (shown s) = Answer.Shown s.number (length s.part)
answer_in (heard h) = Answer.Heard h
answer_in (stands t) = Answer.Stands t
answer_in (counted n) = Answer.Counted n
answer_in (cut_off c) = Answer.CutOff c.piece

-- ---- The areas at exit

-- the lent area: what the answer says of it, and otherwise as it was
unfoldable pub area_after : Sessions.Answer → List ℕ → List ℕ
area_after (number n) area = area
area_after (told t reply) area = reply
area_after (told_each b reply) area = reply
area_after (shown s) area = area
area_after (heard h) area = area
area_after (stands t) area = area
area_after (counted n) area = area
area_after (cut_off c) area = c.area

-- the room: the part that is shown, at its front
unfoldable pub room_after : Sessions.Answer → List ℕ → List ℕ
room_after (number n) room = room
room_after (told t reply) room = room
room_after (told_each b reply) room = room
room_after (shown s) room = front s.part room
room_after (heard h) room = room
room_after (stands t) room = room
room_after (counted n) room = room
room_after (cut_off c) room = room

-- ---- The contracts

-- what a step leaves
pub record Exit : Type 0 where
  pub answer : Answer
  pub saved : List ℕ
  pub area : List ℕ
  pub room : List ℕ

unfoldable pub exit_of : Sessions.Done → List ℕ → List ℕ → Exit
exit_of d area room =
    record {
      answer = answer_in d.answer;
      saved = d.saved;
      area = area_after d.answer area;
      room = room_after d.answer room;
    }

abbrev pub Steps : List ℕ → List ℕ → Call → List ℕ → List ℕ → List ℕ → List ℕ → Answer → List ℕ → List ℕ → List ℕ → Type 0
Steps book saved c input lengths area room answer saved' area' room' =
    ◌≡◌ {A = Exit} (record { answer = answer; saved = saved'; area = area'; room = room' })
    (exit_of (Sessions.call book saved (call_by c input lengths area)) area room)

-- the part that `settings` shows, copied
pub record Copied : Type 0 where
  pub length : ℕ
  pub room : List ℕ

unfoldable pub copied_of : List ℕ → List ℕ → OurSeid → List ℕ → Copied
copied_of book saved s room =
    let part = (settings_call book saved s).part in
    record { length = lib.ListN.length part; room = front part room }
