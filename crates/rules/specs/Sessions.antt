-- Sequences of the host's calls over one book and one saved area.
use Rattle.std.specs.Prelude.{ℕ, List, [], ◌∷◌}
use Rattle.rules.specs.Packets.{Message}
use Rattle.rules.specs.Host.{check_call, Kept, fresh_call, Answered, packet_call, event_call, Shown, settings_call, delay_call}
use Rattle.rules.specs.Host.{status_call, packets_call, Cut, cut_call}
use Rattle.rules.specs.Bursts.{BurstAnswered, burst_call}
use Rattle.rules.specs.declared.OurSeid.{OurSeid}
use Rattle.rules.specs.declared.Event.{Event}
use Rattle.rules.specs.declared.Standing.{Standing}
use Rattle.rules.specs.declared.Heard.{Heard}
use Rattle.rules.specs.declared.Told.{Told}
use Rattle.rules.specs.declared.Burst.{Burst}

pub data Call : Type 0 where
  check : Call
  fresh : Call
  -- packet size, packet, reply area
  packet : ℕ → List ℕ → List ℕ → Call
  -- packet size, octets, lengths of the packets, reply area
  burst : ℕ → List ℕ → List ℕ → List ℕ → Call
  event : Event → Call
  settings : OurSeid → Call
  delay : OurSeid → Call
  status : OurSeid → Call
  -- packet size, length of a payload
  packets : ℕ → ℕ → Call
  -- packet size, message, packet number, area
  cut : ℕ → Message → ℕ → List ℕ → Call

pub data Answer : Type 0 where
  number : ℕ → Answer
  -- what is told of a packet, and the reply area at exit
  told : Told → List ℕ → Answer
  -- what is told of a burst, and the reply area at exit
  told_each : Burst → List ℕ → Answer
  -- the number of a settings question, and the part that it shows
  shown : Shown → Answer
  heard : Heard → Answer
  stands : Standing → Answer
  -- how many packets
  counted : ℕ → Answer
  cut_off : Cut → Answer

-- one call: its answer, and the saved area at exit
pub record Done : Type 0 where
  pub answer : Answer
  pub saved : List ℕ

unfoldable pub keeping : Kept → Done
keeping k = record { answer = number k.number; saved = k.saved }

unfoldable pub answered : Answered → Done
answered a = record { answer = told a.told a.reply; saved = a.saved }

unfoldable pub answered_each : BurstAnswered → Done
answered_each a = record { answer = told_each a.burst a.reply; saved = a.saved }

unfoldable pub asked : List ℕ → Answer → Done
asked saved a = record { answer = a; saved = saved }

unfoldable pub call : List ℕ → List ℕ → Call → Done
call book saved check = asked saved (number (check_call book))
call book saved fresh = keeping (fresh_call book saved)
call book saved (packet size p reply) = answered (packet_call book size saved p reply)
call book saved (burst size octets lengths reply) = answered_each (burst_call book size saved octets lengths reply)
call book saved (event e) = keeping (event_call book saved e)
call book saved (settings s) = asked saved (shown (settings_call book saved s))
call book saved (delay s) = asked saved (heard (delay_call book saved s))
call book saved (status s) = asked saved (stands (status_call book saved s))
call book saved (packets size n) = asked saved (counted (packets_call size n))
call book saved (cut size m k area) = asked saved (cut_off (cut_call size m k area))

-- the answers of a sequence, and the saved area after it
unfoldable pub answers : List ℕ → List ℕ → List Call → List Answer
answers book saved [] = []
answers book saved (c ∷ calls) = (call book saved c).answer ∷ answers book (call book saved c).saved calls

unfoldable pub after : List ℕ → List ℕ → List Call → List ℕ
after book saved [] = saved
after book saved (c ∷ calls) = after book (call book saved c).saved calls
