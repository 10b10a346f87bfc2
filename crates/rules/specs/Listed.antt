-- The words of "every answer is a reply, silence, or a number of the list" (document 01, What the host is told): the numbers
-- that each call can refuse with, what a refusal is, and what an answer that is none can be.
use Rattle.std.specs.Prelude.{ℕ, ◌≤◌, ◌<◌, ◌≡◌, List, [], ◌∷◌, ◌++◌, Bool, true, false, eqb}
use lib.ListN.{length, take, drop}
use Rattle.rules.specs.Octets.{member, is_empty, front, between}
use Rattle.rules.specs.Packets.{Message}
use Rattle.rules.specs.Host
use Rattle.rules.specs.Host.{nothing_said}
use Rattle.rules.specs.Bursts.{slot, filled, none_told}
use Rattle.rules.specs.Sessions.{Call, check, fresh, packet, event, settings, delay, packets, cut, Answer, number, told}
use Rattle.rules.specs.Sessions.{shown, heard, counted, cut_off, Done, stands, status, burst, told_each}
use Rattle.rules.specs.declared.OurSeid.{OurSeid}
use Rattle.rules.specs.declared.Told.{Told}
use Rattle.rules.specs.Delays.{Delay}
use Rattle.std.specs.Prelude.{None}
use Rattle.rules.specs.declared.Head.{Head}
use Rattle.rules.specs.declared.Event.{Event}
use Rattle.rules.specs.declared.Event.TheVariants.{Up, Down, Lost}

-- ---- Numbers

-- the number that an answer tells; a count of packets tells none
unfoldable pub number_in : Answer → ℕ
number_in (number n) = n
number_in (told t reply) = t.number
number_in (told_each b reply) = b.number
number_in (shown s) = s.number
number_in (heard h) = h.number
number_in (stands t) = t.number
number_in (counted n) = 0
number_in (cut_off c) = c.piece.number

unfoldable pub is12 : Answer → Bool
is12 a = eqb (number_in a) 12

abbrev pub book_numbers : List ℕ
book_numbers = 1 ∷ 2 ∷ 3 ∷ 4 ∷ 5 ∷ 6 ∷ 7 ∷ []

-- The numbers that a call can refuse with, in the order of their tests. Link loss always applies; the number of packets is a
-- count, and refused where it is 0.
unfoldable pub refusals : Call → List ℕ
refusals check = book_numbers
refusals fresh = book_numbers ++ (12 ∷ [])
refusals (packet size p reply) = book_numbers ++ (8 ∷ 9 ∷ 12 ∷ [])
refusals (burst size octets lengths reply) = book_numbers ++ (8 ∷ 13 ∷ 9 ∷ 12 ∷ [])
refusals (event Up) = book_numbers ++ (12 ∷ 10 ∷ [])
refusals (event (Down s)) = book_numbers ++ (12 ∷ 10 ∷ [])
refusals (event Lost) = book_numbers ++ (12 ∷ [])
refusals (settings s) = book_numbers ++ (12 ∷ 10 ∷ [])
refusals (delay s) = book_numbers ++ (12 ∷ 10 ∷ [])
refusals (status s) = book_numbers ++ (12 ∷ 10 ∷ [])
refusals (packets size n) = []
refusals (cut size m k area) = 8 ∷ 11 ∷ 9 ∷ []

-- ---- Answers

-- Refused with a number: everything else that is told is zero, empty or unreported, and every lent area is as it was.
unfoldable pub refused_with : Call → ℕ → Answer
refused_with check n = number n
refused_with fresh n = number n
refused_with (packet size p reply) n = told (nothing_said n) reply
refused_with (burst size octets lengths reply) n = told_each (none_told n) reply
refused_with (event e) n = number n
refused_with (settings s) n = shown (record { number = n; part = [] })
refused_with (delay s) n = heard (Host.heard n None)
refused_with (status s) n = stands (Host.nowhere n)
refused_with (packets size length) n = counted 0
refused_with (cut size m k area) n = cut_off (record { piece = record { number = n; length = 0 }; area = area })

-- What is told of a packet that is not refused, and its reply area at exit.
pub data PacketAnswer (reply : List ℕ) : Told → List ℕ → Type 0 where
  -- silence: zero in all fields, and nothing written in the reply area
  silent : PacketAnswer reply (nothing_said 0) reply
  -- a reply: label, message type, signal and length, and the payload at the front of the reply area
  replied : (label mtype signal : ℕ) (payload : List ℕ) → label < 16 → between 1 3 mtype ≡ true → signal < 64
      → length payload ≤ 64
      → PacketAnswer reply
      (record { number = 0; label = label; mtype = mtype; signal = signal; length = lib.ListN.length payload })
      (front payload reply)

-- The same of the packets of a burst, each on its own 64 octets; the octets behind the last stay.
pub data PacketAnswers : List ℕ → List Told → List ℕ → Type 0 where
  behind : (reply : List ℕ) → PacketAnswers reply [] reply
  first : (reply : List ℕ) (t : Told) (written : List ℕ) (told : List Told) (rest : List ℕ)
      → PacketAnswer (take slot reply) t written → PacketAnswers (drop slot reply) told rest
      → PacketAnswers reply (t ∷ told) (written ++ rest)

-- What a call can come to: its answer, and the saved area at exit.
pub data Listed (saved : List ℕ) : Call → Done → Type 0 where
  refused : (c : Call) (n : ℕ) → member n (refusals c) ≡ true
      → Listed saved c (record { answer = refused_with c n; saved = saved })
  checked : Listed saved check (record { answer = number 0; saved = saved })
  begun : (next : List ℕ) → Listed saved fresh (record { answer = number 0; saved = next })
  handles : (size : ℕ) (p reply next : List ℕ) (t : Told) (reply' : List ℕ) → PacketAnswer reply t reply'
      → Listed saved (packet size p reply) (record { answer = told t reply'; saved = next })
  -- of as many packets as there are lengths
  handles_each : (size : ℕ) (octets lengths reply next : List ℕ) (all : List Told) (reply' : List ℕ)
      → length all ≡ length lengths → PacketAnswers reply all reply'
      → Listed saved (burst size octets lengths reply)
      (record { answer = told_each (record { number = 0; told = filled all }) reply'; saved = next })
  happened : (e : Event) (next : List ℕ) → Listed saved (event e) (record { answer = number 0; saved = next })
  shows : (s : OurSeid) (part : List ℕ) → is_empty part ≡ false → length part ≤ 64
      → Listed saved (settings s) (record { answer = shown (record { number = 0; part = part }); saved = saved })
  hears : (s : OurSeid) (d : Delay) → Listed saved (delay s) (record { answer = heard (Host.heard 0 d); saved = saved })
  tells : (s : OurSeid) (h : Head) → Listed saved (status s) (record { answer = stands (Host.standing 0 h); saved = saved })
  counts : (size n k : ℕ) → k ≤ 11 → Listed saved (packets size n) (record { answer = counted k; saved = saved })
  cuts : (size : ℕ) (m : Message) (k : ℕ) (area written : List ℕ) → length written ≤ size
      → Listed saved (cut size m k area)
      (record {
        answer =
            cut_off (record { piece = record { number = 0; length = lib.ListN.length written }; area = front written area });
        saved = saved;
      })

-- every call of a sequence, each on the area that the one before it left
pub data EachListed : List ℕ → List Call → List Answer → Type 0 where
  none : (saved : List ℕ) → EachListed saved [] []
  more : (saved : List ℕ) (c : Call) (d : Done) (calls : List Call) (said : List Answer) → Listed saved c d
      → EachListed d.saved calls said → EachListed saved (c ∷ calls) (d.answer ∷ said)
