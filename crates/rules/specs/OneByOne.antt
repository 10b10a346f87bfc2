-- The words of "a burst is its packets one by one" (document 02, Q-1): the packet calls that a burst stands for, and how their
-- answers lie in what the burst told and in its reply area.
use Rattle.std.specs.Prelude.{ℕ, ◌*◌, ◌≡◌, List, [], ◌∷◌, Bool, true, length, take, drop, eqb}
use Rattle.rules.specs.Octets.{each_of}
use Rattle.rules.specs.Bursts.{slot, filled, packets_in, BurstAnswered}
use Rattle.rules.specs.Sessions
use Rattle.rules.specs.Sessions.{Call, packet, Answer, told, after}
use Rattle.rules.specs.declared.Told.{Told}

-- each packet on its own 64 octets
unfoldable pub packet_calls : ℕ → List (List ℕ) → List ℕ → List Call
packet_calls size [] reply = []
packet_calls size (p ∷ ps) reply = packet size p (take slot reply) ∷ packet_calls size ps (drop slot reply)

unfoldable pub slot_answers : List Told → List ℕ → List Answer
slot_answers [] reply = []
slot_answers (t ∷ ts) reply = told t (take slot reply) ∷ slot_answers ts (drop slot reply)

unfoldable pub is_taken : Told → Bool
is_taken t = eqb t.number 0

pub record OneByOne (book : List ℕ) (size : ℕ) (saved octets lengths reply : List ℕ) (a : BurstAnswered) : Type 0 where
  -- of each packet
  pub each : List Told
  pub count : length each ≡ length lengths
  pub told : a.burst ≡ record { number = 0; told = filled each }
  pub answers : Sessions.answers book saved (packet_calls size (packets_in octets lengths) reply) ≡ slot_answers each a.reply
  pub saved' : after book saved (packet_calls size (packets_in octets lengths) reply) ≡ a.saved
  -- no packet is refused
  pub unrefused : each_of is_taken each ≡ true
  pub behind : drop (slot * length lengths) a.reply ≡ drop (slot * length lengths) reply
