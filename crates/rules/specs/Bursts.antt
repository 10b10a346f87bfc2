-- A burst: one call for up to 16 packets, with the replies in order (document 02, Q-1).
use Rattle.std.specs.Prelude.{ℕ, ◌-◌, List, [], ◌∷◌, ◌++◌, length, take, drop, replicate, ltb, eqb, if◌then◌else◌}
use Rattle.rules.specs.Host.{saved_number, sized_or, nothing_said, Answered, packet_call}
use Rattle.rules.specs.declared.Told.{Told}
use Rattle.rules.specs.declared.Burst.{Burst}

-- the packets lie one behind the other; a length past the end takes the octets that are left
unfoldable pub packets_in : List ℕ → List ℕ → List (List ℕ)
packets_in octets [] = []
packets_in octets (n ∷ lengths) = take n octets ∷ packets_in (drop n octets) lengths

-- ---- "Exactly the replies, connection and gathering of taking them one by one": successive packet calls, each on its own 64
-- octets of the reply area, so that the payload of packet n starts at octet 64(n-1)

abbrev pub slot : ℕ
slot = 64

-- what is told of each packet, and both areas after the last
pub record Successive : Type 0 where
  pub told : List Told
  pub saved : List ℕ
  pub reply : List ℕ

-- what the first packet comes to, and then the others
unfoldable pub and_then : Answered → Successive → Successive
and_then a rest = record { told = a.told ∷ rest.told; saved = rest.saved; reply = a.reply ++ rest.reply }

unfoldable pub successive : List ℕ → ℕ → List ℕ → List (List ℕ) → List ℕ → Successive
successive book size saved [] reply = record { told = []; saved = saved; reply = reply }
successive book size saved (p ∷ ps) reply =
    let a = packet_call book size saved p (take slot reply) in
    and_then a (successive book size a.saved ps (drop slot reply))

-- ---- burst: book, 8, 13, 9, 12, all before the first packet is read

abbrev pub most_packets : ℕ
most_packets = 16

-- of the reply area at least, however few the packets
abbrev pub burst_room : ℕ
burst_room = 1024

unfoldable pub burst_refusal : List ℕ → ℕ → List ℕ → List ℕ → List ℕ → ℕ
burst_refusal book size saved lengths reply =
    sized_or book size
    (if ltb most_packets (length lengths) then 13
    else if ltb (length reply) burst_room then 9
    else saved_number book saved)

-- what is told beyond the count is zero
unfoldable pub filled : List Told → List Told
filled told = told ++ replicate (most_packets - length told) (nothing_said 0)

-- a refusal has 0 in all but the number
unfoldable pub none_told : ℕ → Burst
none_told number = record { number = number; told = filled [] }

pub record BurstAnswered : Type 0 where
  pub burst : Burst
  pub saved : List ℕ
  pub reply : List ℕ

-- what a burst leads to on a legal connection
unfoldable pub burst_taken : List ℕ → ℕ → List ℕ → List (List ℕ) → List ℕ → BurstAnswered
burst_taken book size saved ps reply =
    let all = successive book size saved ps reply in
    record { burst = record { number = 0; told = filled all.told }; saved = all.saved; reply = all.reply }

unfoldable pub burst_call : List ℕ → ℕ → List ℕ → List ℕ → List ℕ → List ℕ → BurstAnswered
burst_call book size saved octets lengths reply =
    let number = burst_refusal book size saved lengths reply in
    if eqb number 0 then burst_taken book size saved (packets_in octets lengths) reply
    else record { burst = none_told number; saved = saved; reply = reply }
