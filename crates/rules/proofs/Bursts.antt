-- Laws of a burst's definition: the packets and what is told of them are as many as the lengths, a burst that is not refused has
-- 64 octets for each of its packets, and what its first packet comes to stands before what the others come to.
use Prim.Native.Nat.{ℕ, suc, ◌≤◌, ◌*◌}
use native.Mathlib.Omega.{arith}
use mathlib.Core.Path.{◌≡◌, refl, ap}
use mathlib.Core.List.{List, [], ◌∷◌}
use lib.ListN.{length, take, drop}
use Rattle.rules.specs.Host.{Answered, packet_call}
use Rattle.rules.specs.Bursts.{packets_in, slot, most_packets, burst_room, and_then, successive}

pub packets_counted : (octets lengths : List ℕ) → length (packets_in octets lengths) ≡ length lengths
unfolding packets_in
packets_counted octets [] = refl
packets_counted octets (n ∷ lengths) = ap suc (packets_counted (drop n octets) lengths)

pub told_counted : (book : List ℕ) (size : ℕ) (saved : List ℕ) (ps : List (List ℕ)) (reply : List ℕ)
    → length (successive book size saved ps reply).told ≡ length ps
unfolding successive and_then
told_counted book size saved [] reply = refl
told_counted book size saved (p ∷ ps) reply = ap suc
    (told_counted book size (packet_call book size saved p (take slot reply)).saved ps (drop slot reply))

pub slots_fit : (octets lengths reply : List ℕ) → length lengths ≤ most_packets → burst_room ≤ length reply
    → slot * length (packets_in octets lengths) ≤ length reply
slots_fit octets lengths reply few room = let many = packets_counted octets lengths in omega arith

pub successive_first : (book : List ℕ) (size : ℕ) (saved p : List ℕ) (ps : List (List ℕ)) (reply : List ℕ) (a : Answered)
    → packet_call book size saved p (take slot reply) ≡ a
    → successive book size saved (p ∷ ps) reply ≡ and_then a (successive book size a.saved ps (drop slot reply))
unfolding successive
successive_first book size saved p ps reply a e =
    ap (λ (x : Answered). and_then x (successive book size x.saved ps (drop slot reply))) e
