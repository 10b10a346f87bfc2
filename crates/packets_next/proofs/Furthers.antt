-- What a further packet leads to: the tests of the code are those of `is_next`, in another order.
use Rattle.std.proofs.Common.{◌≡◌, ℕ, suc, ◌+◌, ◌-◌, List, Bool, true, false, ◌&&◌, length, drop, get_or, refl}
use Rattle.std.specs.Prelude.{eqb, ltb, leb, if◌then◌else◌}
use Rattle.std.proofs.Math.ListN.{length-drop}
use borrow.Author.Tests.{eqb-false}
use Rattle.rules.specs.Packets.{label_in, mtype_in, is_next, longest}
use Rattle.rules.specs.Saved.{gathering_at, gathering_in, payload_length_in}
use Rattle.rules.specs.declared.Header.{Header}
use Rattle.rules.proofs.Tests.{Told?, passed, failed, told}
use Rattle.packets_next.specs.Nexts.{of_gathered, next_further}
use Rattle.packets_next.specs.declared.nexts.Next.{Next}
use Rattle.packets_next.specs.declared.nexts.Next.TheVariants.{Ended, Grown, Complete}
use Rattle.packets_next.specs.Rooms.{RoomRight}
use Rattle.packets_next.proofs.Rooms.{marked, payload_length}

-- the test on how many packets are owed
abbrev pub owed : List ℕ → Bool → Bool
owed room last = if last then eqb (suc (get_or room 5 0)) (get_or room 4 0) else ltb (suc (get_or room 5 0)) (get_or room 4 0)

-- the header of the message that is gathered
abbrev pub header_in : List ℕ → Header
header_in room = record { label = get_or room 1 0; mtype = get_or room 2 0; signal = get_or room 3 0 }

-- the test on the packets owed comes third in `is_next`
third : (a b c d : Bool) (x y : Next) → (if a && b && c && d then x else y) ≡ (if (a && b && d) && c then x else y)
third true true true true x y = refl
third true true true false x y = refl
third true true false true x y = refl
third true true false false x y = refl
third true false c d x y = refl
third false b c d x y = refl

pub by_tests : (room p : List ℕ) (last : Bool) → RoomRight room
    → next_further (gathering_in room) last (label_in (get_or p 0 0)) (mtype_in (get_or p 0 0)) (drop 1 p)
    ≡ (if of_gathered room p && owed room last then (if last then Complete (header_in room) else Grown) else Ended)
unfolding next_further of_gathered gathering_in gathering_at is_next longest
by_tests room p last right = go (told (eqb (get_or room 0 0) 0))
  where
    go : Told? (eqb (get_or room 0 0) 0)
        → next_further (gathering_in room) last (label_in (get_or p 0 0)) (mtype_in (get_or p 0 0)) (drop 1 p)
        ≡ (if of_gathered room p && owed room last then (if last then Complete (header_in room) else Grown) else Ended)
    go (passed t) = rw t
    go (failed t) =
        let n = eqb-false (get_or room 0 0) 0 t in
        let long = payload_length room right.long (marked room right n).fits in
        let n = payload_length_in room + (length p - 1) in
        rw (t, long, length-drop 1 p) (
        third (eqb (label_in (get_or p 0 0)) (get_or room 1 0)) (eqb (mtype_in (get_or p 0 0)) (get_or room 2 0)) (owed room last)
        (leb n 512) (if last then Complete (header_in room) else Grown) Ended)
