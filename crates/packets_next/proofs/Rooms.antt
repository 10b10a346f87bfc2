-- What a right room says of the gathering in it, and that what is stored there is right again: the mark and the length
-- decide what is read, and a gathering within its limits reads back as itself.
use borrow.Author.Tests.{leb-true, eqb-true, ne_eqb}
use Prim.Native.Nat.{ℕ, ◌≤◌}
use native.Mathlib.Omega.{arith}
use mathlib.Core.Path.{◌≡◌}
use mathlib.Core.List.{List}
use mathlib.Core.Bool.{true, ◌&&◌}
use mathlib.Core.Option.{Option, some}
use lib.Dec.{leb, eqb}
use lib.ListN.{length, drop, get_or, length-drop}
use lib.Seq.{length-take-le}
use Rattle.rules.specs.Packets.{Gathering, longest, gather}
use Rattle.rules.specs.Endpoints.{legal_gathering}
use Rattle.rules.specs.Saved.{gathering_room, payload_length_in, gathering_at, gathering_in, gathering_octets_right}
use Rattle.rules.specs.Saved.{store_gathering}
use Rattle.rules.proofs.Tests.{and_l, and_r}
use Rattle.rules.proofs.SavedReads.{payload_fits, gathering_back, gathering_length, gathering_right_lem}
use Rattle.rules.proofs.RightMessages.{gather_right}
use Rattle.packets_next.specs.Rooms.{RoomRight}

pub record Marked (room : List ℕ) : Type 0 where
  pub mark : get_or room 0 0 ≡ 1
  pub fits : payload_length_in room ≤ 512

pub marked : (room : List ℕ) → RoomRight room → (get_or room 0 0 ≡ 0 → ⊥) → Marked room
unfolding gathering_octets_right longest
marked room right there =
    let both : eqb (get_or room 0 0) 1 && leb (payload_length_in room) 512 ≡ true =
    rw (ne_eqb (get_or room 0 0) 0 there) at right.octets in
    record {
      mark = eqb-true (get_or room 0 0) 1 (and_l _ (leb (payload_length_in room) 512) both);
      fits = leb-true (payload_length_in room) 512 (and_r (eqb (get_or room 0 0) 1) _ both);
    }

pub gathering_there : (room : List ℕ) → (get_or room 0 0 ≡ 0 → ⊥) → gathering_in room ≡ some (gathering_at room)
unfolding gathering_in
gathering_there room there = rw (ne_eqb (get_or room 0 0) 0 there)

pub payload_length : (room : List ℕ) → length room ≡ gathering_room → payload_length_in room ≤ 512
    → length (gathering_at room).message.payload ≡ payload_length_in room
unfolding gathering_at
payload_length room long fits = length-take-le (payload_length_in room) (drop 8 room) (rw length-drop (omega arith))

-- ---- What is stored is right

module _ (g : Option Gathering) (room : List ℕ) (long : length room ≡ gathering_room) (right : legal_gathering g ≡ true) where
  pub stored_read : gathering_in (store_gathering g room) ≡ g
  stored_read = gathering_back g room

  pub stored_right : RoomRight (store_gathering g room)
  stored_right =
      record {
        long = gathering_length g room (payload_fits g right) long;
        octets = gathering_right_lem g room (payload_fits g right);
        limits = rw stored_read right;
      }

pub room_kept : (size : ℕ) (room p : List ℕ) → RoomRight room
    → RoomRight (store_gathering (gather size (gathering_in room) p).gathering room)
room_kept size room p right =
    let step = gather_right size (gathering_in room) p right.limits in
    stored_right (gather size (gathering_in room) p).gathering room right.long step.gathering
