-- The room of a gathering, test by test.
use Prim.Native.Nat.{ℕ, ◌≤◌, ◌<◌}
use native.Mathlib.Omega.{arith}
use mathlib.Core.Path.{◌≡◌}
use mathlib.Core.List.{List}
use mathlib.Core.Bool.{true, false}
use lib.ListN.{length, get_or}
use lib.Dec.{leb}
use borrow.Author.Tests.{le-leb, lt-leb, ne_eqb}
use Rattle.rules.specs.Octets.{between}
use Rattle.rules.specs.Packets.{longest, gathering_right}
use Rattle.rules.specs.Endpoints.{legal_gathering}
use Rattle.rules.specs.Saved.{gathering_room, gathering_at, gathering_in, gathering_octets_right, payload_length_in}
use Rattle.rules.proofs.Tests.{and-true}
use Rattle.packets_next.proofs.Rooms.{payload_length}
use Rattle.saved_gathering.specs.Room.{head_right, room_legal}

module _ (room : List ℕ) where
  pub none_legal : get_or room 0 0 ≡ 0 → true ≡ room_legal room
  unfolding room_legal gathering_octets_right gathering_in legal_gathering
  none_legal e = rw e

  pub mark_wrong : (get_or room 0 0 ≡ 0 → ⊥) → (get_or room 0 0 ≡ 1 → ⊥) → false ≡ room_legal room
  unfolding room_legal gathering_octets_right
  mark_wrong f g = rw (ne_eqb (get_or room 0 0) 0 f, ne_eqb (get_or room 0 0) 1 g)

  module _ (mark : get_or room 0 0 ≡ 1) where
    pub too_long : 512 < payload_length_in room → false ≡ room_legal room
    unfolding room_legal gathering_octets_right longest
    too_long h = rw (mark, lt-leb (payload_length_in room) 512 h)

    pub head_legal : length room ≡ gathering_room → payload_length_in room ≤ 512 → get_or room 4 0 < 256
        → head_right room ≡ room_legal room
    unfolding head_right room_legal gathering_octets_right gathering_in legal_gathering gathering_right gathering_at longest
        between
    head_legal long fits octet =
        rw (
          mark,
          payload_length room long fits,
          le-leb (payload_length_in room) 512 fits,
          le-leb (get_or room 4 0) 255 (omega arith),
          and-true (leb 2 (get_or room 4 0)),
        )
