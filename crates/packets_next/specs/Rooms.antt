-- The room that a gathering is saved in, as the code may count on it, and the gatherings that a packet leads to.
use Rattle.std.specs.Prelude.{ℕ, suc, ◌≡◌, List, true, length, drop, get_or}
use Rattle.rules.specs.Packets.{Gathering, message_from, extended}
use Rattle.rules.specs.Endpoints.{legal_gathering}
use Rattle.rules.specs.Saved.{gathering_room, gathering_in, gathering_octets_right}

-- It is as long as the layout says, its octets mean something, and the gathering in it is within its limits. A clause of the
-- contracts and no type's fact: a gathering is written through a `&mut`, and a ghost field beside one gets no proof.
pub record RoomRight (room : List ℕ) : Type 0 where
  pub long : length room ≡ gathering_room
  pub octets : gathering_octets_right room ≡ true
  pub limits : legal_gathering (gathering_in room) ≡ true

-- the gathering that a start begins
unfoldable pub begun : List ℕ → Gathering
begun p =
    record { message = message_from (get_or p 0 0) (get_or p 2 0) (drop 3 p); count = get_or p 1 0; parts = 1 }

-- and what a continue makes of it
unfoldable pub grown : Gathering → List ℕ → Gathering
grown g p = record { message = extended g.message (drop 1 p); count = g.count; parts = suc g.parts }
