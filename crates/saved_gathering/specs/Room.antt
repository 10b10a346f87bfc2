-- The legality of the room of a gathering.
use Rattle.std.specs.Prelude.{ℕ, List, Bool, ◌&&◌, get_or, leb, ltb}
use Rattle.rules.specs.Endpoints.{legal_gathering}
use Rattle.rules.specs.Saved.{gathering_in, gathering_octets_right, packets_place, parts_place, label_place, mtype_place}
use Rattle.rules.specs.Saved.{signal_place}

unfoldable pub room_legal : List ℕ → Bool
room_legal room = gathering_octets_right room && legal_gathering (gathering_in room)

-- the limits of the octets in front of the payload
unfoldable pub head_right : List ℕ → Bool
head_right room =
    leb 2 (get_or room packets_place 0) && leb 1 (get_or room parts_place 0)
    && ltb (get_or room parts_place 0) (get_or room packets_place 0)
    && ltb (get_or room label_place 0) 16 && ltb (get_or room mtype_place 0) 4 && ltb (get_or room signal_place 0) 64
