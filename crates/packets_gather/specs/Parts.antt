-- What is written into the room that a gathering is saved in.
use Rattle.std.specs.Prelude.{ℕ, ◌+◌, ◌/◌, ◌%◌, List, [], ◌∷◌, length}
use Rattle.rules.specs.Saved.{parts_place, payload_place}
use Rattle.octets.specs.Patch.{patch}

-- the room with a part behind what is gathered, and with the counts of parts and octets
unfoldable pub with_part : ℕ → ℕ → List ℕ → List ℕ → List ℕ
with_part parts before part room =
    let n = before + length part in
    patch (payload_place + before) part (patch parts_place (parts ∷ n / 256 ∷ n % 256 ∷ []) room)
