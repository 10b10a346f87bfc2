-- The records once the endpoint of record i has left for a state, by its channel.
use Rattle.std.specs.Prelude.{ℕ, ◌*◌, List, Bool, if◌then◌else◌}
use Rattle.rules.specs.Endpoints.{is_up, idle_head, in_state}
use Rattle.rules.specs.Saved.{record_room, head_in, head_octets, record_at}
use Rattle.rules.specs.declared.State.{State}
use Rattle.octets.specs.Patch.{patch}
use Rattle.saved.specs.Records.{config_size_at}

abbrev pub left_by : Bool → State → ℕ → List ℕ → List ℕ
left_by up to i l =
    if up then patch (i * record_room) (head_octets (in_state to (head_in (record_at i l))) (config_size_at i l)) l
    else patch (i * record_room) (head_octets (idle_head (head_in (record_at i l)).seid) 0) l

abbrev pub left_at : State → ℕ → List ℕ → List ℕ
left_at to i l = left_by (is_up (head_in (record_at i l)).channel) to i l
