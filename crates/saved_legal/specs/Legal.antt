-- The legality of the records part by part, as the code tests it: one record, and all records with the channels that they await.
use Rattle.std.specs.Prelude.{ℕ, ◌+◌, List, Bool, ◌&&◌, ◌||◌, take, get_or, leb, eqb, if◌then◌else◌}
use Rattle.std.specs.Prelude.{None, Some}
use Rattle.std.specs.declared.option.Option.{Option}
use Rattle.rules.specs.Octets.{same_octets}
use Rattle.rules.specs.Book.{Entry, Book}
use Rattle.rules.specs.Endpoints.{idle_head, is_awaited, legal_end, legal_ends, awaiting}
use Rattle.rules.specs.Saved.{head_room, config_room, channel_in, endpoint_in, record_right, head_octets, ends_in, records_right}
use Rattle.rules.specs.Saved.{state_place, channel_place, delay_mark_place, delay_high_place, delay_low_place}
use Rattle.rules.specs.Saved.{config_length_place}
use Rattle.rules.specs.declared.OurSeid.{OurSeid}

-- the channels that a record awaits, by its octet for the channel
unfoldable pub awaits_in : ℕ → ℕ
awaits_in o = if is_awaited (channel_in o) then 1 else 0

-- the octets of a head that have a use
unfoldable pub used_right : List ℕ → Bool
used_right r =
    leb (get_or r state_place 0) 5 && leb (get_or r channel_place 0) 2
    && (eqb (get_or r delay_mark_place 0) 1
    || (eqb (get_or r delay_mark_place 0) 0 && eqb (get_or r delay_high_place 0) 0 && eqb (get_or r delay_low_place 0) 0))
    && leb (get_or r config_length_place 0) config_room

-- whether a record's head is that of an idle endpoint
unfoldable pub idles_in : OurSeid → List ℕ → Bool
idles_in s r = same_octets (take head_room r) (head_octets (idle_head s) 0)

unfoldable pub record_legal : Entry → List ℕ → Bool
record_legal n r = record_right r && legal_end n (endpoint_in r)

-- the channels that a legal record awaits
unfoldable pub awaited_in : Entry → List ℕ → Option ℕ
awaited_in n r = if record_legal n r then Some (awaits_in (get_or r channel_place 0)) else None

-- n records of the entries of a book, behind records that await some channels
unfoldable pub records_legal : Book → ℕ → ℕ → List ℕ → Bool
records_legal book n before l = records_right n l && legal_ends book (ends_in n l) && leb (before + awaiting (ends_in n l)) 1
