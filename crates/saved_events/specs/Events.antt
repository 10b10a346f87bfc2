-- Link events over the saved records: the number that the host is told, and what the records hold then.
use Rattle.std.specs.Prelude.{ℕ, List, map, length, set, eqb, if◌then◌else◌}
use Rattle.rules.specs.Book.{Book, Found, unknown, known, find}
use Rattle.rules.specs.Endpoints.{Ends, end_at, awaiting, up_in, is_up, forgotten}
use Rattle.rules.specs.Saved.{ends_in, store_ends}
use Rattle.rules.specs.declared.OurSeid.{OurSeid}

pub record MovedRecords : Type 0 where
  pub number : ℕ
  pub records : List ℕ

-- Channel up: the awaiting endpoint, else 10.
unfoldable pub upped : ℕ → List ℕ → MovedRecords
upped n l =
    if eqb (awaiting (ends_in n l)) 0 then record { number = 10; records = l }
    else record { number = 0; records = store_ends (up_in (ends_in n l)) l }

-- Channel down for a SEID: to idle, else 10 if it has none.
unfoldable pub downed_at : Found → Ends → List ℕ → MovedRecords
downed_at unknown ends l = record { number = 10; records = l }
downed_at (known i n) ends l =
    if is_up (end_at ends i).head.channel
    then record { number = 0; records = store_ends (set ends i (forgotten (end_at ends i))) l }
    else record { number = 10; records = l }

unfoldable pub downed : OurSeid → Book → List ℕ → MovedRecords
downed s book l = downed_at (find s book) (ends_in (length book) l) l

-- Link lost: all idle.
unfoldable pub all_idle : ℕ → List ℕ → List ℕ
all_idle n l = store_ends (map forgotten (ends_in n l)) l
