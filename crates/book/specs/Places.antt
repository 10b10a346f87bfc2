-- Where a book has a SEID, as the code tells it.
use Rattle.std.specs.Prelude.{ℕ, zero, suc, ◌+◌, List, take, drop, get_or, eqb, if◌then◌else◌}
use Rattle.rules.specs.Book.{Found, unknown, known}
use Rattle.rules.specs.declared.OurSeid.{OurSeid}
use Rattle.std.specs.Prelude.{None, Some}
use Rattle.std.specs.declared.option.Option.{Option}
use Rattle.book.specs.declared.places.Place.{Place}

-- entry i, with this kind octet, whose list is the `size` octets from `from` on
abbrev pub known_at : ℕ → ℕ → ℕ → ℕ → Option Place
known_at i kind from size = Some (record { index = i; kind = kind; from = from; size = size })

-- n entries from a place of the book on, the first of which is entry i
unfoldable pub place_from : ℕ → OurSeid → List ℕ → ℕ → ℕ → Option Place
place_from zero s b at i = None
place_from (suc n) s b at i =
    if eqb (get_or b at 0) s.0 then known_at i (get_or b (at + 1) 0) (at + 3) (get_or b (at + 2) 0)
    else place_from n s b (at + 3 + get_or b (at + 2) 0) (suc i)

unfoldable pub place_in : OurSeid → List ℕ → Option Place
place_in s b = place_from (get_or b 5 0) s b 6 0

-- the entry that is meant
unfoldable pub found_by : OurSeid → Option Place → List ℕ → Found
found_by s None b = unknown
found_by s (Some p) b =
    known p.index (record { seid = s; kind = p.kind; caps = take p.size (drop p.from b) })
