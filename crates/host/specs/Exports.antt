-- The contracts of the calls that a host in C makes: the numbers that cross are those of the definition of the call, and so is
-- every lent area at exit.
use Rattle.std.specs.Prelude.{ℕ, ◌+◌, ◌*◌, ◌≤◌, ◌≡◌, List, [], ◌∷◌, length, get_or, eqb, if◌then◌else◌, None, Some}
use Rattle.std.specs.declared.option.Option.{Option}
use Rattle.rules.specs.Saved.{records_place, record_room, head_room, state_octet, channel_octet, config_length_place}
use Rattle.rules.specs.Host.{Kept, event_call, refusal_of, Shown, settings_call, status_call}
use Rattle.rules.specs.declared.OurSeid.{OurSeid}
use Rattle.rules.specs.declared.Event.{Event}
use Rattle.rules.specs.declared.Event.TheVariants.{Up, Down, Lost}
use Rattle.octets.specs.Patch.{part}
use Rattle.book.specs.Places.{place_in}
use Rattle.book.specs.declared.places.Place.{Place}
use Rattle.host.specs.declared.Span.{Span}
use Rattle.host.specs.declared.Standing.{Standing}

abbrev pub ours : ℕ → OurSeid
ours seid = record { 0 = seid }

-- ---- event

-- by its number: 0 up, 1 down, 2 lost; another is the channel of SEID 0 down, which no book has
abbrev pub event_of : ℕ → ℕ → Event
event_of which seid = get_or (Up ∷ Down (ours seid) ∷ Lost ∷ []) which (Down (ours 0))

abbrev pub HappensBy : List ℕ → List ℕ → ℕ → ℕ → ℕ → List ℕ → Type 0
HappensBy book saved which seid number saved' =
    ◌≡◌ {A = Kept} (record { number = number; saved = saved' }) (event_call book saved (event_of which seid))

-- ---- settings: where the octets stand, and that they are those of the call

abbrev pub nowhere_by : ℕ → Span
nowhere_by number = record { number = number; area = 0; offset = 0; length = 0 }

-- where record i begins in the saved area
abbrev pub record_from : ℕ → ℕ
record_from i = records_place + i * record_room

-- the configuration of record i where it has one, else the list of the book's entry
unfoldable pub span_at : Option Place → List ℕ → Span
span_at None saved = nowhere_by 10
span_at (Some p) saved =
    let n = get_or saved (record_from p.index + config_length_place) 0 in
    if eqb n 0 then record { number = 0; area = 1; offset = p.from; length = p.size }
    else record { number = 0; area = 2; offset = record_from p.index + head_room; length = n }

unfoldable pub span_call : List ℕ → List ℕ → OurSeid → Span
span_call book saved s =
    let number = refusal_of book saved in if eqb number 0 then span_at (place_in s book) saved else nowhere_by number

unfoldable pub area_by : ℕ → List ℕ → List ℕ → List ℕ
area_by area book saved = if eqb area 1 then book else if eqb area 2 then saved else []

unfoldable pub shown_by : List ℕ → List ℕ → Span → Shown
shown_by book saved r = record { number = r.number; part = part r.offset r.length (area_by r.area book saved) }

pub record Stands (book saved : List ℕ) (seid : ℕ) (r : Span) : Type 0 where
  pub place : r ≡ span_call book saved (ours seid)
  pub shows : shown_by book saved r ≡ settings_call book saved (ours seid)
  pub inside : r.offset + r.length ≤ length (area_by r.area book saved)

-- ---- status: the state and the channel by their octets in a record

unfoldable pub status_by : List ℕ → List ℕ → ℕ → Standing
status_by book saved seid =
    let t = status_call book saved (ours seid) in
    record {
      number = t.number;
      state = state_octet t.state;
      channel = channel_octet t.channel;
      far = t.far.0;
    }
