-- The hypotheses of `quiet` can be met: the book of the traces, just lost after a delay was reported, and the same book without
-- delay reporting, fresh, meet an old headset that streams, and their hosts lend other reply areas; all is computed.
use Prim.Native.Nat.{ℕ}
use mathlib.Core.Path.{◌≡◌, refl}
use mathlib.Core.List.{List, [], ◌∷◌, map}
use mathlib.Core.Bool.{true}
use mathlib.Core.Option.{none}
use lib.ListN.{replicate}
use Rattle.rules.proofs.SavedStaysRight.{trace_book_right}
use Rattle.rules.proofs.Quiet.{quiet}
use Rattle.rules.specs.Book.{book_number, book_of}
use Rattle.rules.specs.Endpoints.{end_at}
use Rattle.rules.specs.Saved.{area_for, connection_in}
use Rattle.rules.specs.Host.{fresh_call, event_call, settings_call, delay_call}
use Rattle.rules.specs.Sessions.{Call, packet, burst, event, settings, delay, after}
use Rattle.rules.specs.Alike.{alike_entry, alike, uses_delay, uses_in, after_event, restrained, Begins, begun, lost, cleared}
use Rattle.rules.specs.Alike.{Alike}
use Rattle.rules.specs.Computed.{computed}
use Rattle.rules.specs.Table.{trace_book, reply_area, set_configuration1}
use Rattle.rules.specs.declared.State.TheVariants.{Streaming}
use Rattle.rules.specs.declared.Event.{Event}
use Rattle.rules.specs.declared.Event.TheVariants.{Lost}

-- entry 1 has no category 8
unfoldable pub plain_book : List ℕ
plain_book =
    0x48 ∷ 0x4C ∷ 0x42 ∷ 0x00 ∷ 0x01 ∷ 0x02
    ∷ 0x01 ∷ 0x00 ∷ 0x0A ∷ 0x01 ∷ 0x00 ∷ 0x07 ∷ 0x06 ∷ 0x00 ∷ 0x00 ∷ 0xFF ∷ 0xFF ∷ 0x02 ∷ 0x35
    ∷ 0x05 ∷ 0x08 ∷ 0x0A ∷ 0x01 ∷ 0x00 ∷ 0x07 ∷ 0x06 ∷ 0x00 ∷ 0x00 ∷ 0xFF ∷ 0xFF ∷ 0x02 ∷ 0x35 ∷ []

-- The host asks for the settings of endpoint 1. Discover and Get Capabilities in one burst, Set Configuration without category 8,
-- Open, the channel comes up, Start, and the host asks for the delay.
unfoldable pub headset_calls : ℕ → List Call
headset_calls octet =
    let area = replicate 64 octet in
    settings (record { 0 = 1 })
    ∷ burst 48 (0x10 ∷ 0x01 ∷ 0x20 ∷ 0x02 ∷ 0x04 ∷ []) (2 ∷ 3 ∷ []) (replicate 1024 octet)
    ∷ packet 48 (0x30 ∷ 0x03 ∷ 0x04 ∷ 0x04 ∷ 0x01 ∷ 0x00 ∷ 0x07 ∷ 0x06 ∷ 0x00 ∷ 0x00 ∷ 0x21 ∷ 0x15 ∷ 0x02 ∷ 0x35 ∷ []) area
    ∷ packet 48 (0x40 ∷ 0x06 ∷ 0x04 ∷ []) area
    ∷ event Event.Up
    ∷ packet 48 (0x50 ∷ 0x07 ∷ 0x04 ∷ []) area
    ∷ delay (record { 0 = 1 })
    ∷ []

areas_of_one_length : map cleared (headset_calls 0xEE) ≡ map cleared (headset_calls 0x11)
unfolding computed headset_calls cleared
areas_of_one_length = refl

-- an area that was something else before, and one in which a delay of 1,500 tenths is reported
abbrev pub used_area : List ℕ
used_area = replicate (area_for 2) 0xDD

unfoldable pub delayed_area : List ℕ
delayed_area =
    after trace_book (fresh_call trace_book used_area).saved
    (packet 48 set_configuration1 reply_area ∷ packet 48 (0x50 ∷ 0x0D ∷ 0x04 ∷ 0x05 ∷ 0xDC ∷ []) reply_area ∷ [])

delay_was_reported : (delay_call trace_book delayed_area (record { 0 = 1 })).tenths ≡ 1500
unfolding computed trace_book delayed_area
delay_was_reported = refl

plain_book_right : book_number plain_book ≡ 0
unfolding computed plain_book
plain_book_right = refl

books_alike : alike (book_of trace_book) (book_of plain_book) ≡ true
unfolding computed alike alike_entry trace_book plain_book
books_alike = refl

abbrev pub lost_area : List ℕ
lost_area = (event_call trace_book delayed_area Lost).saved

abbrev pub fresh_area : List ℕ
fresh_area = (fresh_call plain_book used_area).saved

trace_begins : Begins trace_book lost_area
unfolding computed trace_book delayed_area
trace_begins = lost delayed_area refl

plain_begins : Begins plain_book fresh_area
unfolding computed plain_book
plain_begins = begun used_area refl

calls_restrained : restrained none (headset_calls 0xEE) ≡ true
unfolding computed restrained uses_in uses_delay after_event headset_calls
calls_restrained = refl

pub headset_alike : Alike trace_book plain_book lost_area fresh_area (headset_calls 0xEE) (headset_calls 0x11)
headset_alike =
    quiet trace_book plain_book lost_area fresh_area (headset_calls 0xEE) (headset_calls 0x11) trace_book_right
    plain_book_right books_alike trace_begins plain_begins areas_of_one_length calls_restrained

-- The parts that the first question shows differ by category 8, which is left out of the comparison.
pub trace_offers :
    (settings_call trace_book lost_area (record { 0 = 1 })).part
    ≡ 0x01 ∷ 0x00 ∷ 0x07 ∷ 0x06 ∷ 0x00 ∷ 0x00 ∷ 0xFF ∷ 0xFF ∷ 0x02 ∷ 0x35 ∷ 0x08 ∷ 0x00 ∷ []
unfolding computed trace_book delayed_area
trace_offers = refl

pub plain_offers :
    (settings_call plain_book fresh_area (record { 0 = 1 })).part
    ≡ 0x01 ∷ 0x00 ∷ 0x07 ∷ 0x06 ∷ 0x00 ∷ 0x00 ∷ 0xFF ∷ 0xFF ∷ 0x02 ∷ 0x35 ∷ []
unfolding computed plain_book
plain_offers = refl

-- and the headset does stream
pub headset_streams : (end_at (connection_in 2 (after trace_book lost_area (headset_calls 0xEE))).ends 0).head.state ≡ Streaming
unfolding computed trace_book delayed_area headset_calls
headset_streams = refl
