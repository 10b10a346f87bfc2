-- The hypotheses of the theorems can be met: one computed case for each.
use Prim.Native.Nat.{ℕ}
use mathlib.Core.Path.{◌≡◌, refl}
use mathlib.Core.List.{List, [], ◌∷◌}
use native.Mathlib.Omega.{arith}
use lib.ListN.{replicate}
use Rattle.rules.specs.Computed.{computed}
use Rattle.rules.specs.Elements.{items, stored}
use Rattle.rules.specs.Book.{book_of}
use Rattle.rules.specs.Endpoints.{Ends, idle_head}
use Rattle.rules.specs.Commands.{answer}
use Rattle.rules.specs.Saved.{area_for}
use Rattle.rules.specs.Host.{packet_call, nothing_said, fresh_call}
use Rattle.rules.specs.Bursts.{none_told, burst_call}
use Rattle.rules.specs.OneByOne.{OneByOne}
use Rattle.rules.specs.Moves.{Stopped, is_accept, shifts}
use Rattle.rules.specs.Table.{trace_book}
use Rattle.rules.specs.declared.State.TheVariants.{Open, Streaming}
use Rattle.rules.specs.declared.Channel.TheVariants.{Up}
use Rattle.std.specs.Prelude.{None}
use Rattle.rules.specs.declared.Signal.TheVariants.{Start}
use Rattle.rules.proofs.Moves.{start_stops, unmoved}
use Rattle.rules.proofs.Refused.{refused_packet, refused_burst}
use Rattle.rules.proofs.OneByOne.{one_by_one}

-- the trace book's endpoints, the first open with its channel up, the second idle
pub open_and_idle : Ends
open_and_idle =
    record {
      head =
          record { seid = record { 0 = 1 }; state = Open; channel = Up; far = record { 0 = 1 }; delay = None };
      config = 0x01 ∷ 0x00 ∷ 0x07 ∷ 0x06 ∷ 0x00 ∷ 0x00 ∷ 0x21 ∷ 0x15 ∷ 0x02 ∷ 0x35 ∷ [];
    }
    ∷ record { head = idle_head (record { 0 = 5 }); config = [] }
    ∷ []

-- a Start of both stops at the second
pub start_of_both_lem : Stopped Start Streaming (book_of trace_book) open_and_idle (0x04 ∷ 0x14 ∷ [])
    (answer (book_of trace_book) open_and_idle
    (record { header = record { label = 8; mtype = 0; signal = 0x07 }; payload = 0x04 ∷ 0x14 ∷ [] }))
unfolding computed trace_book open_and_idle is_accept
start_of_both_lem = start_stops (book_of trace_book) open_and_idle 8 0x04 (0x14 ∷ []) refl

-- an Open of the second is rejected and moves none
pub open_of_idle :
    (answer (book_of trace_book) open_and_idle
    (record { header = record { label = 8; mtype = 0; signal = 0x06 }; payload = 0x14 ∷ [] })).ends
    ≡ open_and_idle
unfolding computed trace_book open_and_idle is_accept shifts
open_of_idle =
    unmoved (book_of trace_book) open_and_idle
    (record { header = record { label = 8; mtype = 0; signal = 0x06 }; payload = 0x14 ∷ [] })
    refl refl

-- a packet size of 47 is refused with 8
pub size_refused : packet_call trace_book 47 [] (0x10 ∷ 0x01 ∷ []) (replicate 64 0xEE)
    ≡ record { told = nothing_said 8; saved = []; reply = replicate 64 0xEE }
unfolding computed trace_book
size_refused = refused_packet trace_book 47 [] (0x10 ∷ 0x01 ∷ []) (replicate 64 0xEE) (λ (e : ◌≡◌ {A = ℕ} 8 0). omega arith)

-- seventeen packets are refused with 13, before a reply area that is too short
pub burst_refused : burst_call trace_book 48 [] [] (replicate 17 0) []
    ≡ record { burst = none_told 13; saved = []; reply = [] }
unfolding computed trace_book
burst_refused = refused_burst trace_book 48 [] [] (replicate 17 0) [] (λ (e : ◌≡◌ {A = ℕ} 13 0). omega arith)

-- a burst is its packets one by one: the trace table's first Discover, and a Get Capabilities in two pieces
pub burst_of_three :
    let area : List ℕ = replicate 1024 0xEE in
    let octets : List ℕ = 0x10 ∷ 0x01 ∷ 0x24 ∷ 0x02 ∷ 0x02 ∷ 0x2C ∷ 0x04 ∷ [] in
    let fresh = (fresh_call trace_book (replicate (area_for 2) 0xDD)).saved in
    OneByOne trace_book 48 fresh octets (2 ∷ 3 ∷ 2 ∷ []) area (burst_call trace_book 48 fresh octets (2 ∷ 3 ∷ 2 ∷ []) area)
unfolding computed trace_book
burst_of_three = one_by_one trace_book 48 _ _ (2 ∷ 3 ∷ 2 ∷ []) (replicate 1024 0xEE) refl

-- elements asked in the order 8, 7, 1 are stored ascending
pub stored_ascending :
    stored (items (0x08 ∷ 0x00 ∷ 0x07 ∷ 0x06 ∷ 0x00 ∷ 0x00 ∷ 0x21 ∷ 0x15 ∷ 0x02 ∷ 0x35 ∷ 0x01 ∷ 0x00 ∷ []))
    ≡ 0x01 ∷ 0x00 ∷ 0x07 ∷ 0x06 ∷ 0x00 ∷ 0x00 ∷ 0x21 ∷ 0x15 ∷ 0x02 ∷ 0x35 ∷ 0x08 ∷ 0x00 ∷ []
unfolding computed
stored_ascending = refl
