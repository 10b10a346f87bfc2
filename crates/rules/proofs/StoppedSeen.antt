-- A failed Start or Suspend, of what the saved octets and the reply show: a packet on a right area is a step of the connection
-- that it shows, and the message that it completes is stopped at the first endpoint that failed.
use Prim.Native.Nat.{ℕ}
use native.Mathlib.Omega.{arith}
use mathlib.Core.Path.{◌≡◌, refl, sym, ap, ◌∙◌, subst}
use mathlib.Core.List.{List, [], ◌∷◌}
use mathlib.Core.Bool.{true, false, ◌||◌}
use mathlib.Core.Option.{some}
use lib.ListN.{length, replicate}
use lib.Dec.{eqb}
use borrow.Author.Tests.{eqb-true}
use Rattle.rules.specs.Computed.{computed}
use Rattle.rules.specs.Octets.{is_empty, front}
use Rattle.rules.specs.Book.{Book, book_number, book_of}
use Rattle.rules.specs.Packets.{Message, gather}
use Rattle.rules.specs.Endpoints.{Ends, Connection}
use Rattle.rules.specs.Saved.{area_for, connection_in, saved_right}
use Rattle.rules.specs.Commands.{Reply, silence, general_reject, accept, reject, rejects, Outcome, stays, signal_of, obey}
use Rattle.rules.specs.Commands.{answer}
use Rattle.rules.specs.Host.{told_of, said, nothing_said, payload_of, handled_by, takes, packet_call, fresh_call}
use Rattle.rules.specs.Sessions.{packet, event, Answer, number, told, shown, heard, counted, cut_off, call, answered, after}
use Rattle.rules.specs.Sessions.{stands, told_each}
use Rattle.rules.specs.Views.{Stepped, packet_number, says, goes}
use Rattle.rules.specs.Moves.{Stopped, is_accept, shifts, shifts_to, RejectSeen, StoppedSeen}
use Rattle.rules.specs.Table.{trace_book, reply_area, set_configuration1}
use Rattle.rules.specs.declared.Event.{Event}
use Rattle.rules.specs.declared.Told.{Told}
use Rattle.rules.proofs.Tests.{Told?, passed, failed, told as whether, and_l, and_r, clash}
use Rattle.rules.proofs.SavedStaysRight.{always_legal, trace_book_right, trace_area_right}
use Rattle.rules.proofs.Moves.{start_stops, suspend_stops, start_of_none, suspend_of_none}
use Rattle.rules.proofs.View.{view_step}

-- ---- A Start or a Suspend, by its signal

module _ (book : Book) (ends : Ends) where
  abbrev StopsBy : List ℕ → ℕ → Type 0
  StopsBy p signal =
      is_accept (obey (signal_of signal) book ends p).reply ≡ false
      → Stopped (signal_of signal) (shifts_to signal) book ends p (obey (signal_of signal) book ends p)

  stops_07 : (p : List ℕ) → is_empty p ≡ false → StopsBy p 0x07
  unfolding is_empty shifts_to signal_of answer
  stops_07 [] lists = clash refl lists
  stops_07 (o ∷ os) lists = start_stops book ends 0 o os

  stops_09 : (p : List ℕ) → is_empty p ≡ false → StopsBy p 0x09
  unfolding is_empty shifts_to signal_of answer
  stops_09 [] lists = clash refl lists
  stops_09 (o ∷ os) lists = suspend_stops book ends 0 o os

  stops_by : (p : List ℕ) (signal : ℕ) → is_empty p ≡ false → eqb signal 0x07 || eqb signal 0x09 ≡ true
      → Told? (eqb signal 0x07) → StopsBy p signal
  stops_by p signal lists shift (passed is07) = subst (StopsBy p) (sym (eqb-true signal 0x07 is07)) (stops_07 p lists)
  stops_by p signal lists shift (failed other) =
      subst (StopsBy p) (sym (eqb-true signal 0x09 (rw other at shift))) (stops_09 p lists)

  message_stops : (m : Message) → shifts m ≡ true → is_empty m.payload ≡ false → is_accept (answer book ends m).reply ≡ false
      → Stopped (signal_of m.header.signal) (shifts_to m.header.signal) book ends m.payload (answer book ends m)
  unfolding shifts answer
  message_stops m shift lists e =
      let command = and_l (eqb m.header.mtype 0) (eqb m.header.signal 0x07 || eqb m.header.signal 0x09) shift in
      let signal = and_r (eqb m.header.mtype 0) (eqb m.header.signal 0x07 || eqb m.header.signal 0x09) shift in
      rw command (stops_by m.payload m.header.signal lists signal (whether (eqb m.header.signal 0x07))
      (rw command at e))

-- its reject has two octets
two_by : (signal what code : ℕ) → eqb signal 0x07 || eqb signal 0x09 ≡ true → Told? (eqb signal 0x07)
    → rejects (signal_of signal) what code ≡ reject (what ∷ code ∷ [])
unfolding rejects signal_of
two_by signal what code shift (passed is07) = rw (eqb-true signal 0x07 is07)
two_by signal what code shift (failed other) = rw (eqb-true signal 0x09 (rw other at shift))

two_octets : (m : Message) (what code : ℕ) → shifts m ≡ true → rejects (signal_of m.header.signal) what code
    ≡ reject (what ∷ code ∷ [])
unfolding shifts
two_octets m what code shift =
    two_by m.header.signal what code
    (and_r (eqb m.header.mtype 0) (eqb m.header.signal 0x07 || eqb m.header.signal 0x09) shift)
    (whether (eqb m.header.signal 0x07))

-- One that lists nothing is rejected with SEID 0 and moves none.
module _ (book : Book) (ends : Ends) where
  none_by : (signal : ℕ) → eqb signal 0x07 || eqb signal 0x09 ≡ true → Told? (eqb signal 0x07)
      → obey (signal_of signal) book ends [] ≡ stays ends (reject (0 ∷ 0x11 ∷ []))
  unfolding answer
  none_by signal shift (passed is07) =
      subst (λ (n : ℕ). obey (signal_of n) book ends [] ≡ stays ends (reject (0 ∷ 0x11 ∷ [])))
      (sym (eqb-true signal 0x07 is07)) (start_of_none book ends 0)
  none_by signal shift (failed other) =
      subst (λ (n : ℕ). obey (signal_of n) book ends [] ≡ stays ends (reject (0 ∷ 0x11 ∷ [])))
      (sym (eqb-true signal 0x09 (rw other at shift))) (suspend_of_none book ends 0)

  message_of_none : (m : Message) → shifts m ≡ true → m.payload ≡ [] → answer book ends m ≡ stays ends (reject (0 ∷ 0x11 ∷ []))
  unfolding shifts answer
  message_of_none m shift lists_none =
      let command = and_l (eqb m.header.mtype 0) (eqb m.header.signal 0x07 || eqb m.header.signal 0x09) shift in
      let signal = and_r (eqb m.header.mtype 0) (eqb m.header.signal 0x07 || eqb m.header.signal 0x09) shift in
      rw (command, lists_none) (none_by m.header.signal signal (whether (eqb m.header.signal 0x07)))

-- ---- What a packet shows

told_in : Answer → Told
told_in (number n) = nothing_said 0
told_in (told t reply) = t
told_in (told_each b reply) = nothing_said 0
told_in (shown s) = nothing_said 0
told_in (heard h) = nothing_said 0
told_in (stands t) = nothing_said 0
told_in (counted n) = nothing_said 0
told_in (cut_off c) = nothing_said 0

area_in : Answer → List ℕ
area_in (number n) = []
area_in (told t reply) = reply
area_in (told_each b reply) = reply
area_in (shown s) = []
area_in (heard h) = []
area_in (stands t) = []
area_in (counted n) = []
area_in (cut_off c) = c.area

rejected : (m : Message) (r : Reply) → (told_of m r).mtype ≡ 3 → is_accept r ≡ false
unfolding told_of said is_accept
rejected m silence e = refl
rejected m general_reject e = refl
rejected m (accept p) e = absurd (omega arith)
rejected m (reject p) e = refl

module _ (b : List ℕ) (size : ℕ) (saved p reply : List ℕ) (ok : book_number b ≡ 0)
    (right : saved_right (book_of b) saved ≡ true) (m : Message)
    (done : (gather size (connection_in (length (book_of b)) saved).link.gathering p).done ≡ some m) where
  step : Stepped b saved (connection_in (length (book_of b)) saved) (packet size p reply)
  step = view_step b ok saved _ (record { right = right; shows = refl }) (packet size p reply)

  taken : Told? (eqb (packet_number size reply) 0) → (packet_call b size saved p reply).told.mtype ≡ 3
      → eqb (packet_number size reply) 0 ≡ true
  unfolding call answered says told_in nothing_said
  taken (passed t) e = t
  taken (failed f) e =
      let silent : (packet_call b size saved p reply).told.mtype ≡ 0 =
      ap (λ (a : Answer). (told_in a).mtype) step.answer ∙ rw f in
      absurd (omega arith)

  module _ (t : eqb (packet_number size reply) 0 ≡ true) where
    told_seen : (packet_call b size saved p reply).told
        ≡ told_of m (answer (book_of b) (connection_in (length (book_of b)) saved).ends m).reply
    unfolding call answered says takes handled_by told_in
    told_seen = ap told_in step.answer ∙ rw (t, done)

    reply_seen : (packet_call b size saved p reply).reply
        ≡ front (payload_of (answer (book_of b) (connection_in (length (book_of b)) saved).ends m).reply) reply
    unfolding call answered says takes handled_by area_in
    reply_seen = ap area_in step.answer ∙ rw (t, done)

    ends_seen : (connection_in (length (book_of b)) (packet_call b size saved p reply).saved).ends
        ≡ (answer (book_of b) (connection_in (length (book_of b)) saved).ends m).ends
    unfolding call answered goes takes handled_by
    ends_seen = ap (λ (c : Connection). c.ends) step.next.shows ∙ rw (t, done)

  -- A packet that completes a Start or a Suspend and is answered with a reject: what the saved octets show is exactly the
  -- endpoints listed before the failed one moved, and the reply names it.
  pub packet_stopped : shifts m ≡ true → is_empty m.payload ≡ false → (packet_call b size saved p reply).told.mtype ≡ 3
      → StoppedSeen (book_of b) (connection_in (length (book_of b)) saved).ends reply m (packet_call b size saved p reply)
  unfolding told_of said payload_of
  packet_stopped shift lists e =
      let book = book_of b in
      let ends = (connection_in (length book) saved).ends in
      let t = taken (whether (eqb (packet_number size reply) 0)) e in
      let refuses = rejected m (answer book ends m).reply (sym (ap (λ (x : Told). x.mtype) (told_seen t)) ∙ e) in
      let s = message_stops book ends m shift lists refuses in
      let named = s.named ∙ two_octets m _ _ shift in
      record {
        before = s.before;
        failed = s.failed;
        behind = s.behind;
        listed = s.listed;
        might = s.might;
        moved = ends_seen t ∙ s.moved;
        might_not = s.might_not;
        named =
            record {
              told = told_seen t ∙ ap (told_of m) named;
              written = reply_seen t ∙ ap (λ (r : Reply). front (payload_of r) reply) named;
            };
      }

  -- One that lists no endpoint is rejected with SEID 0 and 11h, and moves none.
  pub packet_of_none : shifts m ≡ true → m.payload ≡ [] → (packet_call b size saved p reply).told.mtype ≡ 3
      → RejectSeen reply m 0 0x11 (packet_call b size saved p reply)
      × ((connection_in (length (book_of b)) (packet_call b size saved p reply).saved).ends
      ≡ (connection_in (length (book_of b)) saved).ends)
  unfolding stays told_of said payload_of
  packet_of_none shift lists_none e =
      let book = book_of b in
      let ends = (connection_in (length book) saved).ends in
      let t = taken (whether (eqb (packet_number size reply) 0)) e in
      let s = message_of_none book ends m shift lists_none in (
        record {
          told = told_seen t ∙ ap (λ (o : Outcome). told_of m o.reply) s;
          written = reply_seen t ∙ ap (λ (o : Outcome). front (payload_of o.reply) reply) s;
        },
        ends_seen t ∙ ap (λ (o : Outcome). o.ends) s,
      )

-- ---- The hypotheses can be met: the trace table's Start of both endpoints, of which the first is open with its channel up

unfoldable pub open_area : List ℕ
open_area =
    after trace_book (fresh_call trace_book (replicate (area_for 2) 0xDD)).saved
    (packet 48 set_configuration1 reply_area ∷ packet 48 (0x60 ∷ 0x06 ∷ 0x04 ∷ []) reply_area ∷ event Event.Up ∷ [])

open_area_right : saved_right (book_of trace_book) open_area ≡ true
unfolding open_area
open_area_right = always_legal trace_book _ trace_book_right trace_area_right _

abbrev pub start_of_both : Message
start_of_both = record { header = record { label = 8; mtype = 0; signal = 0x07 }; payload = 0x04 ∷ 0x14 ∷ [] }

pub start_stopped :
    StoppedSeen (book_of trace_book) (connection_in (length (book_of trace_book)) open_area).ends reply_area start_of_both
    (packet_call trace_book 48 open_area (0x80 ∷ 0x07 ∷ 0x04 ∷ 0x14 ∷ []) reply_area)
unfolding computed trace_book open_area shifts
start_stopped =
    packet_stopped trace_book 48 open_area (0x80 ∷ 0x07 ∷ 0x04 ∷ 0x14 ∷ []) reply_area trace_book_right open_area_right
    start_of_both
    refl refl refl refl
