-- What is done at the endpoint that was met where its configuration stays: the head alone is written, which stores the endpoints
-- with the one moved.
use Rattle.std.proofs.Common.{◌≡◌, ℕ, ◌*◌, Bool, true, false, ◌&&◌, eqb, List, [], ◌∷◌, length, get_or, Some, sym, refl, ap, ◌∙◌}
use Rattle.std.proofs.Common.{eqb-true}
use Rattle.rules.specs.Octets.{front}
use Rattle.rules.specs.Elements.{items, has}
use Rattle.rules.specs.Book.{Entry, book_of, is_source}
use Rattle.rules.specs.Endpoints.{awaiting, takes_delay, with_delay, opened, moved_by, leaving, end_at}
use Rattle.rules.specs.Saved.{record_room, head_in, head_octets, ends_in, pair_in, record_at}
use Rattle.rules.specs.Commands.{accept, reject, Outcome, moves, rejects, length_right, named, open_at, leave_at, delay_at, obey}
use Rattle.rules.specs.Host.{payload_of}
use Rattle.commands_reply.specs.Answers.{said_of}
use Rattle.commands_reply.specs.declared.Said.{Said}
use Rattle.rules.specs.declared.State.{State}
use Rattle.rules.specs.declared.State.TheVariants.{Closing, Aborting}
use Rattle.rules.specs.declared.Head.{Head}
use Rattle.rules.specs.declared.Signal.{Signal}
use Rattle.rules.specs.declared.Signal.TheVariants.{OpenUp, Close, Abort, DelayReport}
use Rattle.octets.specs.Patch.{patch}
use Rattle.book.specs.declared.places.Place.{Place}
use Rattle.saved.specs.Records.{config_size_at, config_at}
use Rattle.commands_reply.specs.Obeys.{ends_of, Obeys}
use Rattle.commands_checks.specs.Named.{Named}
use Rattle.commands_checks.proofs.Meeting.{entry_in, stands}
use Rattle.commands_checks.proofs.Acting.{did_say, did_move}
use Rattle.commands_stream.specs.Left.{left_at}
use Rattle.saved.proofs.HeadMoved.{moved_stored}
use Rattle.commands_stream.proofs.HeadStored.{left_stored}

module _ {signal : Signal} {book records p reply : List ℕ} {at : Place} (call : Named signal book records p reply at)
    (on : ℕ → Entry → Outcome)
    (is : obey signal (book_of book) (ends_of book records) p ≡ named signal (book_of book) (ends_of book records) p on) where
  -- the head moved, the configuration as it was
  did_head : (move : Head → Head) {h h' : Head} {said : Said} {records' : List ℕ}
      → on at.index (entry_in book p at)
      ≡ moves (ends_of book records) at.index (moved_by move (end_at (ends_of book records) at.index))
      → h ≡ head_in (record_at at.index records) → h' ≡ move h → said ≡ said_of (accept [])
      → records' ≡ patch (at.index * record_room) (head_octets h' (config_size_at at.index records)) records
      → Obeys (obey signal) book records p reply said records' reply
  did_head move o got moved s w =
      did_move call on is (moved_by move (end_at (ends_of book records) at.index)) o s
      (w
      ∙ ap (λ (x : Head). patch (at.index * record_room) (head_octets x (config_size_at at.index records)) records)
      (moved ∙ ap move got)
      ∙ moved_stored (length (book_of book)) at.index records (stands call).placed.counted call.serves.held move)

-- ---- Open

module _ {book records p reply : List ℕ} {at : Place} (call : Named OpenUp book records p reply at) {count : ℕ} {b : Bool}
    (counts : count ≡ length (book_of book)) (none : b ≡ eqb (awaiting (ends_in count records)) 0) where
  test : eqb (awaiting (ends_of book records)) 0 ≡ b
  test = sym (none ∙ ap (λ (k : ℕ). eqb (awaiting (ends_in k records)) 0) counts)

  pub open_refused : {said : Said} {reply' : List ℕ} → b ≡ false
      → said ≡ said_of (reject (0x31 ∷ [])) → reply' ≡ front (0x31 ∷ []) reply
      → Obeys (obey OpenUp) book records p reply said records reply'
  unfolding obey open_at rejects payload_of
  open_refused f s w =
      did_say call (open_at (ends_of book records)) refl (rejects OpenUp 0 0x31) (rw (test, f)) s w

  pub open_moves : b ≡ true → {h h' : Head} → h ≡ head_in (record_at at.index records) → h' ≡ opened h
      → {said : Said} {records' : List ℕ} → said ≡ said_of (accept [])
      → records' ≡ patch (at.index * record_room) (head_octets h' (config_size_at at.index records)) records
      → Obeys (obey OpenUp) book records p reply said records' reply
  unfolding obey open_at
  open_moves t loads opens s w =
      did_head call (open_at (ends_of book records)) refl opened (rw (test, t)) loads opens s w

-- ---- Close and Abort

module _ {signal : Signal} {book records p reply : List ℕ} {at : Place} (call : Named signal book records p reply at) (to : State)
    (is : obey signal (book_of book) (ends_of book records) p
    ≡ named signal (book_of book) (ends_of book records) p (leave_at to (ends_of book records))) where
  leaves : {said : Said} {records' : List ℕ} → said ≡ said_of (accept []) → records' ≡ left_at to at.index records
      → Obeys (obey signal) book records p reply said records' reply
  unfolding leave_at
  leaves s w =
      did_move call (leave_at to (ends_of book records)) is (leaving to (end_at (ends_of book records) at.index)) refl s
      (w ∙ left_stored (length (book_of book)) at.index records (stands call).placed.counted call.serves.held to)

module _ {book records p reply : List ℕ} {at : Place} {said : Said} {records' : List ℕ} where
  pub closes : Named Close book records p reply at → said ≡ said_of (accept []) → records' ≡ left_at Closing at.index records
      → Obeys (obey Close) book records p reply said records' reply
  unfolding obey
  closes call = leaves call Closing refl

  pub aborts : Named Abort book records p reply at → said ≡ said_of (accept []) → records' ≡ left_at Aborting at.index records
      → Obeys (obey Abort) book records p reply said records' reply
  unfolding obey
  aborts call = leaves call Aborting refl

-- ---- Delay Report

pub three : {book records p reply : List ℕ} {at : Place} → Named DelayReport book records p reply at → length p ≡ 3
unfolding length_right
three {p = p} call = eqb-true (length p) 3 (stands call).long

module _ {book records p reply : List ℕ} {at : Place} (call : Named DelayReport book records p reply at) {b : Bool} {q : List ℕ}
    (there : q ≡ config_at at.index records) (takes : b ≡ is_source at.kind && has 8 (items q)) where
  taken : takes_delay (entry_in book p at) (end_at (ends_of book records) at.index) ≡ b
  unfolding takes_delay
  taken =
      ap (takes_delay (entry_in book p at)) (stands call).shows
      ∙ sym (takes ∙ ap (λ (x : List ℕ). is_source at.kind && has 8 (items x)) there)

  pub delay_refused : {said : Said} {reply' : List ℕ} → b ≡ false
      → said ≡ said_of (reject (0x19 ∷ [])) → reply' ≡ front (0x19 ∷ []) reply
      → Obeys (obey DelayReport) book records p reply said records reply'
  unfolding obey delay_at rejects payload_of
  delay_refused f s w =
      did_say call (delay_at (ends_of book records) p) refl (rejects DelayReport 0 0x19) (rw (taken, f)) s w

  pub delay_moves : b ≡ true → {h h' : Head} → h ≡ head_in (record_at at.index records)
      → h' ≡ with_delay (Some (pair_in (get_or p 1 0) (get_or p 2 0))) h → {said : Said} {records' : List ℕ}
      → said ≡ said_of (accept [])
      → records' ≡ patch (at.index * record_room) (head_octets h' (config_size_at at.index records)) records
      → Obeys (obey DelayReport) book records p reply said records' reply
  unfolding obey delay_at
  delay_moves t loads delays s w =
      did_head call (delay_at (ends_of book records) p) refl (with_delay (Some (pair_in (get_or p 1 0) (get_or p 2 0))))
      (rw (taken, t)) loads delays s w
