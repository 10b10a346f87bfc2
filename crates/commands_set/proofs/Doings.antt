-- What both commands come to: the answer by what the check of the elements finds, and a configuration written with its head,
-- which are two writes of which the second stands right before the first.
use Rattle.std.proofs.Common.{◌≡◌, ℕ, ◌+◌, ◌*◌, ◌≤◌, not, eqb, List, [], length, take, drop, if◌then◌else◌, Ok, Err, Result, sym}
use Rattle.std.proofs.Common.{ap, ◌∙◌, subst, arith}
use Rattle.rules.specs.Elements.{Item}
use Rattle.rules.specs.Book.{Entry, media_type, book_of}
use Rattle.rules.specs.Endpoints.{Endpoint, Ends}
use Rattle.rules.specs.Saved.{record_room, head_room, head_octets}
use Rattle.rules.specs.Commands.{accept, Outcome, stays, moves, rejects_fault, named, obey}
use Rattle.commands_reply.specs.Answers.{said_of}
use Rattle.commands_reply.specs.declared.Said.{Said}
use Rattle.rules.specs.declared.Head.{Head}
use Rattle.rules.specs.declared.Fault.{Fault}
use Rattle.rules.specs.declared.Rule.{Rule}
use Rattle.rules.specs.declared.Signal.{Signal}
use Rattle.rules.proofs.Tests.{Told?, told, passed, failed}
use Rattle.rules.proofs.ShortReplies.{caps_short}
use Rattle.rules.proofs.RightBook.{entry_listed}
use Rattle.elements_reader.proofs.InOrder.{transport_first}
use Rattle.octets.specs.Patch.{patch, part}
use Rattle.octets.proofs.Patches.{patch_comm, patch_append}
use Rattle.elements.specs.Walks.{walked_as, check_of}
use Rattle.elements.specs.declared.marks.Marks.{Marks}
use Rattle.elements.proofs.Judging.{check_clean}
use Rattle.elements_stored.specs.Stores.{MarksFit}
use Rattle.elements_stored.proofs.Stores.{marks_fit}
use Rattle.book.specs.declared.places.Place.{Place}
use Rattle.saved.proofs.OneStore.{stored_one}
use Rattle.commands_reply.specs.Obeys.{ends_of, Obeys}
use Rattle.commands_checks.specs.Named.{Named}
use Rattle.commands_checks.proofs.Meeting.{entry_in, stands}
use Rattle.commands_checks.proofs.Acting.{did_move}
use Rattle.commands_set.specs.Kept.{Offers, kept_octets}

-- what is answered by what the check of the elements finds: its fault, or where there is none the outcome o
abbrev pub answered : Signal → Ends → Outcome → Result Marks Fault → Outcome
answered signal ends o (Err f) = stays ends (rejects_fault signal f)
answered signal ends o (Ok m) = o

pub fault_answered : (signal : Signal) (f : Fault) (m : Marks) (ends : Ends) (o : Outcome) {w : Result Marks Fault}
    → walked_as f m ≡ w
    → (if not (eqb f.code 0) then stays ends (rejects_fault signal f) else o) ≡ answered signal ends o w
unfolding walked_as
fault_answered signal f m ends o e = go (told (eqb f.code 0)) ∙ ap (answered signal ends o) e
  where
    go : Told? (eqb f.code 0)
        → (if not (eqb f.code 0) then stays ends (rejects_fault signal f) else o)
        ≡ answered signal ends o (walked_as f m)
    go (passed z) = rw z
    go (failed z) = rw z

-- the marks of a list that passes its check fit it
pub checked_fit : (rule : Rule) (caps : List Item) (p : List ℕ) (at : ℕ) {m : Marks} → check_of rule caps p at ≡ Ok m
    → MarksFit p m
checked_fit rule caps p at {m} e = subst (MarksFit p) (sym (check_clean rule caps p at m (sym e)).1) (marks_fit p at)

module _ {signal : Signal} {book records p reply : List ℕ} {at : Place} (call : Named signal book records p reply at) where
  -- the list of the endpoint that was met
  pub few : length (part at.from at.size book) ≤ 64
  unfolding part
  few = caps_short (entry_in book p at) (stands call).placed.right

  -- it is an offer
  pub listed : Offers book at
  unfolding part
  listed =
      record {
        inside = (stands call).placed.inside;
        first = transport_first (media_type at.kind) (take at.size (drop at.from book))
            (entry_listed (entry_in book p at) (stands call).placed.right);
      }

  -- the endpoint is moved, and its record is written
  pub moved : (on : ℕ → Entry → Outcome)
      → obey signal (book_of book) (ends_of book records) p ≡ named signal (book_of book) (ends_of book records) p on
      → (h : Head) (config : List ℕ) {e : Endpoint} {said : Said} {records' : List ℕ}
      → on at.index (entry_in book p at) ≡ moves (ends_of book records) at.index e
      → record { head = h; config = config } ≡ e → length config ≤ 64 → said ≡ said_of (accept [])
      → records' ≡ patch (at.index * record_room) (kept_octets h config) records
      → Obeys (obey signal) book records p reply said records' reply
  unfolding kept_octets
  moved on is h config outcome same short accepts wrote =
      did_move call on is (record { head = h; config = config })
      (outcome ∙ ap (moves (ends_of book records) at.index) (sym same)) accepts
      (wrote ∙ stored_one (length (book_of book)) at.index records h config (stands call).placed.counted
      call.serves.held short)

-- ---- The configuration, and then the head before it

pub kept_by : (i : ℕ) (h : Head) (config l b b' : List ℕ) (n : ℕ) → (i + 1) * record_room ≤ length l → length config ≤ 64
    → b ≡ patch (i * record_room + head_room) config l → n ≡ length config → b' ≡ patch (i * record_room) (head_octets h n) b
    → b' ≡ patch (i * record_room) (kept_octets h config) l
unfolding kept_octets head_octets
kept_by i h config l b b' n inside short wrote long set =
    let octets = head_octets h (length config) in
    set
    ∙ (λ j. patch (i * record_room) (head_octets h (long j)) (wrote j))
    ∙ sym (patch_comm (i * record_room) octets (i * record_room + head_room) config l (omega arith) (omega arith))
    ∙ patch_append (i * record_room) octets config l (omega arith)
