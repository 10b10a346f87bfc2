-- What a command on one endpoint leads to, from what is done there: the checks passed, so that the outcome is the command's own.
use Rattle.std.proofs.Common.{◌≡◌, ℕ, List, [], set, ◌∙◌}
use Rattle.rules.specs.Octets.{front}
use Rattle.rules.specs.Book.{Entry, book_of}
use Rattle.rules.specs.Endpoints.{Endpoint}
use Rattle.rules.specs.Saved.{store_ends}
use Rattle.rules.specs.Commands.{Reply, accept, Outcome, stays, moves, named, obey}
use Rattle.rules.specs.Host.{payload_of}
use Rattle.commands_reply.specs.Answers.{said_of}
use Rattle.commands_reply.specs.declared.Said.{Said}
use Rattle.rules.specs.declared.Signal.{Signal}
use Rattle.book.specs.declared.places.Place.{Place}
use Rattle.commands_reply.specs.Obeys.{ends_of, Obeys}
use Rattle.commands_reply.proofs.Serving.{obeys_stay, obeys_move}
use Rattle.commands_checks.specs.Named.{Named}
use Rattle.commands_checks.proofs.Meeting.{entry_in, acts_as}

-- `is` says what the command does at its endpoint: by computing at each signal
module _ {signal : Signal} {book records p reply : List ℕ} {at : Place} (call : Named signal book records p reply at)
    (on : ℕ → Entry → Outcome)
    (is : obey signal (book_of book) (ends_of book records) p ≡ named signal (book_of book) (ends_of book records) p on) where
  -- nothing is moved
  pub did_say : (r : Reply) {said : Said} {reply' : List ℕ} → on at.index (entry_in book p at) ≡ stays (ends_of book records) r
      → said ≡ said_of r → reply' ≡ front (payload_of r) reply → Obeys (obey signal) book records p reply said records reply'
  did_say r e s a =
      obeys_stay (obey signal) call.serves r (is ∙ acts_as signal book records p on call.met ∙ e) s a

  -- the endpoint is moved
  pub did_move : (e : Endpoint) {said : Said} {records' : List ℕ}
      → on at.index (entry_in book p at) ≡ moves (ends_of book records) at.index e → said ≡ said_of (accept [])
      → records' ≡ store_ends (set (ends_of book records) at.index e) records
      → Obeys (obey signal) book records p reply said records' reply
  did_move e m s w =
      obeys_move (obey signal) call.serves at.index e (is ∙ acts_as signal book records p on call.met ∙ m) s w
