-- What every command's proof ends with: what an outcome makes of the areas.
use Rattle.std.proofs.Common.{◌≡◌, ℕ, List, [], length, set, sym, refl, ap, ◌∙◌}
use Rattle.rules.specs.Octets.{front}
use Rattle.rules.specs.Book.{Book, book_of}
use Rattle.rules.specs.Endpoints.{Endpoint, Ends}
use Rattle.rules.specs.Saved.{ends_in, store_ends}
use Rattle.rules.specs.Commands.{Reply, accept, Outcome, stays, moves}
use Rattle.rules.specs.Host.{payload_of}
use Rattle.commands_reply.specs.Answers.{said_of, did}
use Rattle.commands_reply.specs.declared.Said.{Said}
use Rattle.rules.proofs.SavedReads.{ends_kept}
use Rattle.saved.specs.Held.{Held}
use Rattle.saved.specs.Serves.{Serves}
use Rattle.commands_reply.specs.Obeys.{ends_of, Obeys}

-- records that no endpoint moved in
pub unmoved : (n : ℕ) (l : List ℕ) → Held n l → l ≡ store_ends (ends_in n l) l
unmoved n l held = sym (ends_kept n l held.room held.right held.octets)

module _ (command : Book → Ends → List ℕ → Outcome) where
  pub obeys : (book l p area : List ℕ) (ends : Ends) (r : Reply) {said : Said} {l' area' : List ℕ}
      → command (book_of book) (ends_of book l) p ≡ stays ends r → said ≡ said_of r → l' ≡ store_ends ends l
      → area' ≡ front (payload_of r) area → Obeys command book l p area said l' area'
  unfolding did stays
  obeys book l p area ends r e s w a =
      (λ k. record { said = s k; records = w k; reply = a k }) ∙ sym (ap (λ (o : Outcome). did o l area) e)

  module _ {book l p area : List ℕ} (serves : Serves book l p area) where
    -- a command that moves nothing leaves every octet of the records
    pub obeys_stay : (r : Reply) {said : Said} {area' : List ℕ}
        → command (book_of book) (ends_of book l) p ≡ stays (ends_of book l) r → said ≡ said_of r
        → area' ≡ front (payload_of r) area
        → Obeys command book l p area said l area'
    obeys_stay r e s a =
        obeys book l p area (ends_of book l) r e s (unmoved (length (book_of book)) l serves.held) a

    -- an accepted move stores the endpoints with one of them changed, and writes no reply
    pub obeys_move : (i : ℕ) (e : Endpoint) {said : Said} {l' : List ℕ}
        → command (book_of book) (ends_of book l) p ≡ moves (ends_of book l) i e → said ≡ said_of (accept [])
        → l' ≡ store_ends (set (ends_of book l) i e) l → Obeys command book l p area said l' area
    unfolding moves stays payload_of front
    obeys_move i e m s w = obeys book l p area (set (ends_of book l) i e) (accept []) m s w refl
