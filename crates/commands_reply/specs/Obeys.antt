-- A command's contract as one equation: what is said, and what both areas hold then, is what the definition's outcome says.
use Rattle.std.specs.Prelude.{ℕ, ◌≡◌, List, length}
use Rattle.rules.specs.Book.{Book, book_of}
use Rattle.rules.specs.Endpoints.{Ends}
use Rattle.rules.specs.Saved.{ends_in}
use Rattle.rules.specs.Commands.{Outcome}
use Rattle.commands_reply.specs.Answers.{Did, did}
use Rattle.commands_reply.specs.declared.Said.{Said}

-- the endpoints that the records show
abbrev pub ends_of : List ℕ → List ℕ → Ends
ends_of book records = ends_in (length (book_of book)) records

abbrev pub Obeys : (Book → Ends → List ℕ → Outcome) → List ℕ → List ℕ → List ℕ → List ℕ → Said → List ℕ → List ℕ → Type 0
Obeys command book records payload reply said records' reply' =
    ◌≡◌ {A = Did} (record { said = said; records = records'; reply = reply' })
    (did (command (book_of book) (ends_of book records) payload) records reply)
