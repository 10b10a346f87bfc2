-- What a command may count on: a right book, the records of a legal connection over it, room for every reply and a payload
-- within its limit. The public call establishes it, and each command's outcome keeps it.
use Rattle.std.specs.Prelude.{ℕ, ◌≤◌, ◌≡◌, List, true, length, leb}
use Rattle.rules.specs.Book.{book_number, book_of}
use Rattle.rules.specs.Endpoints.{legal_ends, awaiting}
use Rattle.rules.specs.Saved.{ends_in}
use Rattle.saved.specs.Held.{Held}

pub record Serves (book records payload reply : List ℕ) : Type 0 where
  pub right : book_number book ≡ 0
  pub held : Held (length (book_of book)) records
  pub lawful : legal_ends (book_of book) (ends_in (length (book_of book)) records) ≡ true
  pub one : leb (awaiting (ends_in (length (book_of book)) records)) 1 ≡ true
  pub short : length payload ≤ 512
  pub room : 64 ≤ length reply
