-- What Discover shows, by the octets of the book and the records.
use Rattle.std.specs.Prelude.{ℕ, List, length}
use Rattle.rules.specs.Book.{book_of}
use Rattle.rules.specs.Saved.{ends_in}
use Rattle.rules.specs.Commands.{discovered}

abbrev pub all : List ℕ → List ℕ → List ℕ
all book records = discovered (book_of book) (ends_in (length (book_of book)) records)
