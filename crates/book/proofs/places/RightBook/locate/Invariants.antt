use Rattle.std.proofs.Common.{◌≡◌, ◌-◌, length}
use Rattle.rules.specs.Book.{book_of}
use Rattle.book.specs.Places.{place_from, place_in}
use Rattle.book.proofs.Entries.{RightEntries}
use Rattle.book.proofs.places.RightBook.locate.Given as goal

abbrev pub invariant-loop-index : goal.invariant-loop-index
invariant-loop-index l =
    let left = length (book_of l.self.octets.now) - l.index in record {
      place : place_in l.seid l.self.octets.now ≡ place_from left l.seid l.self.octets.now l.at l.index;
      right : RightEntries left l.self.octets.now l.at;
    }
