use Rattle.std.proofs.Common.{◌≡◌, ◌-◌, length}
use Rattle.rules.specs.Book.{book_of}
use Rattle.book.proofs.Entries.{RightEntries}
use Rattle.saved_fresh.proofs.Beginning.{begun_by, begun_all}
use Rattle.saved_fresh.proofs.begin.Given as goal

abbrev pub invariant-loop-i : goal.invariant-loop-i
invariant-loop-i l =
    let book = l.book.octets.now in
    let left = length (book_of book) - l.i in record {
      right : RightEntries left book l.at;
      begun : begun_by left book l.at l.i l.records ≡ begun_all book l.initial.records;
    }
