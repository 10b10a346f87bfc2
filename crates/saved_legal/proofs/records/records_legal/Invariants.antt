use Rattle.std.proofs.Common.{◌≡◌, ◌-◌, ◌≤◌, length}
use Rattle.rules.specs.Book.{book_of}
use Rattle.book.proofs.Entries.{RightEntries}
use Rattle.saved_legal.specs.Legal.{records_legal}
use Rattle.saved_legal.proofs.EachRecord.{legal_from}
use Rattle.saved_legal.proofs.records.records_legal.Given as goal

abbrev pub invariant-loop-index : goal.invariant-loop-index
invariant-loop-index l =
    let book = l.book.octets.now in
    let left = length (book_of book) - l.index in record {
      few : l.awaited ≤ l.index;
      right : RightEntries left book l.at;
      legal : records_legal (book_of book) (length (book_of book)) 0 l.records
          ≡ legal_from book l.at left l.awaited l.index l.records;
    }
