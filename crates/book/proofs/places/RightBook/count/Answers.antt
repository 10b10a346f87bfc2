-- `count` meets its contract: a right book is no shorter than its head, and has as many entries as it says.
use Rattle.std.proofs.Common.{sym, arith}
use Rattle.book.proofs.Entries.{right_head}
use Rattle.book.proofs.Found.{book_length}
use Rattle.book.proofs.places.RightBook.count.Goals as goal

pub returns : goal.returns
returns c =
    sym (book_length c.args.self.octets.now)

pub bounds-self-5 : goal.bounds-self-5
bounds-self-5 c =
    let h = (right_head _ c.args.self.right).headed in omega arith
