-- `begin` meets its contract: at a turn the entries that are left are right, and the records that are written make up the whole
-- with those that are left.
use Rattle.std.proofs.Common.{◌≡◌, ◌+◌, ◌-◌, length, get_or, arith}
use Rattle.rules.specs.Book.{book_of}
use Rattle.rules.specs.Endpoints.{idle_head}
use Rattle.book.proofs.Entries.{first_entry, other_entries}
use Rattle.saved_fresh.proofs.Beginning.{all_left, none_begun, one_begun, all_begun}
use Rattle.saved_fresh.proofs.begin.Goals as goal

pub loop-i-init : goal.loop-i-init
loop-i-init c =
    let book = c.args.book.octets.now in record {
      right = all_left book c.args.book.right;
      begun = none_begun book c.args.records.now;
    }

pub entry-entry-requires : goal.entry-entry-requires
entry-entry-requires c =
    let n = length (book_of c.args.book.octets.now) in
    first_entry (n - (c.loop-i.i + 1)) (n - c.loop-i.i) _ c.loop-i.at (omega arith) c.loop-i.invariant.right

pub loop-i-preserved : goal.loop-i-preserved
loop-i-preserved c =
    let e = c.entry-entry.ensures in
    let n = length (book_of c.args.book.octets.now) in
    let rest = n - (c.loop-i.i + 1) in
    let made : c.idle.result ≡ idle_head (record { 0 = get_or c.args.book.octets.now c.loop-i.at 0 }) = cc in
    rw (e.from, e.size) (record {
      right = other_entries rest (n - c.loop-i.i) _ c.loop-i.at (omega arith) c.loop-i.invariant.right;
      begun = one_begun rest (n - c.loop-i.i) _ c.loop-i.at c.loop-i.i c.loop-i.records c.set.new.records _ (omega arith)
          (omega arith) made c.set.ensures c.loop-i.invariant.begun;
    })

pub returns : goal.returns
returns c =
    all_begun _ _ c.loop-i.at c.loop-i.i c.loop-i.records (omega arith) c.loop-i.invariant.begun
