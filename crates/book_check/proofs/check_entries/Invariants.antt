use Rattle.std.proofs.Common.{◌≡◌, ◌-◌, ◌≤◌, length, drop, get_or}
use Rattle.rules.specs.Book.{entries_number}
use Rattle.book_check.proofs.check_entries.Given as goal

abbrev pub invariant-loop-i : goal.invariant-loop-i
invariant-loop-i l = record {
  inside : l.at ≤ length l.book;
  number : entries_number (get_or l.book 5 0) 0 (drop 6 l.book)
      ≡ entries_number (get_or l.book 5 0 - l.i) l.before (drop l.at l.book);
}
