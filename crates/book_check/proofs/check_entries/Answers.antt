-- `check_entries` meets its contract: what is left at a turn has the number of all.
use Rattle.std.proofs.Common.{◌≡◌, ◌+◌, ◌-◌, drop, get_or, sym, ap, ◌∙◌, arith}
use Rattle.rules.specs.Book.{entries_number}
use Rattle.rules.proofs.Refusing.{never_0, handed_on}
use Rattle.book.specs.Entries.{RightEntry}
use Rattle.book.proofs.Entries.{entries_end, entries_go_on, none_left, some_left, right_entry}
use Rattle.book_check.proofs.check_entries.Goals as goal
use Rattle.book_check.proofs.check_entries.Goals.{In_ok-check_entry, After-loop-i}

-- the entry that was passed
passed : (c : In_ok-check_entry) → RightEntry c.args.book.now c.loop-i.at
passed c =
    right_entry c.loop-i.before _ c.loop-i.at (sym c.in_ok-check_entry.ensures)

-- all entries were passed
all_passed : (c : After-loop-i)
    → entries_number (get_or c.args.book.now 5 0) 0 (drop 6 c.args.book.now)
    ≡ entries_number 0 c.loop-i.before (drop c.loop-i.at c.args.book.now)
all_passed c =
    c.loop-i.invariant.number
    ∙ ap (λ n. entries_number n c.loop-i.before (drop c.loop-i.at c.args.book.now)) (omega arith)

pub returns-in_err-check_entry : goal.returns-in_err-check_entry
returns-in_err-check_entry c =
    let refusal = c.in_err-check_entry.field-0.0 in
    let n = get_or c.args.book.now 5 0 in
    handed_on _ refusal c.from_residual.ensures.1
    ∙ c.in_err-check_entry.ensures
    ∙ entries_end (n - (c.loop-i.i + 1)) (n - c.loop-i.i) c.loop-i.before c.args.book.now c.loop-i.at (omega arith)
    (λ e. never_0 refusal (c.in_err-check_entry.ensures ∙ e))
    ∙ sym c.loop-i.invariant.number

pub bounds-book-at : goal.bounds-book-at
bounds-book-at c =
    let r = passed (goal.at.bounds-book-at c).In_ok-check_entry in omega (arith, r.inside)

pub bounds-book-at-in-loop-i : goal.bounds-book-at-in-loop-i
bounds-book-at-in-loop-i c =
    let r = passed (goal.at.bounds-book-at-in-loop-i c).In_ok-check_entry in omega (arith, r.inside)

pub loop-i-preserved : goal.loop-i-preserved
loop-i-preserved c =
    let r = passed (goal.at.loop-i-preserved c).In_ok-check_entry in
    let n = get_or c.args.book.now 5 0 in record {
      inside = r.inside;
      number = c.loop-i.invariant.number
          ∙ entries_go_on (n - (c.loop-i.i + 1)) (n - c.loop-i.i) c.loop-i.before c.args.book.now c.loop-i.at (omega arith)
          (sym c.in_ok-check_entry.ensures);
    }

pub returns-then-at-book : goal.returns-then-at-book
returns-then-at-book c =
    sym (all_passed (goal.at.returns-then-at-book c).After-loop-i
    ∙ none_left c.loop-i.before _ c.loop-i.at c.if-at-book.true)

pub returns-else-at-book : goal.returns-else-at-book
returns-else-at-book c =
    sym (all_passed (goal.at.returns-else-at-book c).After-loop-i
    ∙ some_left c.loop-i.before _ c.loop-i.at (omega (arith, c.if-at-book.false)))
