-- `records_legal` meets its contract: what is left at a turn, with the channels awaited so far, is legal where all is.
use Rattle.std.proofs.Common.{Some, ◌+◌, ◌-◌, ◌≤◌, ◌≡◌, length, refl, sym, subst, ◌∙◌, arith}
use Rattle.rules.specs.Book.{book_of}
use Rattle.elements_reader.specs.Orders.{TransportFirst}
use Rattle.book.proofs.Entries.{RightEntries, first_entry, other_entries, right_head}
use Rattle.book.proofs.Found.{all_counted}
use Rattle.book.specs.Entries.{RightEntry}
use Rattle.rules.specs.Saved.{record_at}
use Rattle.saved_legal.specs.Legal.{awaited_in}
use Rattle.saved_legal.proofs.EachRecord.{entry_first, entry_at, at_hand, turn_ends, turn_few, turn_goes_on, all_left}
use Rattle.saved_legal.proofs.EachRecord.{none_left}
use Rattle.saved_legal.proofs.records.records_legal.Goals as goal
use Rattle.saved_legal.proofs.records.records_legal.Goals.{In-loop-index, After-awaited_by, In-Some}

-- the entry at hand
entry : (c : In-loop-index) → RightEntry c.args.book.octets.now c.loop-index.at
entry c =
    let n = length (book_of c.args.book.octets.now) in
    first_entry (n - (c.loop-index.index + 1)) (n - c.loop-index.index) _ c.loop-index.at (omega arith)
    c.loop-index.invariant.right

-- what the test of its record says
judged : (c : After-awaited_by) → c.awaited_by.result
    ≡ awaited_in (entry_at c.args.book.octets.now c.loop-index.at) (record_at c.loop-index.index c.args.records.now)
judged c =
    let e = c.entry-entry.ensures in
    at_hand _ c.loop-index.at c.loop-index.index c.args.records.now _ _ _ _ c.at-slot.ensures e.seid e.kind e.list
    c.awaited_by.ensures

pub loop-index-init : goal.loop-index-init
loop-index-init c =
    let book = c.args.book.octets.now in record {
      few = omega arith;
      right = subst (λ n. RightEntries n book 6) (all_counted book _ refl) (right_head book c.args.book.right).entries;
      legal = all_left book c.args.records.now;
    }

pub entry-entry-requires : goal.entry-entry-requires
entry-entry-requires c =
    entry (goal.at.entry-entry-requires c).In-loop-index

pub awaited_by-requires : goal.awaited_by-requires
awaited_by-requires c =
    subst TransportFirst (sym c.entry-entry.ensures.list)
    (entry_first _ c.loop-index.at (entry (goal.at.awaited_by-requires c).In-loop-index))

pub returns-in_default : goal.returns-in_default
returns-in_default c =
    let n = length (book_of c.args.book.octets.now) in
    let illegal = sym (judged (goal.at.returns-in_default c).After-awaited_by) ∙ c.in_default.is in
    sym (c.loop-index.invariant.legal
    ∙ turn_ends (n - (c.loop-index.index + 1)) (n - c.loop-index.index) _ c.loop-index.at c.loop-index.awaited
    c.loop-index.index c.args.records.now (omega arith) illegal)

-- where it is legal
told : (c : In-Some)
    → awaited_in (entry_at c.args.book.octets.now c.loop-index.at) (record_at c.loop-index.index c.args.records.now)
    ≡ Some c.in-Some.more
told c = sym (judged (goal.at.loop-index-preserved c).After-awaited_by) ∙ c.in-Some.is

few : (c : In-Some) → c.in-Some.more ≤ 1
few c =
    let n = length (book_of c.args.book.octets.now) in
    turn_few (n - (c.loop-index.index + 1)) (n - c.loop-index.index) _ c.loop-index.at c.loop-index.awaited c.loop-index.index
    c.args.records.now (omega arith) _ (told c)

pub overflow_add-awaited : goal.overflow_add-awaited
overflow_add-awaited c =
    omega (arith, few c)

pub loop-index-preserved : goal.loop-index-preserved
loop-index-preserved c =
    let e = c.entry-entry.ensures in
    let n = length (book_of c.args.book.octets.now) in
    let rest = n - (c.loop-index.index + 1) in
    rw (e.from, e.size) (record {
      few = omega (arith, few c);
      right = other_entries rest (n - c.loop-index.index) _ c.loop-index.at (omega arith) c.loop-index.invariant.right;
      legal = c.loop-index.invariant.legal
          ∙ turn_goes_on rest (n - c.loop-index.index) _ c.loop-index.at c.loop-index.awaited c.loop-index.index
          c.args.records.now (omega arith) _ (told c);
    })

pub returns : goal.returns
returns c =
    sym (c.loop-index.invariant.legal
    ∙ none_left _ c.loop-index.at _ c.loop-index.awaited c.loop-index.index c.args.records.now (omega arith))
