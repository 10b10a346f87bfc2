-- `fresh` meets its contract: the book's number, then the area's length, then the records, the count and the gathering's mark.
use Rattle.std.proofs.Common.{◌≤◌, sym, subst, arith}
use Rattle.rules.specs.Calls.{Freshens}
use Rattle.rules.proofs.Refusing.{handed_on}
use Rattle.bridge_link.proofs.Freshened.{fresh_refused, few, short_fresh, lent_room, freshened}
use Rattle.bridge_link.proofs.fresh.Goals as goal
use Rattle.bridge_link.proofs.fresh.Goals.{After-count-entries}

-- the entries of a right book
entries_few : (c : After-count-entries) → c.count-entries.result ≤ 16
entries_few c =
    few c.args.book.now c.args.saved.now (sym c.in_ok-right.ensures.number) _ c.in_ok-right.ensures.right _
    c.count-entries.ensures

pub returns-in_err-right : goal.returns-in_err-right
returns-in_err-right c =
    subst (λ n. Freshens c.args.book.now c.args.saved.now n c.args.saved.now)
    (sym (handed_on _ c.in_err-right.field-0.0 c.from_residual.ensures.1))
    (fresh_refused c.args.book.now c.args.saved.now _ c.in_err-right.ensures.number)

pub overflow_mul-entries : goal.overflow_mul-entries
overflow_mul-entries c =
    omega (arith, entries_few (goal.at.overflow_mul-entries c).After-count-entries)

pub overflow_add-entries : goal.overflow_add-entries
overflow_add-entries c =
    omega (arith, entries_few (goal.at.overflow_add-entries c).After-count-entries)

pub returns-then-saved-entries : goal.returns-then-saved-entries
returns-then-saved-entries c =
    short_fresh c.args.book.now c.args.saved.now (sym c.in_ok-right.ensures.number) _ c.in_ok-right.ensures.right
    c.count-entries.result c.count-entries.ensures c.if-saved-entries.true

pub begin-requires : goal.begin-requires
begin-requires c =
    lent_room c.args.book.now c.args.saved.now (sym c.in_ok-right.ensures.number) _ c.in_ok-right.ensures.right
    c.count-entries.result c.count-entries.ensures c.if-saved-entries.false

pub overflow_cast-saved : goal.overflow_cast-saved
overflow_cast-saved c =
    omega (arith, entries_few (goal.at.overflow_cast-saved c).After-count-entries)

pub returns : goal.returns
returns c =
    freshened c.args.book.now c.args.saved.now (sym c.in_ok-right.ensures.number) _ c.in_ok-right.ensures.right
    c.count-entries.result c.count-entries.ensures c.if-saved-entries.false c.begin.new.records c.begin.ensures
