-- `check_entry` meets its contract: each return is the chain of tests of `entry_number` as far as it was passed, a law of
-- `OneEntry`.
use Rattle.std.proofs.Common.{ℕ, ◌≡◌, ◌+◌, ◌-◌, ◌∙◌, List, Bool, true, false, not, length, take, drop, get_or, if◌then◌else◌}
use Rattle.std.proofs.Common.{arith}
use borrow.Author.Tests.{lt-ltb, le-ltb}
use Rattle.rules.specs.Elements.{items}
use Rattle.rules.specs.Book.{list_right}
use Rattle.octets.specs.Patch.{part}
use Rattle.book.specs.Entries.{entry_number}
use Rattle.book_check.proofs.OneEntry.{entry_cut, seid_wrong, kind_wrong, headed}
use Rattle.book_check.proofs.check_entry.Goals as goal
use Rattle.book_check.proofs.check_entry.Goals.{After-list_right, then-kind-ne0-via-then-kind-ne0}
use Rattle.book_check.proofs.check_entry.Goals.{then-kind-ne0-via-else-kind-ne0+then-kind-gt2}

-- the list as it is lent to its check, and what that says
list_told : (media from size : ℕ) (b l : List ℕ) (r t : Bool) → l ≡ part from size b → r ≡ list_right media (items l) → r ≡ t
    → list_right media (items (take size (drop from b))) ≡ t
unfolding part
list_told media from size b l r t e f g = cc

-- the list was told right or wrong
told_as : (c : After-list_right) (t : Bool) → c.list_right.result ≡ t
    → (if not t then 7 else 0) ≡ entry_number c.args.before c.args.book.now c.args.at
told_as c t e =
    (simp (
      le-ltb _ _ c.if-size-gt64.false,
      le-ltb (length c.args.book.now - (c.args.at + 3)) (get_or c.args.book.now (c.args.at + 2) 0) (omega arith),
      list_told _ _ _ _ _ _ _ c.part.ensures c.list_right.ensures e,
    ))
    ∙ headed c.args.before c.args.book.now c.args.at (omega arith) (omega arith) (omega arith) (omega arith) (omega arith)

pub returns-then-book-at-lt3 : goal.returns-then-book-at-lt3
returns-then-book-at-lt3 c =
    entry_cut c.args.before c.args.book.now c.args.at (omega arith)

pub returns-then-seid-before : goal.returns-then-seid-before
returns-then-seid-before c =
    seid_wrong c.args.before c.args.book.now c.args.at (omega arith) (λ up low. omega (arith, c.then-seid-before.either))

pub returns-then-kind-ne0 : goal.returns-then-kind-ne0
returns-then-kind-ne0 c =
    kind_wrong c.args.before c.args.book.now c.args.at (omega arith) (omega arith) (omega arith)
    (λ even few. elim c.then-kind-ne0.branch [
      | then-kind-ne0-via-then-kind-ne0 w ↦ w.if-kind-ne0.true even
      | then-kind-ne0-via-else-kind-ne0+then-kind-gt2 w ↦ omega (arith, w.if-kind-gt2.true, few)
    ])

pub returns-then-size-gt64 : goal.returns-then-size-gt64
returns-then-size-gt64 c =
    (simp (lt-ltb _ _ c.if-size-gt64.true))
    ∙ headed c.args.before c.args.book.now c.args.at (omega arith) (omega arith) (omega arith) (omega arith) (omega arith)

pub returns-then-book-list : goal.returns-then-book-list
returns-then-book-list c =
    (simp (le-ltb _ _ c.if-size-gt64.false, lt-ltb _ _ c.if-book-list.true))
    ∙ headed c.args.before c.args.book.now c.args.at (omega arith) (omega arith) (omega arith) (omega arith) (omega arith)

pub returns-then-not-list_right : goal.returns-then-not-list_right
returns-then-not-list_right c =
    told_as (goal.at.returns-then-not-list_right c).After-list_right false c.if-not-list_right.true

pub returns : goal.returns
returns c =
    told_as (goal.at.returns c).After-list_right true c.if-not-list_right.false
