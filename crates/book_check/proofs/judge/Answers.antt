-- `judge` meets its contract: each return is the chain of tests of `book_number` as far as it was passed.
use Rattle.std.proofs.Common.{ℕ, ◌≡◌, ◌≤◌, ◌∙◌, sym, List, Bool, true, false, not, take, drop, get_or, if◌then◌else◌, arith}
use borrow.Author.Tests.{lt-ltb, le-ltb}
use Rattle.rules.specs.Octets.{between, same_octets}
use Rattle.rules.specs.Book.{entries_number, book_number}
use Rattle.rules.proofs.Tests.{Told?, told, passed, failed, between_least, between_most, between_both}
use Rattle.octets.specs.Patch.{part}
use Rattle.book_check.proofs.judge.Goals as goal
use Rattle.book_check.proofs.judge.Goals.{Else-not-same-2}

-- a part of the book was compared with a word
compared : (from size : ℕ) (b l word : List ℕ) (r t : Bool) → l ≡ part from size b → r ≡ same_octets l word → r ≡ t
    → same_octets (take size (drop from b)) word ≡ t
unfolding part
compared from size b l word r t e f g = cc

outside : (n : ℕ) → (1 ≤ n → n ≤ 16 → ⊥) → between 1 16 n ≡ false
outside n f = go (told (between 1 16 n))
  where
    go : Told? (between 1 16 n) → between 1 16 n ≡ false
    go (passed t) = absurd (f (between_least 1 16 n t) (between_most 1 16 n t))
    go (failed t) = t

counted : (n : ℕ) → (n ≡ 0 → ⊥) → n ≤ 16 → between 1 16 n ≡ true
counted n h k = between_both 1 16 n (omega (arith, h)) k

-- the word and the version were passed
named : (c : Else-not-same-2)
    → book_number c.args.book.now
    ≡ (if not (between 1 16 (get_or c.args.book.now 5 0)) then 4
    else entries_number (get_or c.args.book.now 5 0) 0 (drop 6 c.args.book.now))
unfolding book_number
named c =
    simp (
      le-ltb _ _ c.if-book-lt6.false,
      compared 0 3 _ _ _ _ _ c.part.ensures c.same.ensures c.if-not-same.false,
      compared 3 2 _ _ _ _ _ c.part-2.ensures c.same-2.ensures c.if-not-same-2.false,
    )

-- and the count
entered : (c : Else-not-same-2) → (get_or c.args.book.now 5 0 ≡ 0 → ⊥) → get_or c.args.book.now 5 0 ≤ 16
    → entries_number (get_or c.args.book.now 5 0) 0 (drop 6 c.args.book.now) ≡ book_number c.args.book.now
entered c some few = sym (named c ∙ simp (counted _ some few))

pub returns-then-book-lt6 : goal.returns-then-book-lt6
unfolding book_number
returns-then-book-lt6 c =
    simp (lt-ltb _ _ c.if-book-lt6.true)

pub returns-then-not-same : goal.returns-then-not-same
unfolding book_number
returns-then-not-same c =
    simp (
      le-ltb _ _ c.if-book-lt6.false,
      compared 0 3 _ _ _ _ _ c.part.ensures c.same.ensures c.if-not-same.true,
    )

pub returns-then-not-same-2 : goal.returns-then-not-same-2
unfolding book_number
returns-then-not-same-2 c =
    simp (
      le-ltb _ _ c.if-book-lt6.false,
      compared 0 3 _ _ _ _ _ c.part.ensures c.same.ensures c.if-not-same.false,
      compared 3 2 _ _ _ _ _ c.part-2.ensures c.same-2.ensures c.if-not-same-2.true,
    )

pub returns-then-count-eq0 : goal.returns-then-count-eq0
returns-then-count-eq0 c =
    sym (named (goal.at.returns-then-count-eq0 c).Else-not-same-2
    ∙ simp (outside (get_or c.args.book.now 5 0) (λ some few. omega (arith, c.then-count-eq0.either))))

pub returns : goal.returns
returns c = c.check_entries.ensures ∙ entered (goal.at.returns c).Else-not-same-2 (omega arith) (omega arith)
