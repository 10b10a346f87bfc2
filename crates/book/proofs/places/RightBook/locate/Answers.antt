-- `locate` meets its contract: the entries left at a turn are right, and the place among them is the place in the book.
use Rattle.std.proofs.Common.{ℕ, true, false, ◌≡◌, ◌+◌, ◌-◌, length, refl, sym, ap, ◌∙◌, subst, arith}
use borrow.Author.Tests.{eqb-true, eqb-false}
use lib.Dec.{eqb}
use Rattle.rules.specs.declared.OurSeid.{OurSeid}
use Rattle.rules.specs.Book.{book_of}
use Rattle.book.specs.Places.{place_from, place_in}
use Rattle.book.proofs.Entries.{RightEntries, first_entry, other_entries, right_head}
use Rattle.book.proofs.Found.{place_here, place_later, place_none, all_counted}
use Rattle.book.proofs.places.RightBook.locate.Goals as goal
use Rattle.book.proofs.places.RightBook.locate.Goals.{In-loop-index}

-- the entry at hand has the SEID, or it does not
named : {x s : OurSeid} {n : ℕ} → x ≡ record { 0 = n } → eqb x.0 s.0 ≡ true → n ≡ s.0
named {x} {s} {n} e t = sym (ap (λ (y : OurSeid). y.0) e) ∙ eqb-true x.0 s.0 t

other : {x s : OurSeid} {n : ℕ} → x ≡ record { 0 = n } → eqb x.0 s.0 ≡ false → n ≡ s.0 → ⊥
other {x} {s} {n} e f h = eqb-false x.0 s.0 f (ap (λ (y : OurSeid). y.0) e ∙ h)

pub loop-index-init : goal.loop-index-init
unfolding place_in
loop-index-init c =
    let all = all_counted c.args.self.octets.now _ refl in record {
      place = ap (λ n. place_from n c.args.seid c.args.self.octets.now 6 0) all;
      right = subst (λ n. RightEntries n c.args.self.octets.now 6) all (right_head _ c.args.self.right).entries;
    }

pub entry-entry-requires : goal.entry-entry-requires
entry-entry-requires c =
    let n = length (book_of c.args.self.octets.now) in
    first_entry (n - (c.loop-index.index + 1)) (n - c.loop-index.index) _ c.loop-index.at (omega arith)
    c.loop-index.invariant.right

pub returns-then-eq : goal.returns-then-eq
returns-then-eq c =
    let e = c.entry-entry.ensures in
    let n = length (book_of c.args.self.octets.now) in
    rw (e.kind, e.from, e.size)
    (sym (c.loop-index.invariant.place
    ∙ place_here (n - (c.loop-index.index + 1)) (n - c.loop-index.index) c.args.seid _ c.loop-index.at c.loop-index.index
    (omega arith) (named e.seid (sym c.eq.ensures ∙ c.if-eq.true))))

pub overflow_add-at : goal.overflow_add-at
overflow_add-at c =
    omega (arith, c.entry-entry.ensures.inside)

pub loop-index-preserved : goal.loop-index-preserved
loop-index-preserved c =
    let e = c.entry-entry.ensures in
    let n = length (book_of c.args.self.octets.now) in
    let rest = n - (c.loop-index.index + 1) in
    rw (e.from, e.size) (record {
      place = c.loop-index.invariant.place
          ∙ place_later rest (n - c.loop-index.index) c.args.seid _ c.loop-index.at c.loop-index.index (omega arith)
          (other e.seid (sym c.eq.ensures ∙ c.if-eq.false));
      right = other_entries rest (n - c.loop-index.index) _ c.loop-index.at (omega arith) c.loop-index.invariant.right;
    })

pub returns : goal.returns
returns c =
    sym (c.loop-index.invariant.place
    ∙ place_none _ c.args.seid c.args.self.octets.now c.loop-index.at c.loop-index.index (omega arith))
