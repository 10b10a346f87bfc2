-- An event's number that is none of the three is the channel of SEID 0 down, and a right book's SEIDs are 1 to 62: it is refused
-- with the book's number, with 12, or with 10, and changes nothing.
use Prim.Native.Nat.{ℕ, zero, suc, ◌≤◌}
use native.Mathlib.Omega.{arith}
use mathlib.Core.Path.{◌≡◌, refl, sym, ap, ◌∙◌}
use mathlib.Core.List.{List}
use mathlib.Core.Bool.{true, ◌&&◌}
use lib.ListN.{length}
use lib.Dec.{eqb, leb}
use borrow.Author.Tests.{eqb-true, eqb-false}
use Rattle.rules.specs.Octets.{between}
use Rattle.rules.specs.Elements.{items}
use Rattle.rules.specs.Book.{Entry, media_type, list_right, book_number, book_of, Found, unknown, known, find}
use Rattle.rules.specs.Endpoints.{down_at, happens}
use Rattle.rules.specs.Saved.{connection_in}
use Rattle.rules.specs.Host.{number_or, refusal_of, event_call}
use Rattle.rules.specs.declared.Event.TheVariants.{Down}
use Rattle.rules.proofs.Tests.{Told?, told, passed, failed, and_l, between_least}
use Rattle.rules.proofs.RightBook.{entry_right, right_book}
use Rattle.rules.proofs.Places.{find_known}
use Rattle.rules.proofs.ShortReplies.{entry_at}
use Rattle.rules.proofs.Unrefused.{none_refused}
use Rattle.host.specs.Exports.{ours, event_of}

pub no_event : (which seid : ℕ) → (which ≡ 0 → ⊥) → (which ≡ 1 → ⊥) → (which ≡ 2 → ⊥) → Down (ours 0) ≡ event_of which seid
no_event zero seid a b c = absurd (a refl)
no_event (suc zero) seid a b c = absurd (b refl)
no_event (suc (suc zero)) seid a b c = absurd (c refl)
no_event (suc (suc (suc n))) seid a b c = refl

pub down_event : (which seid : ℕ) → which ≡ 1 → Down (ours seid) ≡ event_of which seid
down_event which seid e = rw e

-- ---- No book has SEID 0

entry_seid : (n : Entry) → entry_right n ≡ true → 1 ≤ n.seid.0
unfolding entry_right
entry_seid n r =
    let seid = between 1 62 n.seid.0 in
    let short = leb (length n.caps) 64 in
    let listed = list_right (media_type n.kind) (items n.caps) in
    between_least 1 62 n.seid.0 (and_l seid short (and_l (seid && short) listed r))

no_zero : (book : List ℕ) → book_number book ≡ 0 → find (ours 0) (book_of book) ≡ unknown
no_zero book right = go (find (ours 0) (book_of book)) refl
  where
    go : (f : Found) → find (ours 0) (book_of book) ≡ f → f ≡ unknown
    go unknown e = refl
    go (known i n) e =
        let found = find_known (ours 0) (book_of book) i n e in
        absurd (omega (arith, found.named, entry_seid n (entry_at found.place (right_book book right).entries)))

-- ---- What such an event is told

number_first : (n next : ℕ) → (n ≡ 0 → ⊥) → n ≡ number_or n next
unfolding number_or
number_first zero next h = absurd (h refl)
number_first (suc n) next h = refl

zero_down : (book saved : List ℕ)
    → event_call book saved (Down (ours 0)) ≡ record { number = number_or (refusal_of book saved) 10; saved = saved }
unfolding event_call happens down_at number_or
zero_down book saved = go (told (eqb (refusal_of book saved) 0))
  where
    go : Told? (eqb (refusal_of book saved) 0)
        → event_call book saved (Down (ours 0)) ≡ record { number = number_or (refusal_of book saved) 10; saved = saved }
    go (passed t) =
        let z = eqb-true (refusal_of book saved) 0 t in rw (z, no_zero book (none_refused book saved z).book)
    go (failed t) =
        let n = refusal_of book saved in
        let h = eqb-false n 0 t in
        let m = happens (book_of book) (connection_in (length (book_of book)) saved) (Down (ours 0)) in
        rw (← (number_first n m.number h), t, ← (number_first n 10 h))

pub other_event : (book saved : List ℕ) (which seid : ℕ) → 3 ≤ which
    → event_call book saved (event_of which seid) ≡ record { number = number_or (refusal_of book saved) 10; saved = saved }
other_event book saved which seid h =
    ap (event_call book saved)
    (sym (no_event which seid (λ e. absurd (omega arith)) (λ e. absurd (omega arith)) (λ e. absurd (omega arith))))
    ∙ zero_down book saved
