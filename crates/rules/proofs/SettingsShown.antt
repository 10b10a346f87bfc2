-- An answered settings question shows some octets, at most 64: a configuration that is not empty, or the list of a right book's
-- entry, which has category 1.
use Prim.Native.Nat.{ℕ, ◌≤◌}
use native.Mathlib.Omega.{arith}
use mathlib.Core.Path.{◌≡◌, refl}
use mathlib.Core.List.{List, [], ◌∷◌}
use mathlib.Core.Bool.{true, false}
use lib.ListN.{length}
use lib.Dec.{eqb, lit≤}
use borrow.Author.Tests.{eqb-true, eqb-false}
use Rattle.rules.specs.Octets.{member, is_empty}
use Rattle.std.specs.Prelude.{if◌then◌else◌}
use Rattle.rules.specs.Elements.{items_past, items, fault_in, fault_past, lacking, missing}
use Rattle.rules.specs.Book.{Entry, Book, media_type, list_right, Found, unknown, known, find, book_of}
use Rattle.rules.specs.Endpoints.{Endpoint, Ends, end_at, legal_end, legal_ends}
use Rattle.rules.specs.Saved.{connection_in}
use Rattle.rules.specs.Host.{refusal_of, settings_of, Shown, shown_at, settings_call}
use Rattle.rules.specs.declared.OurSeid.{OurSeid}
use Rattle.rules.proofs.Tests.{Told?, told, passed, failed, clash, and_l, and_r}
use Rattle.rules.proofs.RightBook.{entry_right, right_book}
use Rattle.rules.proofs.Places.{find_known, legal_at}
use Rattle.rules.proofs.Outcomes.{if_arms}
use Rattle.rules.proofs.ShortReplies.{caps_short, entry_at, end_short}
use Rattle.rules.proofs.StaysLegal.{legal_ends_lem}
use Rattle.rules.proofs.SavedStaysRight.{right_legal}
use Rattle.rules.proofs.Unrefused.{none_refused}

-- an entry's list is not empty: an empty one misses category 1
caps_there : (media : ℕ) (caps : List ℕ) → list_right media (items caps) ≡ true → is_empty caps ≡ false
unfolding list_right fault_in fault_past lacking missing member items_past is_empty
caps_there media [] e = clash e refl
caps_there media (x ∷ caps) e = refl

list_there : (n : Entry) → entry_right n ≡ true → is_empty n.caps ≡ false
unfolding entry_right
list_there n e = caps_there (media_type n.kind) n.caps (search (and_l, and_r) depth 7)

either_there : (caps config : List ℕ) → is_empty caps ≡ false → is_empty (if is_empty config then caps else config) ≡ false
unfolding is_empty
either_there caps [] some = some
either_there caps (x ∷ config) some = refl

pub settings_there : (n : Entry) (e : Endpoint) → entry_right n ≡ true → is_empty (settings_of n e) ≡ false
unfolding settings_of
settings_there n e right = either_there n.caps e.config (list_there n right)

pub settings_fit : (n : Entry) (e : Endpoint) → entry_right n ≡ true → legal_end n e ≡ true → length (settings_of n e) ≤ 64
unfolding settings_of
settings_fit n e right lawful =
    if_arms (λ (l : List ℕ). length l ≤ 64) (is_empty e.config) n.caps e.config (λ t. caps_short n right)
    (λ f. end_short n e right lawful)

-- the record of an endpoint that is found
found_legal : (s : OurSeid) (book : Book) (ends : Ends) (i : ℕ) (n : Entry) → legal_ends book ends ≡ true
    → find s book ≡ known i n
    → legal_end n (end_at ends i) ≡ true
found_legal s book ends i n lawful f = legal_at (find_known s book i n f).place ends lawful

found_fits : (f : Found) (ends : Ends) → ((i : ℕ) (n : Entry) → f ≡ known i n → entry_right n ≡ true)
    → ((i : ℕ) (n : Entry) → f ≡ known i n → legal_end n (end_at ends i) ≡ true) → length (shown_at f ends).part ≤ 64
unfolding shown_at
found_fits unknown ends right lawful = lit≤ tt
found_fits (known i n) ends right lawful = settings_fit n (end_at ends i) (right i n refl) (lawful i n refl)

pub settings_short : (book saved : List ℕ) (s : OurSeid) → length (settings_call book saved s).part ≤ 64
unfolding settings_call
settings_short book saved s =
    let n = refusal_of book saved in
    let ends = (connection_in (length (book_of book)) saved).ends in
    if_arms (λ (x : Shown). length x.part ≤ 64) (eqb n 0) _ _
    (λ t.
    let ok = none_refused book saved (eqb-true n 0 t) in
    let right = right_book book ok.book in
    let lawful = (legal_ends_lem (book_of book) _ (right_legal (book_of book) saved ok.right)).every in
    found_fits (find s (book_of book)) ends
    (λ i e f. entry_at (find_known s (book_of book) i e f).place right.entries)
    (λ i e f. found_legal s (book_of book) ends i e lawful f))
    (λ f. lit≤ tt)

empty_is : (l : List ℕ) → l ≡ [] → is_empty l ≡ true
unfolding is_empty
empty_is l e = rw e

found_shown : (f : Found) (ends : Ends) → ((i : ℕ) (n : Entry) → f ≡ known i n → entry_right n ≡ true)
    → (shown_at f ends).number ≡ 0 → (shown_at f ends).part ≡ [] → ⊥
unfolding shown_at
found_shown unknown ends right z e = absurd (omega arith)
found_shown (known i n) ends right z e = clash (empty_is _ e) (settings_there n (end_at ends i) (right i n refl))

pub settings_not_empty : (book saved : List ℕ) (s : OurSeid) → (settings_call book saved s).number ≡ 0
    → (settings_call book saved s).part ≡ [] → ⊥
unfolding settings_call
settings_not_empty book saved s z e = go (told (eqb (refusal_of book saved) 0))
  where
    go : Told? (eqb (refusal_of book saved) 0) → ⊥
    go (passed t) =
        let right = right_book book (none_refused book saved (eqb-true (refusal_of book saved) 0 t)).book in
        found_shown (find s (book_of book)) (connection_in (length (book_of book)) saved).ends
        (λ i n f. entry_at (find_known s (book_of book) i n f).place right.entries) (rw t at z) (rw t at e)
    go (failed t) = eqb-false (refusal_of book saved) 0 t (rw t at z)
