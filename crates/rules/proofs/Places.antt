-- An entry found in the book stands at a place of it; by recursion on that place the endpoint there is legal, and so are all when
-- another legal one is put there.
use Prim.Native.Nat.{ℕ, zero, suc, ◌+◌, ◌≤◌, ◌<◌}
use native.Mathlib.Omega.{arith}
use mathlib.Core.Path.{◌≡◌, refl, sym, ap}
use mathlib.Core.List.{[], ◌∷◌}
use mathlib.Core.Bool.{Bool, true, false}
use lib.ListN.{length, get_or, set}
use lib.Dec.{eqb}
use borrow.Author.Tests.{eqb-true}
use Rattle.std.specs.Prelude.{if◌then◌else◌}
use Rattle.rules.specs.Book.{Entry, Book, Found, unknown, known, later, find}
use Rattle.rules.specs.Endpoints.{Endpoint, Ends, idle, is_awaited, legal_end, legal_ends, awaiting, end_at}
use Rattle.rules.specs.declared.OurSeid.{OurSeid}
use Rattle.rules.proofs.Tests.{Told?, told, passed, failed, clash, and_l, and_r, and_both}

-- ---- Places of the book

-- the entry n stands at the place i of the book
pub data At : Book → ℕ → Entry → Type 0 where
  here : {n : Entry} {book : Book} → At (n ∷ book) zero n
  there : {m n : Entry} {book : Book} {i : ℕ} → At book i n → At (m ∷ book) (suc i) n

pub record FoundAt (s : OurSeid) (book : Book) (i : ℕ) (n : Entry) : Type 0 where
  pub place : At book i n
  pub named : n.seid.0 ≡ s.0

at_first : (s : OurSeid) (m : Entry) (book : Book) (i : ℕ) (n : Entry) → eqb m.seid.0 s.0 ≡ true → known 0 m ≡ known i n
    → FoundAt s (m ∷ book) i n
at_first s m book i n t e =
    let p : 0 ≡ i = cc in
    let q : m ≡ n = cc in
    rw (← p, ← q) (record { place = here; named = eqb-true m.seid.0 s.0 t })

at_later : (s : OurSeid) (m : Entry) (book : Book) (f : Found) (i : ℕ) (n : Entry)
    → ((j : ℕ) (n' : Entry) → f ≡ known j n' → FoundAt s book j n') → later f ≡ known i n → FoundAt s (m ∷ book) i n
unfolding later
at_later s m book unknown i n k e = let z : ◌≡◌ {A = ℕ} 0 1 = cc in absurd (omega arith)
at_later s m book (known j n') i n k e =
    let p : suc j ≡ i = cc in
    let q : n' ≡ n = cc in
    let r : FoundAt s book j n' = k j n' refl in
    rw (← p, ← q) (record { place = there r.place; named = r.named })

find_head : (s : OurSeid) (m : Entry) (book : Book) (i : ℕ) (n : Entry) → Told? (eqb m.seid.0 s.0)
    → ((j : ℕ) (n' : Entry) → find s book ≡ known j n' → FoundAt s book j n') → find s (m ∷ book) ≡ known i n
    → FoundAt s (m ∷ book) i n
unfolding find
find_head s m book i n (passed t) k e = at_first s m book i n t (rw t at e)
find_head s m book i n (failed f) k e = at_later s m book (find s book) i n k (rw f at e)

pub find_known : (s : OurSeid) (book : Book) (i : ℕ) (n : Entry) → find s book ≡ known i n → FoundAt s book i n
unfolding find
find_known s [] i n e = let z : ◌≡◌ {A = ℕ} 0 1 = cc in absurd (omega arith)
find_known s (m ∷ book) i n e = find_head s m book i n (told (eqb m.seid.0 s.0)) (find_known s book) e

pub at_inside : {book : Book} {i : ℕ} {n : Entry} → At book i n → i < length book
at_inside here = omega arith
at_inside (there a) = let h = at_inside a in omega arith

pub at_entry : {book : Book} {i : ℕ} {n : Entry} → At book i n → (d : Entry) → get_or book i d ≡ n
at_entry here d = refl
at_entry (there a) d = at_entry a d

-- ---- Endpoints at places

pub legal_length : (book : Book) (ends : Ends) → legal_ends book ends ≡ true → length ends ≡ length book
unfolding legal_ends
legal_length [] [] h = refl
legal_length [] (e ∷ ends) h = clash refl (sym h)
legal_length (n ∷ book) [] h = clash refl (sym h)
legal_length (n ∷ book) (e ∷ ends) h = ap suc (legal_length book ends (and_r (legal_end n e) (legal_ends book ends) h))

pub legal_at : {book : Book} {i : ℕ} {n : Entry} → At book i n → (ends : Ends) → legal_ends book ends ≡ true
    → legal_end n (end_at ends i) ≡ true
unfolding legal_ends end_at
legal_at here [] h = clash refl (sym h)
legal_at (here {n} {book}) (e ∷ ends) h = and_l (legal_end n e) (legal_ends book ends) h
legal_at (there a) [] h = clash refl (sym h)
legal_at (there {m} {book = book} a) (e ∷ ends) h = legal_at a ends (and_r (legal_end m e) (legal_ends book ends) h)

pub legal_set : {book : Book} {i : ℕ} {n : Entry} → At book i n → (ends : Ends) (e' : Endpoint) → legal_ends book ends ≡ true
    → legal_end n e' ≡ true → legal_ends book (set ends i e') ≡ true
unfolding legal_ends
legal_set here [] e' h t = clash refl (sym h)
legal_set (here {n} {book}) (e ∷ ends) e' h t =
    and_both (legal_end n e') (legal_ends book ends) t (and_r (legal_end n e) (legal_ends book ends) h)
legal_set (there a) [] e' h t = clash refl (sym h)
legal_set (there {m} {book = book} {i = i} a) (e ∷ ends) e' h t =
    let both = legal_ends book ends in
    and_both (legal_end m e) (legal_ends book (set ends i e')) (and_l (legal_end m e) both h)
    (legal_set a ends e' (and_r (legal_end m e) both h) t)

-- ---- How many await a channel

unfoldable pub awaits : Endpoint → ℕ
awaits e = if is_awaited e.head.channel then 1 else 0

-- what was at the place no longer counts, and what is put there does
pub awaiting_set : (ends : Ends) (i : ℕ) (e : Endpoint)
    → awaiting (set ends i e) + awaits (end_at ends i) ≤ awaiting ends + awaits e
unfolding awaiting awaits end_at idle is_awaited
awaiting_set [] i e = omega arith
awaiting_set (x ∷ ends) zero e = omega arith
awaiting_set (x ∷ ends) (suc i) e = let h = awaiting_set ends i e in omega arith

pub at_most_one : (b : Bool) → (if b then 1 else 0) ≤ 1
at_most_one true = omega arith
at_most_one false = omega arith

-- one that awaits no more than the one before it leaves the count, and any one raises it by at most one
pub awaiting_kept : (ends : Ends) (i : ℕ) (e : Endpoint) → awaits e ≤ awaits (end_at ends i)
    → awaiting (set ends i e) ≤ awaiting ends
awaiting_kept ends i e h = let s = awaiting_set ends i e in omega arith

pub awaiting_raised : (ends : Ends) (i : ℕ) (e : Endpoint) → awaiting (set ends i e) ≤ awaiting ends + 1
unfolding awaits
awaiting_raised ends i e = let s = awaiting_set ends i e in let one = at_most_one (is_awaited e.head.channel) in omega arith
