-- The laws of a SEID's place: entry by entry, the walk over places is `find` over the entries, and of a right book the list of
-- the entry that is found lies inside it.
use Prim.Native.Nat.{ℕ, zero, suc, ◌+◌, ◌-◌, ◌≤◌, ◌<◌}
use native.Mathlib.Nat.{add-zero, zero-add}
use native.Mathlib.Numerals.{add-one}
use native.Mathlib.Omega.{arith}
use mathlib.Core.Path.{◌≡◌, refl, sym, ap, ◌∙◌}
use mathlib.Core.List.{List, ◌∷◌}
use mathlib.Core.Bool.{true}
use lib.ListN.{length, take, drop, get_or}
use lib.Seq.{get_or-drop, drop-drop}
use lib.Dec.{eqb}
use borrow.Author.Tests.{eqb-true, eq-eqb, ne_eqb}
use Rattle.rules.specs.Book.{Entry, Found, unknown, known, later, find, kind_right, book_number, entries_in, book_of}
use Rattle.rules.specs.declared.OurSeid.{OurSeid}
use Rattle.rules.proofs.Tests.{Told?, told, passed, failed}
use Rattle.rules.proofs.RightBook.{entry_right, entries_length, right_book}
use Rattle.rules.proofs.Places.{At, find_known, at_inside}
use Rattle.rules.proofs.ShortReplies.{entry_at}
use Rattle.book.specs.Places.{known_at, place_from, place_in, found_by}
use Rattle.book.specs.declared.places.Place.{Place}
use Rattle.std.specs.Prelude.{None}
use Rattle.std.specs.declared.option.Option.{Option}
use Rattle.book.specs.Entries.{RightEntry}
use Rattle.book.proofs.Entries.{RightEntries, first_entry, other_entries, right_head}

-- ---- A turn of the walk

module _ (n left : ℕ) (s : OurSeid) (b : List ℕ) (at i : ℕ) (e : left ≡ suc n) where
  pub place_here : get_or b at 0 ≡ s.0
      → place_from left s b at i ≡ known_at i (get_or b (at + 1) 0) (at + 3) (get_or b (at + 2) 0)
  unfolding place_from
  place_here h = rw (e, eq-eqb (get_or b at 0) s.0 h)

  pub place_later : (get_or b at 0 ≡ s.0 → ⊥) → place_from left s b at i ≡ place_from n s b (at + 3 + get_or b (at + 2) 0) (i + 1)
  unfolding place_from
  place_later h = rw (e, ne_eqb (get_or b at 0) s.0 h, add-one)

pub place_none : (left : ℕ) (s : OurSeid) (b : List ℕ) (at i : ℕ) → left ≡ 0 → place_from left s b at i ≡ None
unfolding place_from
place_none left s b at i e = rw e

-- ---- The walk finds what `find` finds

-- the entry with a SEID of which the list stands at a place of b
abbrev pub entry_by : OurSeid → List ℕ → ℕ → ℕ → ℕ → Entry
entry_by s b kind from size = record { seid = s; kind = kind; caps = take size (drop from b) }

-- the first of some entries, by its place
pub entries_first : (n : ℕ) (b : List ℕ) (at : ℕ) → entries_in (suc n) (drop at b)
    ≡ entry_by (record { 0 = get_or b at 0 }) b (get_or b (at + 1) 0) (at + 3) (get_or b (at + 2) 0)
    ∷ entries_in n (drop (at + 3 + get_or b (at + 2) 0) b)
unfolding entries_in
entries_first n b at = simp (get_or-drop, drop-drop, add-zero)

-- what is found among entries that begin with entry i of the book
unfoldable counted : ℕ → Found → Found
counted i unknown = unknown
counted i (known j n) = known (i + j) n

counted_none : (f : Found) → counted 0 f ≡ f
unfolding counted
counted_none unknown = refl
counted_none (known j n) = ap (λ (m : ℕ). known m n) (zero-add j)

counted_later : (i : ℕ) (f : Found) → counted (suc i) f ≡ counted i (later f)
unfolding counted later
counted_later i unknown = refl
counted_later i (known j n) = let e : suc i + j ≡ i + suc j = omega arith in ap (λ (m : ℕ). known m n) e

found_turn : (n : ℕ) (s : OurSeid) (b : List ℕ) (at i : ℕ) → Told? (eqb (get_or b at 0) s.0)
    → ((at' i' : ℕ) → found_by s (place_from n s b at' i') b ≡ counted i' (find s (entries_in n (drop at' b))))
    → found_by s (place_from (suc n) s b at i) b ≡ counted i (find s (entries_in (suc n) (drop at b)))
unfolding place_from found_by find counted
found_turn n s b at i (passed t) k =
    let e : s ≡ record { 0 = get_or b at 0 } = ap (λ (x : ℕ). record { 0 = x }) (sym (eqb-true (get_or b at 0) s.0 t)) in
    rw (entries_first n b at, t, add-zero)
    (ap (λ (x : OurSeid). known i (entry_by x b (get_or b (at + 1) 0) (at + 3) (get_or b (at + 2) 0))) e)
found_turn n s b at i (failed f) k =
    rw (entries_first n b at, f) (k (at + 3 + get_or b (at + 2) 0) (suc i) ∙ counted_later i _)

found_from : (n : ℕ) (s : OurSeid) (b : List ℕ) (at i : ℕ)
    → found_by s (place_from n s b at i) b ≡ counted i (find s (entries_in n (drop at b)))
unfolding place_from found_by find entries_in counted
found_from zero s b at i = refl
found_from (suc n) s b at i = found_turn n s b at i (told (eqb (get_or b at 0) s.0)) (found_from n s b)

found_in : (s : OurSeid) (b : List ℕ) → found_by s (place_in s b) b ≡ find s (book_of b)
unfolding place_in book_of
found_in s b = found_from (get_or b 5 0) s b 6 0 ∙ counted_none _

pub found_as : (s : OurSeid) (b : List ℕ) (p : Option Place) → place_in s b ≡ p → find s (book_of b) ≡ found_by s p b
found_as s b p e = sym (found_in s b) ∙ ap (λ (x : Option Place). found_by s x b) e

-- ---- What a place says of a right book

-- where a right entry's list lies, and its kind
record Lies (b : List ℕ) (kind from size : ℕ) : Type 0 where
  inside : from + size ≤ length b
  short : size ≤ 64
  kinded : kind_right kind ≡ true

abbrev place_of : ℕ → ℕ → ℕ → ℕ → Place
place_of i kind from size = record { index = i; kind = kind; from = from; size = size }

lies_here : (b : List ℕ) (at i j kind from size : ℕ) → RightEntry b at
    → known_at i (get_or b (at + 1) 0) (at + 3) (get_or b (at + 2) 0) ≡ known_at j kind from size → Lies b kind from size
lies_here b at i j kind from size r e =
    let same : place_of i (get_or b (at + 1) 0) (at + 3) (get_or b (at + 2) 0) ≡ place_of j kind from size = cc in
    let p : get_or b (at + 1) 0 ≡ kind = ap (λ (x : Place). x.kind) same in
    let q : at + 3 ≡ from = ap (λ (x : Place). x.from) same in
    let z : get_or b (at + 2) 0 ≡ size = ap (λ (x : Place). x.size) same in
    record { inside = omega arith; short = omega arith; kinded = ap kind_right (sym p) ∙ r.kind }

lies_turn : (n : ℕ) (s : OurSeid) (b : List ℕ) (at i j kind from size : ℕ) → Told? (eqb (get_or b at 0) s.0)
    → ((at' i' : ℕ) → RightEntries n b at' → place_from n s b at' i' ≡ known_at j kind from size → Lies b kind from size)
    → RightEntries (suc n) b at → place_from (suc n) s b at i ≡ known_at j kind from size → Lies b kind from size
unfolding place_from
lies_turn n s b at i j kind from size (passed t) k r e =
    lies_here b at i j kind from size (first_entry n (suc n) b at refl r) (rw t at e)
lies_turn n s b at i j kind from size (failed f) k r e =
    k (at + 3 + get_or b (at + 2) 0) (suc i) (other_entries n (suc n) b at refl r) (rw f at e)

lies_from : (n : ℕ) (s : OurSeid) (b : List ℕ) (at i j kind from size : ℕ) → RightEntries n b at
    → place_from n s b at i ≡ known_at j kind from size → Lies b kind from size
unfolding place_from
lies_from zero s b at i j kind from size r e = let z : ◌≡◌ {A = ℕ} 0 1 = cc in absurd (omega arith)
lies_from (suc n) s b at i j kind from size r e =
    lies_turn n s b at i j kind from size (told (eqb (get_or b at 0) s.0))
    (λ at' i'. lies_from n s b at' i' j kind from size) r e

pub record Placed (s : OurSeid) (b : List ℕ) (i kind from size : ℕ) : Type 0 where
  pub place : At (book_of b) i (entry_by s b kind from size)
  pub counted : i < length (book_of b)
  pub right : entry_right (entry_by s b kind from size) ≡ true
  pub inside : from + size ≤ length b
  pub short : size ≤ 64
  pub kinded : kind_right kind ≡ true

pub placed : (s : OurSeid) (b : List ℕ) (i kind from size : ℕ) → book_number b ≡ 0 → place_in s b ≡ known_at i kind from size
    → Placed s b i kind from size
unfolding place_in found_by
placed s b i kind from size h e =
    let lies = lies_from (get_or b 5 0) s b 6 0 i kind from size (right_head b h).entries e in
    let found = find_known s (book_of b) i (entry_by s b kind from size) (found_as s b (known_at i kind from size) e) in
    record {
      place = found.place;
      counted = at_inside found.place;
      right = entry_at found.place (right_book b h).entries;
      inside = lies.inside;
      short = lies.short;
      kinded = lies.kinded;
    }

-- ---- How many entries there are

pub book_length : (b : List ℕ) → length (book_of b) ≡ get_or b 5 0
unfolding book_of
book_length b = entries_length (get_or b 5 0) (drop 6 b)

-- as many as a walk over the entries begins with
pub all_counted : (b : List ℕ) (entries : ℕ) → entries ≡ length (book_of b) → get_or b 5 0 ≡ entries - 0
all_counted b entries e = let counted = book_length b in omega arith
