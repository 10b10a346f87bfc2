-- The endpoint book (document 01, The endpoint book; numbers 1 to 7 of What the host is told).
use Rattle.std.specs.Prelude.{ℕ, zero, suc, ◌/◌, ◌%◌, List, [], ◌∷◌, ◌++◌, Bool, not, ◌&&◌, length, take, drop, get_or, leb, ltb}
use Rattle.std.specs.Prelude.{eqb, if◌then◌else◌}
use Rattle.rules.specs.Octets.{between, same_octets, is_empty}
use Rattle.rules.specs.Elements.{Item, whole, short, items, fault_in, element}
use Rattle.rules.specs.declared.OurSeid.{OurSeid}
use Rattle.rules.specs.declared.Rule.TheVariants.{Offer}

-- One endpoint of ours: its SEID, its kind octet and the octets of the list that it offers.
pub record Entry : Type 0 where
  pub seid : OurSeid
  pub kind : ℕ
  pub caps : List ℕ

abbrev pub Book : Type 0
Book = List Entry

-- The kind octet: media type 0 to 2 in bits 7-4, bit 3 is 1 for a sink, bits 2-0 zero.
unfoldable pub kind_right : ℕ → Bool
kind_right k = eqb (k % 8) 0 && leb (k / 16) 2

unfoldable pub media_type : ℕ → ℕ
media_type k = k / 16

unfoldable pub is_source : ℕ → Bool
is_source k = eqb (k / 8 % 2) 0

unfoldable pub list_right : ℕ → List Item → Bool
list_right media is = eqb (fault_in (Offer media) [] is).code 0

-- ---- The check, with the number that the host is told: 0 where the book is right

-- The entries left to right, n of them, after one with the SEID `before` (0: none). Per entry: header whole 1, SEID 5, kind 6,
-- length 7, list inside the book 1, list rules 7. Octets left over: 1.
unfoldable pub entries_number : ℕ → ℕ → List ℕ → ℕ
entries_number zero before l = if is_empty l then 0 else 1
entries_number (suc n) before l =
    let seid = get_or l 0 0 in
    let kind = get_or l 1 0 in
    let size = get_or l 2 0 in
    let body = drop 3 l in
    if ltb (length l) 3 then 1
    else if not (ltb before seid && leb seid 62) then 5
    else if not (kind_right kind) then 6
    else if ltb 64 size then 7
    else if ltb (length body) size then 1
    else if not (list_right (media_type kind) (items (take size body))) then 7
    else entries_number n seid (drop size body)

unfoldable pub book_number : List ℕ → ℕ
book_number b =
    if ltb (length b) 6 then 1
    else if not (same_octets (take 3 b) (0x48 ∷ 0x4C ∷ 0x42 ∷ [])) then 2
    else if not (same_octets (take 2 (drop 3 b)) (0 ∷ 1 ∷ [])) then 3
    else if not (between 1 16 (get_or b 5 0)) then 4
    else entries_number (get_or b 5 0) 0 (drop 6 b)

-- ---- What a right book says

unfoldable pub entries_in : ℕ → List ℕ → Book
entries_in zero l = []
entries_in (suc n) l =
    let size = get_or l 2 0 in
    let body = drop 3 l in
    record { seid = record { 0 = get_or l 0 0 }; kind = get_or l 1 0; caps = take size body } ∷ entries_in n (drop size body)

unfoldable pub book_of : List ℕ → Book
book_of b = entries_in (get_or b 5 0) (drop 6 b)

-- ---- Finding an entry. "Known" means in the book.

pub data Found : Type 0 where
  unknown : Found
  -- the place in the book, counted from 0, and the entry
  known : ℕ → Entry → Found

unfoldable pub later : Found → Found
later unknown = unknown
later (known i n) = known (suc i) n

unfoldable pub find : OurSeid → Book → Found
find s [] = unknown
find s (n ∷ book) = if eqb n.seid.0 s.0 then known 0 n else later (find s book)

-- ---- What is shown of a list: 0C gives all, 02 gives categories 1 to 7

unfoldable pub written : List Item → List ℕ
written [] = []
written (short c ∷ is) = written is
written (whole c v ∷ is) = element c v ++ written is

unfoldable pub up_to_codec : List Item → List Item
up_to_codec [] = []
up_to_codec (short c ∷ is) = up_to_codec is
up_to_codec (whole c v ∷ is) = if leb c 7 then whole c v ∷ up_to_codec is else up_to_codec is

unfoldable pub shown_by_02 : Entry → List ℕ
shown_by_02 n = written (up_to_codec (items n.caps))

unfoldable pub shown_by_0C : Entry → List ℕ
shown_by_0C n = n.caps
