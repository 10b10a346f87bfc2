-- The records of a fresh connection entry by entry: at a turn, those written and those still to be written make up the whole, and
-- a head that is written moves the seam between them behind its record.
use Rattle.std.proofs.Common.{ℕ, suc, ◌+◌, ◌-◌, ◌*◌, ◌≤◌, ◌≡◌, refl, sym, ap, ap₂, ◌∙◌, subst, List, ◌++◌, append_assoc, arith}
use Rattle.std.proofs.Common.{lit≤, length, take, drop, get_or, length-append, length-take, length-drop, take-append-drop}
use Rattle.std.proofs.Common.{take_at, drop_at}
use Rattle.rules.specs.Octets.{front}
use Rattle.rules.specs.Book.{Book, book_number, entries_in, book_of}
use Rattle.rules.specs.Endpoints.{Ends, idle_head, idle, fresh_ends, fresh_connection}
use Rattle.rules.specs.Saved.{record_room, head_octets, store_end, store_ends, record_at}
use Rattle.rules.specs.declared.OurSeid.{OurSeid}
use Rattle.rules.specs.declared.Head.{Head}
use Rattle.rules.proofs.SavedReads.{front_length}
use Rattle.octets.specs.Patch.{patch}
use Rattle.octets.proofs.Patches.{lent_front}
use Rattle.book.proofs.Entries.{RightEntries, right_head}
use Rattle.book.proofs.Found.{entries_first, all_counted}

-- ---- One record

idle_record : (s : OurSeid) (r : List ℕ) → front (head_octets (idle_head s) 0) r ≡ store_end (idle s) r
unfolding store_end idle head_octets
idle_record s r = refl

-- the first i records as they are, and from there on the endpoints stored
abbrev stored_from : ℕ → Ends → List ℕ → List ℕ
stored_from i ends l = take (i * record_room) l ++ store_ends ends (drop (i * record_room) l)

-- once the front of record i is written, the endpoints are stored behind it
stored_behind : (i : ℕ) (s l : List ℕ) (ends : Ends) → length s ≤ record_room → (i + 1) * record_room ≤ length l
    → stored_from (i + 1) ends (patch (i * record_room) s l)
    ≡ take (i * record_room) l ++ (front s (record_at i l) ++ store_ends ends (drop record_room (drop (i * record_room) l)))
stored_behind i s l ends short room =
    let before = take (i * record_room) l in
    let written = front s (record_at i l) in
    let behind = drop record_room (drop (i * record_room) l) in
    let long : length (record_at i l) ≡ record_room = simp (length-take, length-drop) (omega arith) in
    let same : length written ≡ length (record_at i l) = front_length s (record_at i l) (omega arith) in
    let seam : length (before ++ written) ≡ (i + 1) * record_room = simp (length-append, length-take) (omega arith) in
    ap (stored_from (i + 1) ends)
    (sym (append_assoc before written behind ∙ lent_front (i * record_room) record_room s l short))
    ∙ ap₂ (λ (x y : List ℕ). x ++ store_ends ends y) (take_at (before ++ written) behind ((i + 1) * record_room) seam)
    (drop_at (before ++ written) behind ((i + 1) * record_room) seam)
    ∙ append_assoc before written (store_ends ends behind)

-- ---- The entries that are left, from a place of the book on

pub all_left : (b : List ℕ) → book_number b ≡ 0 → RightEntries (length (book_of b) - 0) b 6
all_left b right = subst (λ k. RightEntries k b 6) (all_counted b (length (book_of b)) refl) (right_head b right).entries

-- the records once those that are left are written too
abbrev pub begun_by : ℕ → List ℕ → ℕ → ℕ → List ℕ → List ℕ
begun_by left b at i l = stored_from i (fresh_ends (entries_in left (drop at b))) l

-- all records
abbrev pub begun_all : List ℕ → List ℕ → List ℕ
begun_all b l = store_ends (fresh_connection (book_of b)).ends l

pub none_begun : (b l : List ℕ) → begun_by (length (book_of b) - 0) b 6 0 l ≡ begun_all b l
unfolding book_of fresh_connection
none_begun b l =
    sym (ap (λ (k : ℕ). store_ends (fresh_ends (entries_in k (drop 6 b))) l) (all_counted b (length (book_of b)) refl))

-- the head of one record is written
pub one_begun : (n left : ℕ) (b : List ℕ) (at i : ℕ) (l m : List ℕ) (h : Head) {whole : List ℕ} → left ≡ suc n
    → (i + 1) * record_room ≤ length l → h ≡ idle_head (record { 0 = get_or b at 0 })
    → m ≡ patch (i * record_room) (head_octets h 0) l
    → begun_by left b at i l ≡ whole → begun_by n b (at + 3 + get_or b (at + 2) 0) (i + 1) m ≡ whole
unfolding head_octets store_ends fresh_ends
one_begun n left b at i l m h e room made stored inv =
    let s : OurSeid = record { 0 = get_or b at 0 } in
    let rest = fresh_ends (entries_in n (drop (at + 3 + get_or b (at + 2) 0) b)) in
    ap (stored_from (i + 1) rest) (stored ∙ ap (λ (x : Head). patch (i * record_room) (head_octets x 0) l) made)
    ∙ stored_behind i (head_octets (idle_head s) 0) l rest (lit≤ tt) room
    ∙ ap (λ (x : List ℕ). take (i * record_room) l ++ (x ++ store_ends rest (drop record_room (drop (i * record_room) l))))
    (idle_record s (record_at i l))
    ∙ ap (λ (x : Book). stored_from i (fresh_ends x) l) (sym (entries_first n b at))
    ∙ ap (λ (k : ℕ). begun_by k b at i l) (sym e)
    ∙ inv

-- none is left
pub all_begun : (left : ℕ) (b : List ℕ) (at i : ℕ) (l : List ℕ) {whole : List ℕ} → left ≡ 0 → begun_by left b at i l ≡ whole
    → l ≡ whole
unfolding store_ends fresh_ends entries_in
all_begun left b at i l none inv =
    sym (take-append-drop (i * record_room) l) ∙ ap (λ (k : ℕ). begun_by k b at i l) (sym none) ∙ inv
