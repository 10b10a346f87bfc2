-- A book with the number 0 has passed every test of its entries, read off the chain of tests entry by entry.
use Prim.Native.Nat.{ℕ, zero, suc, ◌≤◌}
use native.Mathlib.Omega.{arith}
use mathlib.Core.Path.{◌≡◌, refl, ap}
use mathlib.Core.List.{List, [], ◌∷◌}
use mathlib.Core.Bool.{Bool, true, false, not, ◌&&◌}
use lib.ListN.{length, take, drop, get_or, length-take}
use lib.Dec.{leb, ltb}
use borrow.Author.Tests.{leb-true, ltb-true, ltb-false, le-leb, not-false}
use Rattle.rules.specs.Octets.{between, same_octets, each_of}
use Rattle.std.specs.Prelude.{if◌then◌else◌}
use Rattle.rules.specs.Elements.{items}
use Rattle.rules.specs.Book.{Entry, Book, kind_right, media_type, list_right, entries_number, book_number, entries_in, book_of}
use Rattle.rules.proofs.Tests.{and_l, and_r, and_both, between_least, between_most, between_both}

-- ---- A chain of tests that gives 0 has failed at none of them

-- one test of the chain: it did not fail, and the rest of the chain gives 0 too
pub not_failed : (b : Bool) (c rest : ℕ) → ltb 0 c ≡ true → (if b then c else rest) ≡ 0 → (b ≡ false) × (rest ≡ 0)
not_failed true c rest h e = let p = ltb-true 0 c h in absurd (omega arith)
not_failed false c rest h e = (refl, e)

-- ---- Entries

unfoldable pub entry_right : Entry → Bool
entry_right n =
    between 1 62 n.seid.0 && leb (length n.caps) 64 && list_right (media_type n.kind) (items n.caps)

pub entry_right_lem : (n : Entry) → between 1 62 n.seid.0 ≡ true → leb (length n.caps) 64 ≡ true
    → list_right (media_type n.kind) (items n.caps) ≡ true → entry_right n ≡ true
unfolding entry_right
entry_right_lem n s c l = and_both _ _ (and_both (between 1 62 n.seid.0) (leb (length n.caps) 64) s c) l

pub entry_listed : (n : Entry) → entry_right n ≡ true → list_right (media_type n.kind) (items n.caps) ≡ true
unfolding entry_right
entry_listed n e = and_r (between 1 62 n.seid.0 && leb (length n.caps) 64) _ e

pub entries_length : (n : ℕ) (l : List ℕ) → length (entries_in n l) ≡ n
unfolding entries_in
entries_length zero l = refl
entries_length (suc n) l = ap suc (entries_length n (drop (get_or l 2 0) (drop 3 l)))

seid_between : (before seid : ℕ) → ltb before seid && leb seid 62 ≡ true → between 1 62 seid ≡ true
seid_between before seid h =
    let low = ltb-true before seid (and_l (ltb before seid) (leb seid 62) h) in
    between_both 1 62 seid (omega arith) (leb-true seid 62 (and_r (ltb before seid) (leb seid 62) h))

caps_short : (size : ℕ) (body : List ℕ) → ltb 64 size ≡ false → leb (length (take size body)) 64 ≡ true
caps_short size body h =
    let most = ltb-false 64 size h in
    le-leb (length (take size body)) 64 (simp length-take (omega arith))

entries_right : (n before : ℕ) (l : List ℕ) → entries_number n before l ≡ 0 → each_of entry_right (entries_in n l) ≡ true
unfolding entries_number entries_in each_of
entries_right zero before l e = refl
entries_right (suc n) before l e =
    let seid = get_or l 0 0 in
    let kind = get_or l 1 0 in
    let size = get_or l 2 0 in
    let body = drop 3 l in
    let listed = list_right (media_type kind) (items (take size body)) in
    let entry : Entry = record { seid = record { 0 = seid }; kind = kind; caps = take size body } in
    let in_order = ltb before seid && leb seid 62 in
    let e₁ = not_failed (ltb (length l) 3) 1 _ refl e in
    let e₂ = not_failed (not in_order) 5 _ refl e₁.1 in
    let e₃ = not_failed (not (kind_right kind)) 6 _ refl e₂.1 in
    let e₄ = not_failed (ltb 64 size) 7 _ refl e₃.1 in
    let e₅ = not_failed (ltb (length body) size) 1 _ refl e₄.1 in
    let e₆ = not_failed (not listed) 7 _ refl e₅.1 in
    and_both (entry_right entry) (each_of entry_right (entries_in n (drop size body)))
    (entry_right_lem entry (seid_between before seid (not-false in_order e₂.0)) (caps_short size body e₄.0)
    (not-false listed e₆.0))
    (entries_right n seid (drop size body) e₆.1)

-- ---- The book

pub record RightBook (book : Book) : Type 0 where
  pub entries : each_of entry_right book ≡ true
  pub some : 1 ≤ length book
  pub few : length book ≤ 16

pub right_book : (b : List ℕ) → book_number b ≡ 0 → RightBook (book_of b)
unfolding book_number book_of
right_book b e =
    let n = get_or b 5 0 in
    let e₁ = not_failed (ltb (length b) 6) 1 _ refl e in
    let e₂ = not_failed (not (same_octets (take 3 b) (0x48 ∷ 0x4C ∷ 0x42 ∷ []))) 2 _ refl e₁.1 in
    let e₃ = not_failed (not (same_octets (take 2 (drop 3 b)) (0 ∷ 1 ∷ []))) 3 _ refl e₂.1 in
    let e₄ = not_failed (not (between 1 16 n)) 4 _ refl e₃.1 in
    let counted = not-false (between 1 16 n) e₄.0 in
    record {
      entries = entries_right n 0 (drop 6 b) e₄.1;
      some = rw (entries_length n (drop 6 b)) (between_least 1 16 n counted);
      few = rw (entries_length n (drop 6 b)) (between_most 1 16 n counted);
    }
