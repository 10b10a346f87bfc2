-- The laws of a book's entries by their places: the number of the entries is the first entry's, unless that is 0, and then the
-- number of those behind it. What stands behind a place, `drop at b`, is read there by the laws of `drop`.
use Prim.Native.Nat.{ℕ, suc, ◌+◌, ◌-◌, ◌≤◌, ◌<◌}
use native.Mathlib.Nat.{add-zero}
use native.Mathlib.Omega.{arith}
use mathlib.Core.Path.{◌≡◌, refl, sym, ◌∙◌}
use mathlib.Core.List.{List, [], ◌∷◌}
use mathlib.Core.Bool.{Bool, true, false, not, ◌&&◌}
use lib.ListN.{length, take, drop, get_or, length-drop}
use lib.Seq.{get_or-drop, drop-drop, drop-cons, drop-length}
use lib.Dec.{leb, ltb, eqb}
use borrow.Author.Tests.{ltb-false, eqb-true, eqb-false, not-false, ne_eqb}
use Rattle.rules.specs.Octets.{between, same_octets, is_empty}
use Rattle.std.specs.Prelude.{if◌then◌else◌}
use Rattle.rules.specs.Elements.{items}
use Rattle.rules.specs.Book.{kind_right, media_type, list_right, entries_number, book_number}
use Rattle.rules.proofs.Tests.{Told?, told, passed, failed}
use Rattle.rules.proofs.RightBook.{not_failed}
use Rattle.book.specs.Entries.{entry_number, RightEntry}

-- ---- The first entry and those behind it

-- a chain of six tests that ends in some number is the same chain that ends in 0, where that is not 0
six : (a b c d e f : Bool) (rest : ℕ)
    → (if a then 1 else if b then 5 else if c then 6 else if d then 7 else if e then 1 else if f then 7 else rest)
    ≡ (let z : ℕ = if a then 1 else if b then 5 else if c then 6 else if d then 7 else if e then 1 else if f then 7 else 0 in
    if eqb z 0 then rest else z)
six true b c d e f rest = refl
six false true c d e f rest = refl
six false false true d e f rest = refl
six false false false true e f rest = refl
six false false false false true f rest = refl
six false false false false false true rest = refl
six false false false false false false rest = refl

entries_step : (n before : ℕ) (b : List ℕ) (at : ℕ) → entries_number (suc n) before (drop at b)
    ≡ (if eqb (entry_number before b at) 0 then entries_number n (get_or b at 0) (drop (at + 3 + get_or b (at + 2) 0) b)
    else entry_number before b at)
unfolding entries_number entry_number
entries_step n before b at =
    let seid = get_or b at 0 in
    let kind = get_or b (at + 1) 0 in
    let size = get_or b (at + 2) 0 in
    simp (length-drop, get_or-drop, drop-drop, add-zero)
    (six (ltb (length b - at) 3) (not (ltb before seid && leb seid 62)) (not (kind_right kind)) (ltb 64 size)
    (ltb (length b - (at + 3)) size) (not (list_right (media_type kind) (items (take size (drop (at + 3) b)))))
    (entries_number n seid (drop (at + 3 + size) b)))

-- the first entry ends the check where it is wrong, and else those behind it go on
pub entries_end : (n left before : ℕ) (b : List ℕ) (at : ℕ) → left ≡ suc n → (entry_number before b at ≡ 0 → ⊥)
    → entry_number before b at ≡ entries_number left before (drop at b)
entries_end n left before b at e w = sym (rw (e, entries_step n before b at, ne_eqb (entry_number before b at) 0 w))

pub entries_go_on : (n left before : ℕ) (b : List ℕ) (at : ℕ) → left ≡ suc n → entry_number before b at ≡ 0
    → entries_number left before (drop at b) ≡ entries_number n (get_or b at 0) (drop (at + 3 + get_or b (at + 2) 0) b)
entries_go_on n left before b at e r = rw (e, entries_step n before b at, r)

-- ---- No more entries

pub none_left : (before : ℕ) (b : List ℕ) (at : ℕ) → at ≡ length b → entries_number 0 before (drop at b) ≡ 0
unfolding entries_number is_empty
none_left before b at e = rw (e, drop-length b)

pub some_left : (before : ℕ) (b : List ℕ) (at : ℕ) → at < length b → entries_number 0 before (drop at b) ≡ 1
unfolding entries_number is_empty
some_left before b at h = rw (drop-cons b at 0 h)

-- ---- Right entries

pub right_entry : (before : ℕ) (b : List ℕ) (at : ℕ) → entry_number before b at ≡ 0 → RightEntry b at
unfolding entry_number
right_entry before b at e =
    let seid = get_or b at 0 in
    let kind = get_or b (at + 1) 0 in
    let size = get_or b (at + 2) 0 in
    let e₁ = not_failed (ltb (length b - at) 3) 1 _ refl e in
    let e₂ = not_failed (not (ltb before seid && leb seid 62)) 5 _ refl e₁.1 in
    let e₃ = not_failed (not (kind_right kind)) 6 _ refl e₂.1 in
    let e₄ = not_failed (ltb 64 size) 7 _ refl e₃.1 in
    let e₅ = not_failed (ltb (length b - (at + 3)) size) 1 _ refl e₄.1 in
    let listed = list_right (media_type kind) (items (take size (drop (at + 3) b))) in
    let e₆ = not_failed (not listed) 7 _ refl e₅.1 in
    let headed = ltb-false (length b - at) 3 e₁.0 in
    let short = ltb-false 64 size e₄.0 in
    let whole = ltb-false (length b - (at + 3)) size e₅.0 in
    record {
      inside = omega arith;
      short = short;
      kind = not-false (kind_right kind) e₃.0;
      listed = not-false listed e₆.0;
    }

-- n right entries from a place of b on, and nothing behind them
pub record RightEntries (n : ℕ) (b : List ℕ) (at : ℕ) : Type 0 where
  pub before : ℕ
  pub right : entries_number n before (drop at b) ≡ 0

both_right : (x y : ℕ) → Told? (eqb x 0) → (if eqb x 0 then y else x) ≡ 0 → (x ≡ 0) × (y ≡ 0)
both_right x y (passed t) e = (eqb-true x 0 t, rw t at e)
both_right x y (failed f) e = let z : x ≡ 0 = rw f at e in (z, absurd (eqb-false x 0 f z))

first_right : (n left : ℕ) (b : List ℕ) (at : ℕ) → left ≡ suc n → (r : RightEntries left b at) → entry_number r.before b at ≡ 0
first_right n left b at e r =
    (both_right (entry_number r.before b at) _ (told (eqb (entry_number r.before b at) 0))
    (sym (entries_step n r.before b at) ∙ (rw e at r.right))).0

pub first_entry : (n left : ℕ) (b : List ℕ) (at : ℕ) → left ≡ suc n → RightEntries left b at → RightEntry b at
first_entry n left b at e r = right_entry r.before b at (first_right n left b at e r)

pub other_entries : (n left : ℕ) (b : List ℕ) (at : ℕ) → left ≡ suc n → RightEntries left b at
    → RightEntries n b (at + 3 + get_or b (at + 2) 0)
other_entries n left b at e r =
    record {
      before = get_or b at 0;
      right = sym (entries_go_on n left r.before b at e (first_right n left b at e r)) ∙ r.right;
    }

-- ---- A right book

pub record RightHead (b : List ℕ) : Type 0 where
  pub headed : 6 ≤ length b
  pub entries : RightEntries (get_or b 5 0) b 6

pub right_head : (b : List ℕ) → book_number b ≡ 0 → RightHead b
unfolding book_number
right_head b e =
    let e₁ = not_failed (ltb (length b) 6) 1 _ refl e in
    let e₂ = not_failed (not (same_octets (take 3 b) (0x48 ∷ 0x4C ∷ 0x42 ∷ []))) 2 _ refl e₁.1 in
    let e₃ = not_failed (not (same_octets (take 2 (drop 3 b)) (0 ∷ 1 ∷ []))) 3 _ refl e₂.1 in
    let e₄ = not_failed (not (between 1 16 (get_or b 5 0))) 4 _ refl e₃.1 in
    record { headed = ltb-false (length b) 6 e₁.0; entries = record { before = 0; right = e₄.1 } }
