-- Laws of `items`: the four cases of a list each by its test, from them that written elements are read again, by induction on the
-- items, and that no more octets are written than were read, by induction on the octets.
use Prim.Native.Nat.{ℕ, zero, suc, ◌-◌, ◌≤◌, ◌<◌, zero-le}
use native.Mathlib.Nat.{le_trans, sub-zero, suc-sub-suc}
use native.Mathlib.Omega.{arith}
use mathlib.Core.Path.{◌≡◌, refl, sym, ap, ap₂, ◌∙◌}
use mathlib.Core.List.{List, [], ◌∷◌, ◌++◌}
use mathlib.Core.Bool.{Bool, true, false}
use lib.ListN.{length, take, drop, length-append, take-append-drop}
use lib.Seq.{take-append_seam, drop-append_seam, drop-nil, length-take-le}
use lib.Dec.{leb}
use borrow.Author.Tests.{le-leb, lt-leb, leb-true}
use Rattle.rules.specs.Octets.{each_of}
use Rattle.std.specs.Prelude.{if◌then◌else◌}
use Rattle.rules.specs.Elements.{Item, whole, short, headed, items_past, items, element}
use Rattle.rules.specs.Book.{written, up_to_codec}
use Rattle.rules.proofs.Tests.{Told?, passed, failed, told, clash}

-- ---- The four cases

pub items_skip : (l : List ℕ) (k : ℕ) → items_past l k ≡ items (drop k l)
unfolding items_past
items_skip [] k = ap (λ (l : List ℕ). items l) (sym (drop-nil k))
items_skip (x ∷ xs) zero = refl
items_skip (x ∷ xs) (suc k) = items_skip xs k

pub items_none : items [] ≡ []
unfolding items_past
items_none = refl

pub items_lone : (c : ℕ) → items (c ∷ []) ≡ short c ∷ []
unfolding items_past headed
items_lone c = refl

pub items_short : (c n : ℕ) (l : List ℕ) → length l < n → items (c ∷ n ∷ l) ≡ short c ∷ []
unfolding items_past headed
items_short c n l h = rw (lt-leb n (length l) h)

pub items_whole : (c n : ℕ) (l : List ℕ) → n ≤ length l → items (c ∷ n ∷ l) ≡ whole c (take n l) ∷ items (drop n l)
unfolding items_past headed
items_whole c n l h = rw (le-leb n (length l) h) (ap (λ (is : List Item). whole c (take n l) ∷ is) (items_skip l n))

-- ---- Written elements are read again

pub items_element : (c : ℕ) (v l : List ℕ) → items (element c v ++ l) ≡ whole c v ∷ items l
unfolding element
items_element c v l =
    items_whole c (length v) (v ++ l) (rw length-append (omega arith))
    ∙ ap₂ (λ (w r : List ℕ). whole c w ∷ items r) (take-append_seam v l) (drop-append_seam v l)

unfoldable pub is_whole : Item → Bool
is_whole (whole c v) = true
is_whole (short c) = false

pub items_written : (is : List Item) → each_of is_whole is ≡ true → items (written is) ≡ is
unfolding written each_of is_whole
items_written [] e = items_none
items_written (short c ∷ is) e = clash refl (sym e)
items_written (whole c v ∷ is) e =
    items_element c v (written is) ∙ ap (λ (r : List Item). whole c v ∷ r) (items_written is e)

-- a list that is read as whole elements is those elements written
past_written : (l : List ℕ) (k : ℕ) → each_of is_whole (items_past l k) ≡ true → written (items_past l k) ≡ drop k l
unfolding items_past headed written element each_of is_whole
past_written [] k e = sym (drop-nil k)
past_written (x ∷ xs) (suc k) e = past_written xs k e
past_written (x ∷ []) zero e = clash refl (sym e)
past_written (x ∷ n ∷ l) zero e = go (told (leb n (length l))) (past_written l n)
  where
    go : Told? (leb n (length l)) → (each_of is_whole (items_past l n) ≡ true → written (items_past l n) ≡ drop n l)
        → written (items_past (x ∷ n ∷ l) 0) ≡ x ∷ n ∷ l
    go (passed t) rest =
        let behind = rest (rw t at e) in
        rw (t, behind, length-take-le n l (leb-true n (length l) t))
        (ap (λ (r : List ℕ). x ∷ n ∷ r) (take-append-drop n l))
    go (failed t) rest = clash refl (sym (rw t at e))

pub written_items : (l : List ℕ) → each_of is_whole (items l) ≡ true → written (items l) ≡ l
written_items l e = past_written l 0 e

-- what 02 shows is whole
shown_whole : (is : List Item) → each_of is_whole (up_to_codec is) ≡ true
unfolding up_to_codec each_of is_whole
shown_whole [] = refl
shown_whole (short c ∷ is) = shown_whole is
shown_whole (whole c v ∷ is) = go (leb c 7) (shown_whole is)
  where
    go : (b : Bool) → each_of is_whole (up_to_codec is) ≡ true
        → each_of is_whole (if b then whole c v ∷ up_to_codec is else up_to_codec is) ≡ true
    go true e = e
    go false e = e

pub items_shown : (is : List Item) → items (written (up_to_codec is)) ≡ up_to_codec is
items_shown is = items_written (up_to_codec is) (shown_whole is)

-- ---- No more octets are written than were read

headed_length : (c n : ℕ) (l : List ℕ) (rest : List Item) → length (written rest) ≤ length l - n → Told? (leb n (length l))
    → length (written (headed c (n ∷ l) rest)) ≤ length (c ∷ n ∷ l)
unfolding headed written element
headed_length c n l rest h (passed e) =
    rw (e, length-append, length-take-le n l (leb-true n (length l) e)) (omega (arith, leb-true n (length l) e))
headed_length c n l rest h (failed e) = rw e zero-le

past_length : (l : List ℕ) (k : ℕ) → length (written (items_past l k)) ≤ length l - k
unfolding items_past headed written
past_length [] k = zero-le
past_length (x ∷ xs) (suc k) = rw suc-sub-suc (past_length xs k)
past_length (x ∷ []) zero = zero-le
past_length (x ∷ n ∷ l) zero = rw sub-zero (headed_length x n l (items_past l n) (past_length l n) (told (leb n (length l))))

pub written_length : (l : List ℕ) → length (written (items l)) ≤ length l
written_length l = rw sub-zero at (past_length l 0)

shown_fewer : (is : List Item) → length (written (up_to_codec is)) ≤ length (written is)
unfolding written up_to_codec element
shown_fewer [] = zero-le
shown_fewer (short c ∷ is) = shown_fewer is
shown_fewer (whole c v ∷ is) = go (leb c 7) (shown_fewer is)
  where
    go : (b : Bool) → length (written (up_to_codec is)) ≤ length (written is)
        → length (written (if b then whole c v ∷ up_to_codec is else up_to_codec is)) ≤ length (element c v ++ written is)
    go true h = simp length-append (omega arith)
    go false h = simp length-append (omega arith)

pub shown_length : (l : List ℕ) → length (written (up_to_codec (items l))) ≤ length l
shown_length l = le_trans (shown_fewer (items l)) (written_length l)
