-- What stands at a place of a list: told by tests on numbers, as the code tells it; the facts of a whole element; and from it the
-- items from there on. Each goes by what is left of the list there: nothing, one octet, or two and more.
use Prim.Native.Nat.{ℕ, suc, ◌+◌, ◌-◌, ◌≤◌, ◌<◌}
use mathlib.Core.Path.{◌≡◌, refl, sym, ap, ap₂, ◌∙◌, subst}
use mathlib.Core.List.{List, [], ◌∷◌}
use native.Mathlib.Nat.{add-zero}
use native.Mathlib.Numerals.{add-one, add-two}
use native.Mathlib.Omega.{arith}
use lib.ListN.{length, take, drop, get_or, length-drop, drop_of_length-le}
use lib.Seq.{drop-cons, drop-drop, get_or-drop, length-take-le}
use lib.Dec.{leb}
use borrow.Author.Tests.{le-leb, lt-leb, leb-true, leb-false}
use Rattle.rules.specs.Elements.{whole, items}
use Rattle.rules.proofs.Tests.{Told?, passed, failed, told}
use Rattle.rules.proofs.Lists.{items_none, items_lone, items_short, items_whole}
use Rattle.elements_reader.specs.Standing.{element_of, element_at, items_by}
use Rattle.elements_reader.specs.declared.Element.{Element}
use Rattle.elements_reader.specs.declared.Element.TheVariants.{End, Short, Whole}

-- ---- By tests on numbers

pub head_end : (l : List ℕ) (at : ℕ) → length l ≤ at → End ≡ element_at l at
unfolding element_at element_of
head_end l at h = rw (drop_of_length-le l h)

pub head_lone : (l : List ℕ) (at : ℕ) → at < length l → length l - at < 2 → Short (get_or l at 0) ≡ element_at l at
unfolding element_at element_of
head_lone l at h k = rw (drop-cons l at 0 h, drop_of_length-le l {i = suc at} (omega arith))

-- two octets and what is left behind them
two_there : (l : List ℕ) (at : ℕ) → at + 1 < length l → drop at l ≡ get_or l at 0 ∷ get_or l (at + 1) 0 ∷ drop (at + 2) l
two_there l at h = rw (drop-cons l at 0 (omega arith), add-one, add-two, drop-cons l (suc at) 0 (omega arith))

pub head_cut : (l : List ℕ) (at : ℕ) → at < length l → 2 ≤ length l - at → length l - at - 2 < get_or l (at + 1) 0
    → Short (get_or l at 0) ≡ element_at l at
unfolding element_at element_of
head_cut l at h k s =
    rw (two_there l at (omega arith), lt-leb (get_or l (at + 1) 0) (length (drop (at + 2) l)) (rw length-drop (omega arith)))

pub head_whole : (l : List ℕ) (at : ℕ) → at < length l → 2 ≤ length l - at → get_or l (at + 1) 0 ≤ length l - at - 2
    → Whole (get_or l at 0) (get_or l (at + 1) 0) (at + 2) ≡ element_at l at
unfolding element_at element_of
head_whole l at h k s =
    rw (two_there l at (omega arith), le-leb (get_or l (at + 1) 0) (length (drop (at + 2) l)) (rw length-drop (omega arith)))

-- ---- What stands there is there

abbrev pub Stands : List ℕ → ℕ → Element → Type 0
Stands l at End = length l ≤ at
Stands l at (Short c) = (at < length l) × (c ≡ get_or l at 0)
Stands l at (Whole c n first) = (c ≡ get_or l at 0) × (n ≡ get_or l (at + 1) 0) × (first ≡ at + 2) × (first + n ≤ length l)

pub stands : (l : List ℕ) (at : ℕ) → Stands l at (element_at l at)
unfolding element_at element_of
stands l at = go (drop at l) (length-drop at l) (get_or-drop at l 0 0) (get_or-drop at l 1 0)
  where
    go : (d : List ℕ) → length d ≡ length l - at → get_or d 0 0 ≡ get_or l (at + 0) 0 → get_or d 1 0 ≡ get_or l (at + 1) 0
        → Stands l at (element_of d at)
    go [] e f g = omega arith
    go (c ∷ []) e f g = (omega arith, rw add-zero at f)
    go (c ∷ n ∷ xs) e f g = fits (told (leb n (length xs)))
      where
        fits : Told? (leb n (length xs)) → Stands l at (element_of (c ∷ n ∷ xs) at)
        fits (passed t) = rw t (rw add-zero at f, g, refl, omega (arith, leb-true n (length xs) t))
        fits (failed t) = rw t (omega arith, rw add-zero at f)

pub stands_whole : (l : List ℕ) (at c n first : ℕ) → Whole c n first ≡ element_at l at → Stands l at (Whole c n first)
stands_whole l at c n first e = subst (Stands l at) (sym e) (stands l at)

-- a value of n octets that is in the list
pub part_length : (l : List ℕ) (first n : ℕ) → first + n ≤ length l → length (take n (drop first l)) ≡ n
part_length l first n h = length-take-le n (drop first l) (rw length-drop (omega arith))

pub value_length : (l : List ℕ) (at c n first : ℕ) → Whole c n first ≡ element_at l at → length (take n (drop first l)) ≡ n
value_length l at c n first e = part_length l first n (stands_whole l at c n first e).3

-- ---- The items from there on

-- what is left behind two octets
pub behind : (l : List ℕ) (at : ℕ) {c n : ℕ} {xs : List ℕ} → drop at l ≡ c ∷ n ∷ xs → xs ≡ drop (at + 2) l
behind l at e = sym (ap (drop 2) e) ∙ drop-drop 2 at l

pub items_by_lem : (l : List ℕ) (at : ℕ) → items (drop at l) ≡ items_by (element_at l at) l
unfolding element_at element_of items_by
items_by_lem l at = go (drop at l) refl
  where
    go : (d : List ℕ) → drop at l ≡ d → items d ≡ items_by (element_of d at) l
    go [] e = items_none
    go (c ∷ []) e = items_lone c
    go (c ∷ n ∷ xs) e = fits (told (leb n (length xs)))
      where
        fits : Told? (leb n (length xs)) → items (c ∷ n ∷ xs) ≡ items_by (element_of (c ∷ n ∷ xs) at) l
        fits (passed t) =
            rw t
            (items_whole c n xs (leb-true n (length xs) t)
            ∙ ap₂ (λ (v r : List ℕ). whole c v ∷ items r) (ap (take n) (behind l at e))
            (ap (drop n) (behind l at e) ∙ drop-drop n (at + 2) l))
        fits (failed t) = rw t (items_short c n xs (leb-false n (length xs) t))
