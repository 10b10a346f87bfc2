-- Marks: what is marked of a category once an element was passed; which categories marks show as seen; that they tell which
-- categories a list has; and the marks from a place on, by what stands there. The lists go by their octets, the rest by cases.
use Prim.Native.Nat.{ℕ, zero, suc, ◌+◌}
use mathlib.Core.Path.{◌≡◌, refl, sym, ap, ap₂, ◌∙◌}
use mathlib.Core.List.{List, [], ◌∷◌, ◌++◌, append-nil}
use mathlib.Core.Bool.{Bool, true, false, not, ◌&&◌, ◌||◌}
use native.Mathlib.Nat.{add-zero}
use native.Mathlib.Omega.{arith}
use lib.ListN.{length, drop}
use lib.Seq.{drop-drop, drop-nil}
use lib.Dec.{leb, eqb}
use borrow.Author.Tests.{eq-eqb, ne_eqb, eqb-true, eqb-false}
use Rattle.rules.specs.Octets.{member, some_of}
use Rattle.std.specs.Prelude.{if◌then◌else◌}
use Rattle.rules.specs.Elements.{Category, category_of, transport, reporting, recovery, protection, compression, multiplexing}
use Rattle.rules.specs.Elements.{codec, delaying, strange, is_strange, items_past, headed, is_of, has}
use Rattle.rules.proofs.Tests.{Told?, passed, failed, told, clash}
use Rattle.elements_reader.specs.Standing.{element_of, element_at}
use Rattle.elements_reader.specs.declared.Element.{Element}
use Rattle.elements_reader.specs.declared.Element.TheVariants.{End, Short, Whole}
use Rattle.elements_reader.proofs.Stands.{behind, stands_whole}
use Rattle.elements.specs.Marks.{mark_of, marked, is_whole, marks_past, marks_from, seen_as, seen_in}
use Rattle.elements.specs.declared.marks.Marks.{Marks}
use Rattle.elements_offers.proofs.Categories.{number_of, known_number}

-- ---- An element passed

mark_by : (k : Category) (c first : ℕ) (m : Marks) → is_strange k ≡ false
    → mark_of k (marked c first m) ≡ if eqb c (number_of k) then first else mark_of k m
unfolding mark_of marked number_of is_strange
mark_by transport c first m e = refl
mark_by reporting c first m e = refl
mark_by recovery c first m e = refl
mark_by protection c first m e = refl
mark_by compression c first m e = refl
mark_by multiplexing c first m e = refl
mark_by codec c first m e = refl
mark_by delaying c first m e = refl
mark_by strange c first m e = clash refl e

pub mark_passed : (d c first : ℕ) (m : Marks) → is_strange (category_of d) ≡ false
    → mark_of (category_of d) (marked c first m) ≡ if eqb c d then first else mark_of (category_of d) m
mark_passed d c first m e =
    mark_by (category_of d) c first m e ∙ ap (λ n. if eqb c n then first else mark_of (category_of d) m) (known_number d e)

-- a category has its mark
unfoldable pub is_marked : ℕ → Marks → Bool
is_marked c m = not (eqb (mark_of (category_of c) m) 0)

pub marked_passed : (d c first : ℕ) (m : Marks) → is_strange (category_of d) ≡ false → (first ≡ 0 → ⊥)
    → is_marked d (marked c first m) ≡ eqb d c || is_marked d m
unfolding is_marked
marked_passed d c first m e f = ap (λ n. not (eqb n 0)) (mark_passed d c first m e) ∙ go (told (eqb d c))
  where
    go : Told? (eqb d c) → not (eqb (if eqb c d then first else mark_of (category_of d) m) 0) ≡ eqb d c || is_marked d m
    go (passed t) = rw (t, eq-eqb c d (sym (eqb-true d c t)), ne_eqb first 0 f)
    go (failed t) = rw (t, ne_eqb c d (λ p. eqb-false d c t (sym p)))

-- ---- What is seen

or_false : (a : Bool) → a || false ≡ a
or_false true = refl
or_false false = refl

-- one category of the list of those seen
seen_one : (c k place : ℕ) (rest : List ℕ) → member c (seen_as k place ++ rest) ≡ eqb c k && not (eqb place 0) || member c rest
unfolding seen_as member
seen_one c k place rest = shown (eqb place 0) ∙ chosen (eqb c k) (eqb place 0) (member c rest)
  where
    shown : (b : Bool) → member c ((if b then [] else k ∷ []) ++ rest) ≡ if b then member c rest else eqb c k || member c rest
    shown true = refl
    shown false = refl

    chosen : (a b r : Bool) → (if b then r else a || r) ≡ (a && not b) || r
    chosen true true r = refl
    chosen true false r = refl
    chosen false true r = refl
    chosen false false r = refl

seen_last : (c k place : ℕ) → member c (seen_as k place) ≡ eqb c k && not (eqb place 0) || false
unfolding member
seen_last c k place = ap (member c) (sym (append-nil (seen_as k place))) ∙ seen_one c k place []

seen_all : (c : ℕ) (m : Marks)
    → member c (seen_in m)
    ≡ eqb c 1 && not (eqb m.transport 0) || (eqb c 2 && not (eqb m.reporting 0)
    || (eqb c 3 && not (eqb m.recovery 0) || (eqb c 4 && not (eqb m.protection 0)
    || (eqb c 5 && not (eqb m.compression 0) || (eqb c 6 && not (eqb m.multiplexing 0)
    || (eqb c 7 && not (eqb m.codec 0) || (eqb c 8 && not (eqb m.delaying 0) || false)))))))
unfolding seen_in member
seen_all c m = simp (seen_one, seen_last)

seen_by : (k : Category) (m : Marks) → is_strange k ≡ false → member (number_of k) (seen_in m) ≡ not (eqb (mark_of k m) 0)
unfolding number_of mark_of is_strange
seen_by transport m e = simp (seen_all 1 m, or_false)
seen_by reporting m e = simp (seen_all 2 m, or_false)
seen_by recovery m e = simp (seen_all 3 m, or_false)
seen_by protection m e = simp (seen_all 4 m, or_false)
seen_by compression m e = simp (seen_all 5 m, or_false)
seen_by multiplexing m e = simp (seen_all 6 m, or_false)
seen_by codec m e = simp (seen_all 7 m, or_false)
seen_by delaying m e = simp (seen_all 8 m, or_false)
seen_by strange m e = clash refl e

-- A category is seen where it has its mark.
pub seen_marked : (c : ℕ) (m : Marks) → is_strange (category_of c) ≡ false → member c (seen_in m) ≡ is_marked c m
unfolding is_marked
seen_marked c m e = ap (λ n. member n (seen_in m)) (sym (known_number c e)) ∙ seen_by (category_of c) m e

pub seen_mark : (c : ℕ) (m : Marks) → is_strange (category_of c) ≡ false
    → member c (seen_in m) ≡ not (eqb (mark_of (category_of c) m) 0)
unfolding is_marked
seen_mark c m e = seen_marked c m e

-- ---- What a list has, its marks tell

has_past : (c : ℕ) → is_strange (category_of c) ≡ false → (l : List ℕ) (k at : ℕ) (m : Marks)
    → has c (items_past l k) || is_marked c m ≡ is_marked c (marks_past l k at m)
unfolding has some_of is_of items_past headed marks_past is_whole
has_past c e [] k at m = refl
has_past c e (x ∷ xs) (suc k) at m = has_past c e xs k (suc at) m
has_past c e (x ∷ []) zero at m = refl
has_past c e (x ∷ n ∷ xs) zero at m = go (told (leb n (length xs))) (has_past c e xs n (suc (suc at)) (marked x (at + 2) m))
  where
    swap : (a b r : Bool) → (a || b) || r ≡ b || (a || r)
    swap true true r = refl
    swap true false r = refl
    swap false b r = refl

    go : Told? (leb n (length xs))
        → has c (items_past xs n) || is_marked c (marked x (at + 2) m)
        ≡ is_marked c (marks_past xs n (suc (suc at)) (marked x (at + 2) m))
        → has c (items_past (x ∷ n ∷ xs) 0) || is_marked c m ≡ is_marked c (marks_past (x ∷ n ∷ xs) 0 at m)
    go (passed t) step =
        rw t
        (swap (eqb c x) (has c (items_past xs n)) (is_marked c m)
        ∙ ap (λ b. has c (items_past xs n) || b) (sym (marked_passed c x (at + 2) m e (omega arith)))
        ∙ step)
    go (failed t) step = rw t

-- ---- The marks from a place on

-- the marks by what stands there
unfoldable pub marks_by : Element → List ℕ → Marks → Marks
marks_by End l m = m
marks_by (Short c) l m = m
marks_by (Whole c n first) l m = marks_from l (first + n) (marked c first m)

marks_skip : (l : List ℕ) (k at : ℕ) (m : Marks) → marks_past l k at m ≡ marks_past (drop k l) 0 (at + k) m
unfolding marks_past
marks_skip [] k at m = rw (drop-nil {A = ℕ} k)
marks_skip (x ∷ xs) zero at m = rw add-zero
marks_skip (x ∷ xs) (suc k) at m = marks_skip xs k (suc at) m ∙ ap (λ (n : ℕ). marks_past (drop k xs) 0 n m) (omega arith)

pub marks_by_lem : (l : List ℕ) (at : ℕ) (m : Marks) → marks_from l at m ≡ marks_by (element_at l at) l m
unfolding element_at element_of marks_by marks_from marks_past is_whole
marks_by_lem l at m = go (drop at l) refl
  where
    go : (d : List ℕ) → drop at l ≡ d → marks_past d 0 at m ≡ marks_by (element_of d at) l m
    go [] e = refl
    go (c ∷ []) e = refl
    go (c ∷ n ∷ xs) e = fits (told (leb n (length xs)))
      where
        fits : Told? (leb n (length xs)) → marks_past (c ∷ n ∷ xs) 0 at m ≡ marks_by (element_of (c ∷ n ∷ xs) at) l m
        fits (passed t) =
            rw t
            (marks_skip xs n (suc (suc at)) (marked c (at + 2) m)
            ∙ ap₂ (λ (d : List ℕ) (k : ℕ). marks_past d 0 k (marked c (at + 2) m))
            (ap (drop n) (behind l at e) ∙ drop-drop n (at + 2) l) (omega arith))
        fits (failed t) = rw t

-- where no whole element stands, there are no more
pub marks_end : (l : List ℕ) (at : ℕ) (m : Marks) (h : Element) → h ≡ element_at l at
    → ((c n first : ℕ) → h ≡ Whole c n first → ⊥) → m ≡ marks_from l at m
unfolding marks_by
marks_end l at m End e none = ap (λ h. marks_by h l m) e ∙ sym (marks_by_lem l at m)
marks_end l at m (Short c) e none = ap (λ h. marks_by h l m) e ∙ sym (marks_by_lem l at m)
marks_end l at m (Whole c n first) e none = absurd (none c n first refl)

-- where one stands, it is marked
pub marks_on : (l : List ℕ) (at : ℕ) (m : Marks) (c n first : ℕ) → Whole c n first ≡ element_at l at
    → marks_from l (first + n) (marked c first m) ≡ marks_from l at m
unfolding marks_by
marks_on l at m c n first e = ap (λ h. marks_by h l m) e ∙ sym (marks_by_lem l at m)

-- what a walk that marks goes by, at each turn
pub ruleset turns = (stands_whole, marks_end, marks_on)
