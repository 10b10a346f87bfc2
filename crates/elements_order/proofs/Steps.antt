-- The steps of the walk, for the prover: what is in order from a place of a list on, by what stands there.
use Rattle.std.proofs.Common.{ℕ, ◌+◌, ◌≤◌, ◌≡◌, refl, ap, List, [], ◌∷◌, Bool, true, false, ◌&&◌, length, drop, arith}
use mathlib.Core.Path.{sym, ◌∙◌}
use mathlib.Core.Bool.{◌||◌}
use lib.Dec.{leb, eqb}
use borrow.Author.Tests.{le-leb, lt-leb, ne_eqb}
use Rattle.octets.specs.Patch.{part}
use Rattle.rules.specs.Octets.{member}
use Rattle.rules.specs.Elements.{Item, whole, short, items}
use Rattle.elements_reader.specs.Orders.{followers, in_order}
use Rattle.elements_reader.specs.Standing.{element_at, items_by}
use Rattle.elements_reader.specs.declared.Element.{Element}
use Rattle.elements_reader.specs.declared.Element.TheVariants.{End, Short, Whole}
use Rattle.elements_reader.proofs.Stands.{Stands, stands, stands_whole, items_by_lem}

module _ (again : Bool) (test : ℕ → List ℕ → Bool) (last : ℕ) (l : List ℕ) (at : ℕ) where
  -- what is in order there, by what stands there
  by_element : {h : Element} → h ≡ element_at l at
      → in_order again test last (items (drop at l)) ≡ in_order again test last (items_by h l)
  by_element e = ap (in_order again test last) (items_by_lem l at ∙ ap (λ h. items_by h l) (sym e))

  pub at_end : End ≡ element_at l at → in_order again test last (items (drop at l)) ≡ leb 7 last
  unfolding items_by in_order
  at_end e = by_element e

  pub at_short : (c : ℕ) → Short c ≡ element_at l at → in_order again test last (items (drop at l)) ≡ false
  unfolding items_by in_order
  at_short c e = by_element e

  -- no whole element, where the codec was not passed
  pub at_none : (h : Element) → h ≡ element_at l at → ((c n first : ℕ) → h ≡ Whole c n first → ⊥) → leb 7 last ≡ false
      → in_order again test last (items (drop at l)) ≡ false
  at_none End e f k = at_end e ∙ k
  at_none (Short c) e f k = at_short c e
  at_none (Whole c n first) e f k = absurd (f c n first refl)

  module _ (c n first : ℕ) (e : Whole c n first ≡ element_at l at) where
    -- a whole element lies in the list
    pub within : first + n ≤ length l
    within = (stands_whole l at c n first e).3

    -- an element that may not follow
    pub at_other : member c (followers again last) ≡ false → in_order again test last (items (drop at l)) ≡ false
    unfolding items_by in_order
    at_other m = by_element e ∙ rw m

    -- one that may: its own test, and what is left behind it
    pub at_next : member c (followers again last) ≡ true
        → in_order again test last (items (drop at l))
        ≡ test c (part first n l) && in_order again test c (items (drop (first + n) l))
    unfolding items_by in_order part
    at_next m = by_element e ∙ rw m

    pub at_passed : member c (followers again last) ≡ true → test c (part first n l) ≡ true
        → in_order again test last (items (drop at l)) ≡ in_order again test c (items (drop (first + n) l))
    at_passed m t = at_next m ∙ rw t

    pub at_refused : member c (followers again last) ≡ true → test c (part first n l) ≡ false
        → in_order again test last (items (drop at l)) ≡ false
    at_refused m f = at_next m ∙ rw f

module _ (again : Bool) (test : ℕ → List ℕ → Bool) (l : List ℕ) (at : ℕ) where
  -- behind delay reporting nothing may follow
  pub at_last : in_order again test 8 (items (drop at l)) ≡ leb (length l) at
  unfolding followers member
  at_last = go (element_at l at) refl (stands l at)
    where
      go : (h : Element) → h ≡ element_at l at → Stands l at h → in_order again test 8 (items (drop at l)) ≡ leb (length l) at
      go End e s = at_end again test 8 l at e ∙ sym (le-leb (length l) at s)
      go (Short c) e s = at_short again test 8 l at c e ∙ sym (lt-leb (length l) at s.0)
      go (Whole c n first) e s = at_other again test 8 l at c n first e refl ∙ sym (lt-leb (length l) at (omega arith))

module _ (again : Bool) (test : ℕ → List ℕ → Bool) (l : List ℕ) (at c n first : ℕ) (e : Whole c n first ≡ element_at l at) where
  -- an element is judged alike behind two categories which it may both follow, or neither
  pub at_alike : (last other : ℕ) → member c (followers again last) ≡ member c (followers again other)
      → in_order again test last (items (drop at l)) ≡ in_order again test other (items (drop at l))
  unfolding items_by in_order
  at_alike last other m = by_element again test last l at e ∙ (rw m) ∙ sym (by_element again test other l at e)

  -- what is not reporting may follow the media transport where it may follow reporting
  pub at_unreported : (c ≡ 2 → ⊥) → in_order again test 1 (items (drop at l)) ≡ in_order again test 2 (items (drop at l))
  unfolding followers member
  at_unreported f = at_alike 1 2 (rw (ne_eqb c 2 f))

  pub at_delay : c ≡ 8 → test c (part first n l) ≡ true → in_order again test 7 (items (drop at l)) ≡ leb (length l) (first + n)
  unfolding followers member
  at_delay p t =
      at_passed again test 7 l at c n first e (rw p) t
      ∙ ap (λ k. in_order again test k (items (drop (first + n) l))) p
      ∙ at_last again test l (first + n)

-- where content protection may follow itself, the same may be left behind it and behind reporting
pub reporting_passed : (test : ℕ → List ℕ → Bool) (is : List Item) → in_order true test 4 is ≡ in_order true test 2 is
unfolding in_order followers
reporting_passed test [] = refl
reporting_passed test (short c ∷ is) = refl
reporting_passed test (whole c v ∷ is) = refl

-- the same, for a test that says so
pub at_again : (again : Bool) (test : ℕ → List ℕ → Bool) (is : List Item) → again ≡ true
    → in_order again test 2 is ≡ in_order again test 4 is
at_again again test is p = rw (p, reporting_passed test is)

-- a row of the table of what may follow, category by category
pub row_end : (c : ℕ) → member c [] ≡ false
unfolding member
row_end c = refl

pub row_next : (c d : ℕ) (ds : List ℕ) → member c (d ∷ ds) ≡ eqb c d || member c ds
unfolding member
row_next c d ds = refl

pub ruleset steps = (
  row_end,
  row_next,
  within,
  at_end,
  at_short,
  at_none,
  at_other,
  at_next,
  at_passed,
  at_refused,
  at_unreported,
  at_again,
  at_delay,
)
