-- What stands at a place of a list of elements, as the code tells it, and the items from there on.
use Rattle.std.specs.Prelude.{ℕ, ◌+◌, List, [], ◌∷◌, length, take, drop, leb, if◌then◌else◌}
use Rattle.rules.specs.Elements.{Item, whole, short, items}
use Rattle.elements_reader.specs.declared.Element.{Element}
use Rattle.elements_reader.specs.declared.Element.TheVariants.{End, Short, Whole}

-- at the head of what is left of a list from the place `at` on
unfoldable pub element_of : List ℕ → ℕ → Element
element_of [] at = End
element_of (c ∷ []) at = Short c
element_of (c ∷ n ∷ xs) at = if leb n (length xs) then Whole c n (at + 2) else Short c

unfoldable pub element_at : List ℕ → ℕ → Element
element_at l at = element_of (drop at l) at

-- the items from there on, by what stands there
unfoldable pub items_by : Element → List ℕ → List Item
items_by End l = []
items_by (Short c) l = short c ∷ []
items_by (Whole c n first) l = whole c (take n (drop first l)) ∷ items (drop (first + n) l)
