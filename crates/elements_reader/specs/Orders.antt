-- The order in which the elements of a right list stand, as the walks of the code go by it: what may follow an element, what is
-- asked of each, and where the codec ends. That a walk by this order tells what the rules tell is proved in InOrder,
-- StoredInOrder and ShownInOrder.
use Rattle.std.specs.Prelude.{ℕ, ◌+◌, ◌%◌, ◌≡◌, List, [], ◌∷◌, Bool, false, not, ◌&&◌, ◌||◌, length, drop, get_or, leb, eqb}
use Rattle.std.specs.Prelude.{if◌then◌else◌}
use Rattle.rules.specs.Octets.{member}
use Rattle.rules.specs.Elements.{Item, whole, short, items, element, category_of, length_code, start_right, offered}

-- What may follow an element of the category `last` (0: it is the first). Content protection (4) may follow itself in an entry's
-- list, `again`, and not in a configuration.
unfoldable pub followers : Bool → ℕ → List ℕ
followers again last =
    get_or
    ((1 ∷ []) ∷ (2 ∷ 4 ∷ 7 ∷ []) ∷ (4 ∷ 7 ∷ []) ∷ [] ∷ (if again then 4 ∷ 7 ∷ [] else 7 ∷ []) ∷ [] ∷ [] ∷ (8 ∷ []) ∷ [])
    last []

-- A list, or what is left of one behind an element of the category `last`: its elements are whole, in order and pass a test of
-- their own, and the codec (7) is not missing.
unfoldable pub in_order : Bool → (ℕ → List ℕ → Bool) → ℕ → List Item → Bool
in_order again test last [] = leb 7 last
in_order again test last (short c ∷ is) = false
in_order again test last (whole c v ∷ is) = member c (followers again last) && test c v && in_order again test c is

-- what is asked of an element of an entry's list besides its place in the order
unfoldable pub offer_test : ℕ → ℕ → List ℕ → Bool
offer_test media c v = eqb (length_code (category_of c) (length v)) 0 && start_right media c v

-- a list that begins with the media transport, as every right list does
abbrev pub TransportFirst : List ℕ → Type 0
TransportFirst l = items l ≡ whole 1 [] ∷ items (drop 2 l)

-- the reserved nibble of a codec is zero
unfoldable pub reserved_zero : ℕ → List ℕ → Bool
reserved_zero c v = not (eqb c 7) || eqb (get_or v 0 0 % 16) 0

-- what is asked of an element of a configuration besides its place in the order
unfoldable pub setting_test : List Item → ℕ → List ℕ → Bool
setting_test caps c v = eqb (length_code (category_of c) (length v)) 0 && reserved_zero c v && offered caps c v

-- how many octets the elements take up to the end of the first codec
unfoldable pub codec_end : List Item → ℕ
codec_end [] = 0
codec_end (short c ∷ is) = 0
codec_end (whole c v ∷ is) = length (element c v) + (if eqb c 7 then 0 else codec_end is)
