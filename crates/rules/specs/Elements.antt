-- Lists of elements: how octets are read as elements, the checks of a list by its rule with the first failure, and what a stored
-- configuration is (document 01, The endpoint book and Elements).
use Rattle.std.specs.Prelude.{ℕ, zero, suc, ◌/◌, ◌*◌, List, [], ◌∷◌, ◌++◌, Bool, true, false, not, ◌&&◌, ◌||◌, length, take}
use Rattle.std.specs.Prelude.{get_or, leb, ltb, eqb, if◌then◌else◌}
use Rattle.std.specs.Int.Bits.{bit_and}
use Rattle.rules.specs.Octets.{same_octets, member, some_of}
use Rattle.rules.specs.declared.Rule.{Rule}
use Rattle.rules.specs.declared.Rule.TheVariants.{Offer, Setting, Reconfiguring}
use Rattle.rules.specs.declared.Fault.{Fault}

-- ---- "A list of elements is empty, or one whole element followed by a list" (document 01, The endpoint book; 001, 8.21.1)

-- What stands at the head of a list that is not empty: a whole element with its category and value, or one that is cut short,
-- of which the first octet is taken for the category whatever it is.
pub data Item : Type 0 where
  whole : ℕ → List ℕ → Item
  short : ℕ → Item

-- The four cases of a list. Here the first octet c is split off and `rest` are the items behind the element: empty has no item;
-- a lone octet, and an element that runs past the end, are one short item; a whole element is followed by the rest.
unfoldable pub headed : ℕ → List ℕ → List Item → List Item
headed c [] rest = short c ∷ []
headed c (n ∷ xs) rest = if leb n (length xs) then whole c (take n xs) ∷ rest else short c ∷ []

-- k octets of the element before are still to be passed over
unfoldable pub items_past : List ℕ → ℕ → List Item
items_past [] k = []
items_past (x ∷ xs) (suc k) = items_past xs k
items_past (x ∷ xs) zero = headed x xs (items_past xs (suc (get_or xs 0 0)))

abbrev pub items : List ℕ → List Item
items l = items_past l 0

-- An element as it is written: category, length, value.
unfoldable pub element : ℕ → List ℕ → List ℕ
element c v = c ∷ length v ∷ v

-- ---- Categories (001, 8.21.1) and the lengths of their values (document 01, Elements)

pub data Category : Type 0 where
  transport reporting recovery protection compression multiplexing codec delaying : Category
  -- 0, or above 8
  strange : Category

unfoldable pub category_of : ℕ → Category
category_of c =
    get_or (strange ∷ transport ∷ reporting ∷ recovery ∷ protection ∷ compression ∷ multiplexing ∷ codec ∷ delaying ∷ []) c
    strange

-- The code for a value of n octets; 0 where the length is right.
unfoldable pub length_code : Category → ℕ → ℕ
length_code transport n = if eqb n 0 then 0 else 0x23
length_code reporting n = if eqb n 0 then 0 else 0x18
length_code recovery n = if eqb n 3 then 0 else 0x25
length_code protection n = if ltb n 2 then 0x27 else 0
length_code compression n = if eqb n 1 then 0 else 0x26
length_code multiplexing n = if eqb n 0 then 0x28 else 0
length_code codec n = if ltb n 2 then 0x18 else 0
length_code delaying n = if eqb n 0 then 0 else 0x18
length_code strange n = 0x17

-- ---- An element of an entry's list (document 01, The endpoint book)

-- the categories that a book can offer, ascending
unfoldable pub offerable : List ℕ
offerable = 1 ∷ 2 ∷ 4 ∷ 7 ∷ 8 ∷ []

-- ascending, each at most once but for 4; `before` is 0 where none stands before
unfoldable pub may_follow : ℕ → ℕ → Bool
may_follow before c = ltb before c || (eqb before 4 && eqb c 4)

-- 7 starts with media type times 16
unfoldable pub start_right : ℕ → ℕ → List ℕ → Bool
start_right media c v = not (eqb c 7) || eqb (get_or v 0 0) (media * 16)

-- The element after those of some categories, the nearest first: 0, or 7 where it breaks a rule.
unfoldable pub offer_code : ℕ → List ℕ → Item → ℕ
offer_code media seen (short c) = 7
offer_code media seen (whole c v) =
    if may_follow (get_or seen 0 0) c && member c offerable && eqb (length_code (category_of c) (length v)) 0
    && start_right media c v
    then 0 else 7

-- ---- Offered (document 01, Elements)

-- each octet has no bit that the offered octet lacks, and there are as many
unfoldable pub bits_within : List ℕ → List ℕ → Bool
bits_within [] [] = true
bits_within [] (y ∷ ys) = false
bits_within (x ∷ xs) [] = false
bits_within (x ∷ xs) (y ∷ ys) = eqb (bit_and x y) x && bits_within xs ys

-- A codec's value v is within the offered value w: same media type (high nibble; the low one is reserved), same codec type, and
-- then the bits.
unfoldable pub codec_within : List ℕ → List ℕ → Bool
codec_within (m ∷ t ∷ v) (m' ∷ t' ∷ w) = eqb (m / 16) (m' / 16) && eqb t t' && bits_within v w
codec_within (m ∷ t ∷ v) (m' ∷ []) = false
codec_within (m ∷ t ∷ v) [] = false
codec_within (m ∷ []) w = false
codec_within [] w = false

unfoldable pub value_within : Category → List ℕ → List ℕ → Bool
value_within transport v w = true
value_within reporting v w = true
value_within recovery v w = true
value_within protection v w = same_octets v w
value_within compression v w = true
value_within multiplexing v w = true
value_within codec v w = codec_within v w
value_within delaying v w = true
value_within strange v w = true

unfoldable pub offers_in : ℕ → List ℕ → Item → Bool
offers_in c v (short d) = false
offers_in c v (whole d w) = eqb c d && value_within (category_of c) v w

-- the list `caps` of an entry offers the element of category c and value v
unfoldable pub offered : List Item → ℕ → List ℕ → Bool
offered caps c v = some_of (offers_in c v) caps

-- ---- An element of a command (document 01, Elements; Commands, 03 and 05)

-- Reconfigure takes codecs and content protection only: 1, 2, 3, 5, 6 and 8 give 1Ah right after the category check.
unfoldable pub fixed : Rule → Category → Bool
fixed (Offer media) c = false
fixed Setting c = false
fixed Reconfiguring transport = true
fixed Reconfiguring reporting = true
fixed Reconfiguring recovery = true
fixed Reconfiguring protection = false
fixed Reconfiguring compression = true
fixed Reconfiguring multiplexing = true
fixed Reconfiguring codec = false
fixed Reconfiguring delaying = true
fixed Reconfiguring strange = false

unfoldable pub is_strange : Category → Bool
is_strange transport = false
is_strange reporting = false
is_strange recovery = false
is_strange protection = false
is_strange compression = false
is_strange multiplexing = false
is_strange codec = false
is_strange delaying = false
is_strange strange = true

-- The element after those of some categories: the code of its first failure, or 0.
unfoldable pub item_code : Rule → List Item → List ℕ → Item → ℕ
item_code rule caps seen (short c) = 0x11
item_code rule caps seen (whole c v) =
    if is_strange (category_of c) then 0x17
    else if fixed rule (category_of c) then 0x1A
    else if member c seen then 0x18
    else if not (eqb (length_code (category_of c) (length v)) 0) then length_code (category_of c) (length v)
    else if not (offered caps c v) then 0x29
    else 0

-- ---- A list by its rule: the elements left to right, and at the end what is missing. The first failure counts.

unfoldable pub no_fault : Fault
no_fault = record { category = 0; code = 0 }

unfoldable pub judge : Rule → List Item → List ℕ → Item → ℕ
judge (Offer media) caps seen i = offer_code media seen i
judge Setting caps seen i = item_code Setting caps seen i
judge Reconfiguring caps seen i = item_code Reconfiguring caps seen i

unfoldable pub item_category : Item → ℕ
item_category (whole c v) = c
item_category (short c) = c

-- what an element is told with
unfoldable pub blamed : Item → ℕ → Fault
blamed i code = record { category = item_category i; code = code }

-- 1 missing, then 7 missing, with a code
unfoldable pub missing : ℕ → List ℕ → Fault
missing code seen =
    if not (member 1 seen) then record { category = 1; code = code }
    else if not (member 7 seen) then record { category = 7; code = code }
    else no_fault

-- At the end of a list with elements of these categories: 1 and 7 are present in an entry's list (7) and in a Set Configuration
-- (29h), and a Reconfigure misses nothing.
unfoldable pub lacking : Rule → List ℕ → Fault
lacking (Offer media) seen = missing 7 seen
lacking Setting seen = missing 0x29 seen
lacking Reconfiguring seen = no_fault

unfoldable pub fault_or : Fault → Fault → Fault
fault_or f later = if eqb f.code 0 then later else f

-- after elements of some categories, the nearest first
unfoldable pub fault_past : Rule → List Item → List ℕ → List Item → Fault
fault_past rule caps seen [] = lacking rule seen
fault_past rule caps seen (i ∷ is) =
    fault_or (blamed i (judge rule caps seen i)) (fault_past rule caps (item_category i ∷ seen) is)

-- a whole list, of an entry (which takes no offer) or of a command to an endpoint that offers `caps`
unfoldable pub fault_in : Rule → List Item → List Item → Fault
fault_in rule caps is = fault_past rule caps [] is

-- ---- A category among the elements

unfoldable pub is_of : ℕ → Item → Bool
is_of c (whole d v) = eqb c d
is_of c (short d) = false

-- a whole element of category c is among the items
unfoldable pub has : ℕ → List Item → Bool
has c is = some_of (is_of c) is

-- ---- What is stored (document 01, Elements and Commands, 05)

unfoldable pub clear_low : List ℕ → List ℕ
clear_low [] = []
clear_low (m ∷ v) = m / 16 * 16 ∷ v

-- The low nibble of a codec's first octet is reserved and stored as zero.
unfoldable pub kept : ℕ → List ℕ → List ℕ
kept c v = if eqb c 7 then clear_low v else v

-- the first element of category c, as it is stored
unfoldable pub pick : ℕ → List Item → List ℕ
pick c [] = []
pick c (short d ∷ is) = pick c is
pick c (whole d v ∷ is) = if eqb c d then element c (kept c v) else pick c is

unfoldable pub picks : List ℕ → List Item → List ℕ
picks [] is = []
picks (c ∷ cs) is = pick c is ++ picks cs is

-- A configuration is stored with categories ascending.
unfoldable pub stored : List Item → List ℕ
stored is = picks offerable is

-- Each element takes the place of the old one of its category, or is added: of two of a category the first is stored.
unfoldable pub restored : List Item → List Item → List ℕ
restored new old = stored (new ++ old)

-- A configuration that Set Configuration could have stored: checking and storing its octets gives them again.
unfoldable pub could_store : List Item → List ℕ → Bool
could_store caps l = eqb (fault_in Setting caps (items l)).code 0 && same_octets (stored (items l)) l
