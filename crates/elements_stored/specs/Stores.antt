-- What a configuration is stored as, by the marks of the two lists that it comes from.
use Rattle.std.specs.Prelude.{ℕ, ◌+◌, ◌-◌, ◌≤◌, ◌<◌, List, [], ◌∷◌, ◌++◌, length, take, drop, get_or, eqb, if◌then◌else◌}
use Rattle.rules.specs.Elements.{element, kept, category_of, offerable}
use Rattle.elements.specs.Marks.{mark_of}
use Rattle.elements.specs.declared.marks.Marks.{Marks}

-- of a value that begins at a place of a list: its length, by the octet before it, and its octets
abbrev pub size_at : List ℕ → ℕ → ℕ
size_at l place = get_or l (place - 1) 0

abbrev pub value_at : List ℕ → ℕ → List ℕ
value_at l place = take (size_at l place) (drop place l)

-- the element of category c whose value begins there, as it is stored; nothing at the place 0
unfoldable pub marked_pick : ℕ → List ℕ → ℕ → List ℕ
marked_pick c l place = if eqb place 0 then [] else element c (kept c (value_at l place))

-- the new one, or where there is none the old one
unfoldable pub either_pick : ℕ → List ℕ → ℕ → List ℕ → ℕ → List ℕ
either_pick c new fresh old left = if eqb fresh 0 then marked_pick c old left else marked_pick c new fresh

-- so at the marks of its category
abbrev pub picked : ℕ → List ℕ → Marks → List ℕ → Marks → List ℕ
picked c new f old k = either_pick c new (mark_of (category_of c) f) old (mark_of (category_of c) k)

unfoldable pub picked_all : List ℕ → List ℕ → Marks → List ℕ → Marks → List ℕ
picked_all [] new f old k = []
picked_all (c ∷ cs) new f old k = picked c new f old k ++ picked_all cs new f old k

-- the whole configuration, categories ascending
unfoldable pub marked_store : List ℕ → Marks → List ℕ → Marks → List ℕ
marked_store new f old k = picked_all offerable new f old k

-- a value that begins at a place other than 0 runs no further than the list
abbrev pub PickFits : List ℕ → ℕ → Type 0
PickFits l place = 0 < place → place + size_at l place ≤ length l

-- so at each place that is stored from
pub record MarksFit (l : List ℕ) (m : Marks) : Type 0 where
  pub transport : PickFits l m.transport
  pub reporting : PickFits l m.reporting
  pub protection : PickFits l m.protection
  pub codec : PickFits l m.codec
  pub delaying : PickFits l m.delaying
