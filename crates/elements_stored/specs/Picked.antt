-- What two lists with their marks are stored as: the new one, and where it has no element of a category the old one.
use Rattle.std.specs.Prelude.{ℕ, List}
use Rattle.elements_stored.specs.Stores.{picked, marked_store}
use Rattle.elements_stored.specs.declared.picks.Picks.{Picks}

-- of one category
abbrev pub one_of : ℕ → Picks → Picks → List ℕ
one_of c new old = picked c new.list.now new.marks old.list.now old.marks

-- the whole configuration
abbrev pub store_of : Picks → Picks → List ℕ
store_of new old = marked_store new.list.now new.marks old.list.now old.marks
