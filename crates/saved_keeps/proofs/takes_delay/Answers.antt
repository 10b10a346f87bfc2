-- `takes_delay` meets its contract: category 8 is offered by a list that has it, whatever the value.
use Rattle.std.proofs.Common.{ℕ, ◌/◌, ◌%◌, List, [], ◌∷◌, Bool, ◌||◌, ◌≡◌, refl, ap, ◌∙◌}
use borrow.Author.Tests.{eq-eqb}
use lib.Dec.{eqb}
use Rattle.rules.specs.Octets.{some_of}
use Rattle.rules.specs.Elements.{Item, whole, short, category_of, value_within, offers_in, offered, is_of, has}
use Rattle.rules.specs.Book.{is_source}
use Rattle.rules.proofs.Tests.{and-true}
use Rattle.saved_keeps.proofs.takes_delay.Goals as goal

offered_has : (is : List Item) (v : List ℕ) → offered is 8 v ≡ has 8 is
unfolding offered has some_of offers_in is_of value_within category_of
offered_has [] v = refl
offered_has (short d ∷ is) v = offered_has is v
offered_has (whole d w ∷ is) v = rw and-true (ap (λ (t : Bool). eqb 8 d || t) (offered_has is v))

pub returns-then-kind-eq0 : goal.returns-then-kind-eq0
unfolding is_source
returns-then-kind-eq0 c =
    rw (eq-eqb (c.args.kind / 8 % 2) 0 c.if-kind-eq0.true) (c.offers.ensures ∙ offered_has _ _)
