-- `is_offered` meets its contract: the first element of an offer is the media transport, and any other stands behind it.
use mathlib.Core.Path.{sym, ◌∙◌}
use Rattle.elements_reader.proofs.InOrder.{transport_offered, offered_behind}
use Rattle.elements_offers.proofs.is_offered.Goals as goal

pub returns-then-category-eq1 : goal.returns-then-category-eq1
returns-then-category-eq1 c =
    let l = c.args.offer.list.now in
    rw (c.if-category-eq1.true) (sym (transport_offered l c.args.offer.first c.args.value.now))

pub returns-else-category-eq1 : goal.returns-else-category-eq1
returns-else-category-eq1 c =
    c.offers.ensures
    ∙ sym (offered_behind c.args.offer.list.now c.args.offer.first c.args.category c.args.value.now c.if-category-eq1.false)
