-- What `store` has written of the categories so far, and where that ends.
use Rattle.std.proofs.Common.{take}
use Rattle.rules.specs.Elements.{offerable}
use Rattle.elements_stored.specs.Stores.{picked_all}
use Rattle.elements_stored.proofs.Writes.{Wrote}
use Rattle.elements_stored.proofs.config.store.Given as goal

abbrev pub invariant-loop-category : goal.invariant-loop-category
invariant-loop-category l =
    Wrote l.to (picked_all (take l.category-index offerable) l.new.list.now l.new.marks l.old.list.now l.old.marks)
    l.fn.area l.area l.end
