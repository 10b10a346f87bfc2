-- The test of an entry's elements meets its contract: a codec whose length is right has a first octet.
use Rattle.std.proofs.Common.{arith}
use Rattle.std.proofs.lemmas.Grind.{common_steps}
use Rattle.rules.specs.Elements.{category_of, length_code, start_right}
use Rattle.elements_reader.specs.Orders.{offer_test}
use Rattle.book_list.proofs.OfMediaTest.passes.Goals as goal

pub bounds-value-0 : goal.bounds-value-0
unfolding category_of length_code
bounds-value-0 c = grind (arith, common_steps)

pub returns-else-category-ne7 : goal.returns-else-category-ne7
unfolding category_of length_code start_right offer_test
returns-else-category-ne7 c = grind (arith, common_steps)
