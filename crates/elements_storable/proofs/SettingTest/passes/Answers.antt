-- The test of a configuration's elements meets its contract: a codec whose length is right has a first octet.
use Rattle.std.proofs.Common.{arith}
use Rattle.std.proofs.lemmas.Grind.{common_steps}
use Rattle.rules.specs.Elements.{category_of, length_code}
use Rattle.elements_storable.proofs.SettingTest.passes.Goals as goal

pub bounds-value-0 : goal.bounds-value-0
unfolding category_of length_code
bounds-value-0 c = grind (arith, common_steps)
