-- `put_eight` meets its contract: octets read one by one are the part.
use mathlib.Core.Path.{ap, ◌∙◌}
use native.Mathlib.Numerals.{towards_suc}
use native.Mathlib.Omega.{arith}
use Rattle.rules.proofs.SavedReads.{octets_from, octets_from_lem}
use Rattle.octets.specs.Patch.{patch, part}
use Rattle.octets.proofs.put_eight.Goals as goal

pub returns : goal.returns
unfolding octets_from part
returns c =
    c.put_few.ensures
    ∙ ap (λ s. patch c.args.to s c.args.dst.now) (simp towards_suc (octets_from_lem 8 c.args.i c.args.src.now (omega arith)))
