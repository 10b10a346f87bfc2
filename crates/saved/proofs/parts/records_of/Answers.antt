-- `records_of` meets its contract: the records are all that stands behind the link part.
use Rattle.octets.proofs.Tails.{behind_whole}
use Rattle.rules.specs.Saved.{records_of}
use Rattle.saved.proofs.parts.records_of.Goals as goal

pub returns : goal.returns
unfolding records_of
returns c =
    search behind_whole
