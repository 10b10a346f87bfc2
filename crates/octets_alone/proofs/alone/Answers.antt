-- `alone` meets its contract: the number is `first` where `first` stands alone.
use Rattle.octets_alone.proofs.Weighing.{alone_told}
use Rattle.octets_alone.proofs.alone.Goals as goal

pub returns : goal.returns
returns c =
    rw (c.eight.ensures, c.from.ensures)
    (alone_told c.args.at c.args.s.now c.args.first c.requires (c.type_inv.s c.args.at).fits c.ranges.first.fits)
