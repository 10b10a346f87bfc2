-- `eight` meets its contract: the number that the machine loads is that of the octets, which are the part. That each is an octet
-- keeps their sum below the number's range.
use Rattle.std.proofs.Common.{◌+◌, arith}
use Rattle.octets_alone.proofs.Weighing.{eight_weighed}
use Rattle.octets_alone.proofs.eight.Goals as goal

pub returns : goal.returns
returns c =
    omega (
      arith,
      eight_weighed c.args.at c.args.s.now c.requires,
      c.from_le_bytes.ensures,
      (c.type_inv.s c.args.at).fits,
      (c.type_inv.s (c.args.at + 1)).fits,
      (c.type_inv.s (c.args.at + 2)).fits,
      (c.type_inv.s (c.args.at + 3)).fits,
      (c.type_inv.s (c.args.at + 4)).fits,
      (c.type_inv.s (c.args.at + 5)).fits,
      (c.type_inv.s (c.args.at + 6)).fits,
      (c.type_inv.s (c.args.at + 7)).fits,
    )
