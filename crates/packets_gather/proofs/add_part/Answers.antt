-- `add_part` meets its contract: the three stores are one patch, and `put` makes the other.
use Rattle.std.proofs.Common.{◌≡◌, ℕ, ◌+◌, ◌/◌, ◌%◌, ◌<◌, [], ◌∷◌, length, ap, ◌∙◌, arith}
use Rattle.std.proofs.Math.ListN.{length-set}
use Rattle.octets.specs.Patch.{patch}
use Rattle.octets.proofs.Patches.{patch_sets}
use Rattle.packets_gather.specs.Parts.{with_part}
use Rattle.packets_gather.proofs.add_part.Goals as goal

-- the high octet of a length below 65536
high : (n : ℕ) → n < 65536 → n / 256 % 256 ≡ n / 256
high n small = omega arith

pub put-requires : goal.put-requires
put-requires c =
    simp length-set (omega arith)

pub shape_of-room : goal.shape_of-room
shape_of-room c =
    c.put.auto.dst ∙ simp length-set

pub returns : goal.returns
unfolding with_part
returns c =
    let n = c.args.before + length c.args.part.now in
    let octets = c.args.parts ∷ n / 256 ∷ n % 256 ∷ [] in
    rw (c.put.ensures, c.to_be_bytes.ensures, high n (omega arith))
    (ap (patch (8 + c.args.before) c.args.part.now) (patch_sets 5 octets c.args.room.now (omega arith)))
