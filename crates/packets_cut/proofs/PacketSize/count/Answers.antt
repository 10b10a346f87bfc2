-- `count` meets its contract: one packet, and a quotient rounded up, are the two cases of `packets_for`.
use Rattle.std.proofs.Common.{◌≡◌, ℕ, suc, ◌+◌, ◌-◌, ◌/◌, ap, add-one, arith}
use borrow.Author.Tests.{lt-leb}
use Rattle.rules.specs.Cutting.{packets_for}
use Rattle.packets_cut.proofs.PacketSize.count.Goals as goal

pub returns-else-length-self : goal.returns-else-length-self
unfolding packets_for
returns-else-length-self c =
    let n = c.args.length in
    let size = c.args.self.octets in
    let e : size - 2 ≡ size - 1 - 1 = omega arith in
    rw (lt-leb n (size - 2) c.if-length-self.false, add-one)
    (ap (λ (x : ℕ). suc ((n - (size - 3) + x) / (size - 1))) e)
