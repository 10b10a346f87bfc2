-- `write` meets its contract: a refusal by the tests that led to it, and the packet as it was written.
use Rattle.std.proofs.Common.{◌≡◌, ◌+◌, ◌≤◌, length, ap, ◌∙◌, arith}
use Rattle.std.proofs.lemmas.Bool.Decides.{nat_tests}
use Rattle.std.proofs.lemmas.Grind.{common_steps}
use Rattle.rules.specs.Packets.{Message, longest}
use Rattle.rules.specs.Cutting.{count_of}
use Rattle.rules.specs.Host.{cut_call, cut_refusal}
use Rattle.rules.proofs.ReadsBack.{HasRoom, count_small}
use Rattle.octets.proofs.Patches.{part_length}
use Rattle.packets_cut.specs.Told.{piece_of}
use Rattle.packets_cut.proofs.Cutter.{size_right_lem, Numbered, header_small, from_within, too_short, writes}
use Rattle.packets_cut.proofs.write.Goals as goal
use Rattle.packets_cut.proofs.write.Goals.{After-header_size-head_size}

-- ---- What is known once the tests on the message have passed

abbrev message : After-header_size-head_size → Message
message c = record { header = c.args.header; payload = c.args.payload.now }

same_size : (c : After-header_size-head_size) → c.in_ok-size.size.octets ≡ c.args.size
same_size c = grind (arith, common_steps)

numbered : (c : After-header_size-head_size)
    → Numbered c.in_ok-size.size.octets (message c) c.args.index c.count-total.result
unfolding count_of
numbered c =
    record {
      right = size_right_lem _ c.in_ok-size.size.least c.in_ok-size.size.most;
      short = c.if-payload-gt512.false;
      whole = c.count-total.ensures;
      below = c.if-total-index.false;
    }

total_small : (c : After-header_size-head_size) → c.count-total.result ≤ 255
total_small c =
    let n = numbered c in
    omega (arith, n.whole, count_small c.in_ok-size.size.octets (message c) n.right n.short)

head_small : (c : After-header_size-head_size) → c.header_size-head_size.result ≤ 3
head_small c = omega (arith, c.header_size-head_size.ensures, header_small c.count-total.result c.args.index)

room : (c : After-header_size-head_size) → HasRoom (message c)
room c = omega arith

-- ---- The goals

pub returns-in_err-size : goal.returns-in_err-size
unfolding cut_call cut_refusal piece_of
returns-in_err-size c = grind (arith, common_steps)

pub returns-then-payload-gt512 : goal.returns-then-payload-gt512
unfolding cut_call cut_refusal longest piece_of
returns-then-payload-gt512 c = grind (arith, common_steps, nat_tests)

pub returns-then-total-index : goal.returns-then-total-index
unfolding cut_call cut_refusal count_of piece_of
returns-then-total-index c = grind (arith, common_steps, nat_tests)

pub offset-from-requires : goal.offset-from-requires
offset-from-requires c = omega (arith, total_small (goal.at.offset-from-requires c).After-header_size-head_size)

pub overflow_sub-size : goal.overflow_sub-size
overflow_sub-size c = omega (arith, head_small (goal.at.overflow_sub-size c).After-header_size-head_size)

pub overflow_sub-payload : goal.overflow_sub-payload
overflow_sub-payload c =
    omega (arith, from_within (numbered (goal.at.overflow_sub-payload c).After-header_size-head_size))

pub returns-then-area-head_size : goal.returns-then-area-head_size
unfolding cut_call piece_of
returns-then-area-head_size c =
    let at = (goal.at.returns-then-area-head_size c).After-header_size-head_size in
    rw (
      ← same_size at,
      too_short (numbered at) (room at) c.args.area.now c.header_size-head_size.result c.offset-from.result
          c.min-part_size.result c.header_size-head_size.ensures c.offset-from.ensures c.min-part_size.ensures
          c.if-area-head_size.true,
    )

pub put_header-requires-clause-total_fits : goal.put_header-requires-clause-total_fits
put_header-requires-clause-total_fits c =
    total_small (goal.at.put_header-requires-clause-total_fits c).After-header_size-head_size

pub part-requires : goal.part-requires
part-requires c = omega (arith, from_within (numbered (goal.at.part-requires c).After-header_size-head_size))

pub put-requires : goal.put-requires
put-requires c =
    let within : c.offset-from.result + c.min-part_size.result ≤ length c.args.payload.now =
    omega (arith, from_within (numbered (goal.at.put-requires c).After-header_size-head_size)) in
    omega (
      arith,
      ap length c.part.ensures ∙ part_length c.offset-from.result c.min-part_size.result c.args.payload.now within,
    )

pub returns : goal.returns
unfolding piece_of
returns c =
    let at = (goal.at.returns c).After-header_size-head_size in
    rw (← same_size at) (writes (numbered at) (room at) c.args.area.now c.header_size-head_size.result c.offset-from.result
    c.min-part_size.result c.header_size-head_size.ensures c.offset-from.ensures c.min-part_size.ensures
    c.part.result.now c.put_header.new.area c.put.new.dst c.part.ensures (c.put_header.ensures c.args.payload.now)
    c.put.ensures c.if-area-head_size.false)
