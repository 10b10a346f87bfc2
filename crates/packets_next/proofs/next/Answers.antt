-- `next` meets its contract: the packet is not empty and not too long, its type is what the code matches on, and the callee for
-- that type answers for the rest.
use Rattle.std.proofs.Common.{◌≡◌, ℕ, ◌/◌, ◌%◌, List, [], ◌∷◌, Bool, true, false, length, drop, get_or, refl, ◌∙◌, arith}
use Rattle.std.specs.Prelude.{ltb, eqb, if◌then◌else◌}
use Rattle.std.proofs.Math.Option.{Option}
use Rattle.std.proofs.lemmas.Bool.Decides.{nat_tests}
use borrow.Author.Tests.{le-ltb, ne_eqb}
use Rattle.rules.specs.Packets.{Gathering, PacketType, a_single, a_start, a_continue, an_end, packet_type_in, read_as, read}
use Rattle.rules.specs.Packets.{packet_in, Packet, wrong}
use Rattle.rules.specs.Saved.{gathering_in}
use Rattle.packets_next.specs.Nexts.{next_by, next_of}
use Rattle.packets_next.specs.declared.nexts.Next.TheVariants.{Ended}
use Rattle.packets_next.proofs.next.Goals as goal

-- the kinds, by their packet types
abbrev packet_type_at : ℕ → PacketType
packet_type_at n = get_or (a_single ∷ a_start ∷ a_continue ∷ an_end ∷ []) n a_single

too_long : (g : Option Gathering) (b : Bool) (k : Packet)
    → next_by g (if b then wrong else k) ≡ (if b then Ended else next_by g k)
unfolding next_by
too_long g true k = refl
too_long g false k = refl

by_length : (size : ℕ) (g : Option Gathering) (p : List ℕ)
    → next_of size g p
    ≡ (if ltb size (length p) then Ended
    else if eqb (length p) 0 then Ended
    else next_by g (read_as (packet_type_at (get_or p 0 0 / 4 % 4)) (get_or p 0 0) (drop 1 p)))
unfolding next_of packet_in read packet_type_in next_by
by_length size g [] = rw (le-ltb size 0 (omega arith))
by_length size g (h ∷ q) =
    too_long g (ltb size (length (h ∷ q))) (read (h ∷ q)) ∙ rw (ne_eqb (length (h ∷ q)) 0 (λ e. omega arith))

pub returns-then-is_empty : goal.returns-then-is_empty
returns-then-is_empty c =
    let e = by_length c.args.size (gathering_in c.args.room.now) c.args.packet.now in grind (arith, nat_tests)

pub returns-in-0 : goal.returns-in-0
returns-in-0 c =
    let e = by_length c.args.size (gathering_in c.args.room.now) c.args.packet.now in
    let s = c.single.ensures (gathering_in c.args.room.now) in
    grind (arith, nat_tests)

pub returns-in-1 : goal.returns-in-1
returns-in-1 c =
    let e = by_length c.args.size (gathering_in c.args.room.now) c.args.packet.now in
    let s = c.start.ensures (gathering_in c.args.room.now) in
    grind (arith, nat_tests)

pub returns-in-2 : goal.returns-in-2
unfolding read_as next_by
returns-in-2 c =
    let e = by_length c.args.size (gathering_in c.args.room.now) c.args.packet.now in grind (arith, nat_tests)

pub returns-in_default : goal.returns-in_default
unfolding next_by read_as
returns-in_default c =
    let e = by_length c.args.size (gathering_in c.args.room.now) c.args.packet.now in
    let t : get_or c.args.packet.now 0 0 / 4 % 4 ≡ 3 = omega arith in
    let last = rw t at e in
    grind (arith, nat_tests)
