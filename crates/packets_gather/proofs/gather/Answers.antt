-- `gather` meets its contract: each answer of `next` comes with what the step is, and with what its callee asks.
use borrow.Author.Tests.{leb-true, eqb-false}
use Prim.Native.Nat.{ℕ, ◌+◌, ◌≤◌, ◌<◌}
use native.Mathlib.Omega.{arith}
use mathlib.Core.Path.{◌≡◌, refl, sym, ap, ◌∙◌}
use mathlib.Core.List.{List}
use mathlib.Core.Option.{Option, none}
use lib.ListN.{length, drop, get_or, set}
use lib.Seq.{set_split}
use Rattle.rules.specs.Octets.{between, front}
use Rattle.rules.specs.Packets.{Gathering, gather, gathering_right}
use Rattle.rules.specs.Endpoints.{legal_gathering}
use Rattle.rules.specs.Saved.{gathering_room, gathering_at, gathering_in, store_gathering, payload_length_in}
use Rattle.rules.proofs.Tests.{and_l, and_r}
use Rattle.packets_next.specs.declared.nexts.Next.{Next}
use Rattle.packets_next.specs.declared.nexts.Next.TheVariants.{Ended, Single, Begun, Grown, Complete}
use Rattle.packets_next.specs.Rooms.{RoomRight}
use Rattle.packets_next.proofs.Rooms.{marked, gathering_there, payload_length}
use Rattle.packets_next.proofs.Steps.{RoomTells, room_told}
use Rattle.packets_gather.proofs.gather.Goals as goal
use Rattle.packets_gather.proofs.gather.Goals.{After-next-then}

stored : (room : List ℕ) (g h : Option Gathering) → h ≡ g → store_gathering g room ≡ store_gathering h room
stored room g h e = ap (λ (x : Option Gathering). store_gathering x room) (sym e)

module _ (size : ℕ) (room p : List ℕ) (right : RoomRight room) where
  -- an answer that is neither Begun nor Grown leaves no gathering
  left_none : (r : Next) → (r ≡ Begun → ⊥) → (r ≡ Grown → ⊥) → RoomTells size room p r
      → (gather size (gathering_in room) p).gathering ≡ none
  left_none Ended b g t = t.gathering
  left_none (Single h) b g t = t.gathering
  left_none Begun b g t = absurd (b refl)
  left_none Grown b g t = absurd (g refl)
  left_none (Complete h) b g t = t.gathering

  ended_room : (r : Next) → (r ≡ Begun → ⊥) → (r ≡ Grown → ⊥) → RoomTells size room p r
      → set room 0 0 ≡ store_gathering (gather size (gathering_in room) p).gathering room
  unfolding store_gathering front
  ended_room r b g t = set_split room 0 0 (omega (arith, right.long)) ∙ stored room none _ (left_none r b g t)

  -- a right room announces at most 255 packets
  announced : (get_or room 0 0 ≡ 0 → ⊥) → get_or room 4 0 ≤ 255
  unfolding legal_gathering gathering_right gathering_at between
  announced there =
      let right_there = rw (gathering_there room there) at right.limits in
      leb-true (get_or room 4 0) 255 (search (and_l, and_r) depth 7)

  -- what `grow` asks
  grows : RoomTells size room p Grown
      → ((length room ≡ gathering_room) × (get_or room 0 0 ≡ 1) × (get_or room 5 0 < 255))
      × (1 ≤ length p)
      × (payload_length_in room + length (drop 1 p) ≤ 512)
  unfolding gathering_at
  grows t =
      let there = eqb-false (get_or room 0 0) 0 t.there in
      let m = marked room right there in
      let long = payload_length room right.long m.fits in
      ((right.long, m.mark, omega (arith, announced there, t.owed)), t.header, omega (arith, t.fits))

told : (c : After-next-then) (r : Next) → c.next-then.result ≡ r
    → RoomTells c.args.size c.args.room.now c.args.packet.now r
told c r e =
    room_told c.args.size c.args.room.now c.args.packet.now r (sym c.next-then.ensures ∙ e)

pub begin-requires : goal.begin-requires
begin-requires c =
    let t = told (goal.at.begin-requires c).After-next-then Begun c.in-Begun.is in
    record { room_whole = c.requires.long; packet_fits = (t.header, t.fits) }

pub grow-requires : goal.grow-requires
grow-requires c =
    let t = told (goal.at.grow-requires c).After-next-then Grown c.in-Grown.is in
    let asked = grows _ c.args.room.now c.args.packet.now c.requires t in
    record { room_gathers = asked.0; packet_begun = asked.1; payload_fits = asked.2 }

pub returns-in-Begun : goal.returns-in-Begun
returns-in-Begun c =
    record {
      next = c.next-then.ensures;
      room = c.begin.ensures
          ∙ stored c.args.room.now _ _ (told (goal.at.returns-in-Begun c).After-next-then Begun c.in-Begun.is).gathering;
    }

pub returns-in-Grown : goal.returns-in-Grown
returns-in-Grown c =
    record {
      next = c.next-then.ensures;
      room = c.grow.ensures
          ∙ stored c.args.room.now _ _ (told (goal.at.returns-in-Grown c).After-next-then Grown c.in-Grown.is).gathering;
    }

pub returns-in_default : goal.returns-in_default
returns-in_default c =
    record {
      next = c.next-then.ensures;
      room =
          ended_room c.args.size c.args.room.now c.args.packet.now c.requires c.next-then.result c.in_default.not-Begun
          c.in_default.not-Grown (told (goal.at.returns-in_default c).After-next-then c.next-then.result refl);
    }
