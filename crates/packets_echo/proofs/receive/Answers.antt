-- `receive` meets its contract: each answer of the gathering comes with the message that is complete, which is then written.
use Rattle.std.proofs.Common.{◌≡◌, ℕ, ◌-◌, ◌≤◌, List, ◌++◌, length, take, drop, sym, ◌∙◌, arith, length-take, length-drop}
use lib.Seq.{take_all}
use Rattle.std.proofs.Math.Option.{Option, none, some}
use Rattle.std.specs.Prelude.{Some, None}
use Rattle.rules.specs.Octets.{front}
use Rattle.rules.specs.Packets.{Message, gather}
use Rattle.rules.specs.Saved.{gathering_in, gathering_at}
use Rattle.rules.specs.declared.Header.{Header}
use Rattle.octets.specs.Patch.{patch}
use Rattle.octets.proofs.Patches.{front_patch}
use Rattle.octets.proofs.Tails.{behind_whole}
use Rattle.packets_next.specs.Nexts.{next_of}
use Rattle.packets_next.specs.Rooms.{RoomRight}
use Rattle.packets_next.specs.declared.nexts.Next.{Next}
use Rattle.packets_next.specs.declared.nexts.Next.TheVariants.{Single, Complete}
use Rattle.packets_next.proofs.Steps.{RoomTells, room_told}
use Rattle.packets_gather.proofs.Done.{room_after, Assembled, assembled, none_complete}
use Rattle.packets_echo.specs.Echoes.{echoed_of, payload_on}
use Rattle.packets_echo.proofs.receive.Goals as goal
use Rattle.packets_echo.proofs.receive.Goals.{After-gather}

-- ---- A message in one packet, one in several, and none

module _ (h : Header) (p : List ℕ) (done : Option Message) where
  single_echoed : done ≡ some (record { header = h; payload = drop 2 p })
      → Some (record { header = h; length = length (take (length p - 2) (drop 2 p)) }) ≡ echoed_of done
  unfolding echoed_of
  single_echoed e = rw (e, behind_whole 2 p)

  single_written : {n : ℕ} (a message : List ℕ) → length p - 2 ≤ n → done ≡ some (record { header = h; payload = drop 2 p })
      → a ≡ patch 0 (take n (drop 2 p)) message → a ≡ payload_on done message
  unfolding payload_on
  single_written {n} a message all e f =
      let whole : take n (drop 2 p) ≡ drop 2 p = take_all n (drop 2 p) (rw length-drop all) in
      f ∙ rw (e, whole) (sym (front_patch (drop 2 p) message))

  several_echoed : (room : List ℕ) (r : ℕ) → Assembled h p room done
      → r ≡ length ((gathering_at room).message.payload ++ drop 1 p)
      → Some (record { header = h; length = r }) ≡ echoed_of done
  unfolding echoed_of
  several_echoed room r a e = rw (a.message, e)

  several_written : (room b message : List ℕ) → Assembled h p room done
      → b ≡ front ((gathering_at room).message.payload ++ drop 1 p) message → b ≡ payload_on done message
  unfolding payload_on
  several_written room b message a e = rw a.message e

assembled_left : (size : ℕ) (room left p : List ℕ) → RoomRight room → left ≡ room_after size room p → (h : Header)
    → next_of size (gathering_in room) p ≡ Complete h → Assembled h p left (gather size (gathering_in room) p).done
assembled_left size room left p right e h f = rw e (assembled size room p right h f)

none_echoed : (completed : Option Message) → completed ≡ none → None ≡ echoed_of completed
unfolding echoed_of
none_echoed completed e = rw e

none_written : (message : List ℕ) (completed : Option Message) → completed ≡ none → message ≡ payload_on completed message
unfolding payload_on
none_written message completed e = rw e

-- ---- What the answer of `gather` tells

abbrev done_of : After-gather → Option Message
done_of c = (gather c.args.size.octets (gathering_in c.args.room.now) c.args.packet.now).done

told : (c : After-gather) (r : Next) → c.gather.result ≡ r
    → RoomTells c.args.size.octets c.args.room.now c.args.packet.now r
told c r e = room_told c.args.size.octets c.args.room.now c.args.packet.now r (sym c.gather.ensures.next ∙ e)

-- and of a message in several packets
assembled_at : (c : After-gather) (h : Header) → c.gather.result ≡ Complete h
    → Assembled h c.args.packet.now c.gather.new.room (done_of c)
assembled_at c h e =
    assembled_left c.args.size.octets c.args.room.now c.gather.new.room c.args.packet.now c.requires.room_right
    c.gather.ensures.room h (sym c.gather.ensures.next ∙ e)

-- ---- The goals

pub prove-unreachable-requires : goal.prove-unreachable-requires
prove-unreachable-requires c =
    let single = told (goal.at.prove-unreachable-requires c).After-gather (Single _) c.in-Single.is in
    omega (arith, single.header)

pub put-requires : goal.put-requires
put-requires c =
    let single = told (goal.at.put-requires c).After-gather (Single _) c.in-Single.is in
    omega (arith, single.fits, length-take {A = ℕ}, length-drop {A = ℕ})

pub assemble-requires : goal.assemble-requires
assemble-requires c =
    let a = assembled_at (goal.at.assemble-requires c).After-gather _ c.in-Complete.is in
    record {
      room_whole = a.long;
      packet_begun = a.header;
      gathered_fits = a.gathered;
      message_fits = omega (arith, a.fits);
    }

pub returns-in-Single : goal.returns-in-Single
returns-in-Single c =
    let at = (goal.at.returns-in-Single c).After-gather in
    let m = (told at (Single _) c.in-Single.is).done in
    record {
      echoed = single_echoed _ c.args.packet.now (done_of at) m;
      room = c.gather.ensures.room;
      message = single_written _ c.args.packet.now (done_of at) c.put.new.dst c.args.message.now
          (omega (arith, length-take {A = ℕ}, length-drop {A = ℕ})) m c.put.ensures;
    }

pub returns-in-Complete : goal.returns-in-Complete
returns-in-Complete c =
    let at = (goal.at.returns-in-Complete c).After-gather in
    let a = assembled_at at _ c.in-Complete.is in
    record {
      echoed =
          several_echoed _ c.args.packet.now (done_of at) c.gather.new.room c.assemble.result a c.assemble.ensures.size;
      room = c.gather.ensures.room;
      message =
          several_written _ c.args.packet.now (done_of at) c.gather.new.room c.assemble.new.message c.args.message.now a
          c.assemble.ensures.written;
    }

pub returns-in-Ended : goal.returns-in-Ended
returns-in-Ended c =
    let at = (goal.at.returns-in-Ended c).After-gather in
    let e =
    none_complete c.args.size.octets c.args.room.now c.args.packet.now c.gather.result c.in-Ended.is c.gather.ensures.next in
    record {
      echoed = none_echoed (done_of at) e;
      room = c.gather.ensures.room;
      message = none_written c.args.message.now (done_of at) e;
    }
