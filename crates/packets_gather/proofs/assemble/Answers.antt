-- `assemble` meets its contract: what is gathered goes to the front, and the packet's part behind it, which is a longer front.
use Prim.Native.Nat.{ℕ, ◌+◌}
use native.Mathlib.Omega.{arith}
use mathlib.Core.Path.{◌≡◌, sym, ap, ap₂, ◌∙◌}
use mathlib.Core.List.{List, ◌++◌}
use lib.ListN.{length, drop, length-append, length-drop}
use Rattle.rules.specs.Octets.{front}
use Rattle.rules.specs.Saved.{gathering_at, payload_length_in}
use Rattle.octets.specs.Patch.{patch, part}
use Rattle.octets.proofs.Patches.{front_patch, front_more}
use Rattle.octets.proofs.Tails.{behind_whole, length_behind}
use Rattle.packets_next.proofs.Rooms.{payload_length}
use Rattle.packets_gather.proofs.assemble.Goals as goal

-- the part of the room that is lent is the payload
lent : (room x : List ℕ) (n : ℕ) → n ≡ payload_length_in room → x ≡ part 8 n room → x ≡ (gathering_at room).message.payload
unfolding part gathering_at
lent room x n e f = f ∙ ap (λ (k : ℕ). part 8 k room) e

-- both writes
written : (x y t q m m₁ m₂ : List ℕ) (n : ℕ) → x ≡ y → t ≡ q → n ≡ length y → m₁ ≡ patch 0 x m → m₂ ≡ patch n t m₁
    → m₂ ≡ front (y ++ q) m
written x y t q m m₁ m₂ n e f l p r = r ∙ rw (p, e, f, l, ← front_patch y m) (front_more y q m)

counted : (y t q : List ℕ) (n : ℕ) → t ≡ q → n ≡ length y → n + length t ≡ length (y ++ q)
counted y t q n f l = ap₂ ◌+◌ l (ap length f) ∙ sym (length-append y q)

pub put-requires : goal.put-requires
put-requires c =
    let payload = lent c.args.room.now _ _ c.gathered-before.ensures c.part.ensures in
    omega (arith, ap length payload)

pub put-requires-2 : goal.put-requires-2
put-requires-2 c =
    let long = payload_length c.args.room.now c.requires.room_whole c.requires.gathered_fits in
    omega (arith, length_behind 1 c.args.packet.now, length-drop 1 c.args.packet.now)

pub returns : goal.returns
returns c =
    let payload = (gathering_at c.args.room.now).message.payload in
    let n = c.gathered-before.ensures ∙ sym (payload_length c.args.room.now c.requires.room_whole c.requires.gathered_fits) in
    record {
      written =
          written _ payload _ (drop 1 c.args.packet.now) c.args.message.now _ _ _
          (lent c.args.room.now _ _ c.gathered-before.ensures c.part.ensures) (behind_whole 1 c.args.packet.now) n
          c.put.ensures c.put-2.ensures;
      size = counted payload _ (drop 1 c.args.packet.now) _ (behind_whole 1 c.args.packet.now) n;
    }
