-- The message that a packet completes, as a caller has it from the answer: where several packets made it, only the mark of the
-- room has changed, so what was gathered is still read from the room.
use borrow.Author.Tests.{eqb-false}
use Prim.Native.Nat.{ℕ, ◌+◌, ◌≤◌}
use native.Mathlib.Omega.{arith}
use mathlib.Core.Path.{◌≡◌, refl, sym, ap, ◌∙◌}
use mathlib.Core.List.{List, [], ◌∷◌, ◌++◌}
use mathlib.Core.Logic.{◌⊎◌, inl, inr}
use mathlib.Core.Option.{Option, none, some}
use lib.ListN.{length, drop, get_or}
use Rattle.rules.specs.Octets.{front}
use Rattle.rules.specs.Packets.{Message, Gathering, extended, gather}
use Rattle.rules.specs.Saved.{gathering_room, gathering_at, gathering_in, store_gathering, payload_length_in}
use Rattle.rules.specs.declared.Header.{Header}
use Rattle.packets_next.specs.Nexts.{next_of, done_by}
use Rattle.packets_next.specs.declared.nexts.Next.{Next}
use Rattle.packets_next.specs.declared.nexts.Next.TheVariants.{Ended, Single, Begun, Grown, Complete}
use Rattle.packets_next.specs.Rooms.{RoomRight}
use Rattle.packets_next.proofs.Steps.{RoomTells, room_told}
use Rattle.packets_next.proofs.Rooms.{marked, room_kept}

-- the room as a packet leaves it
abbrev pub room_after : ℕ → List ℕ → List ℕ → List ℕ
room_after size room p = store_gathering (gather size (gathering_in room) p).gathering room

-- a message of several packets: what `assemble` asks of the room, and what its writing comes to
pub record Assembled (h : Header) (p room : List ℕ) (done : Option Message) : Type 0 where
  pub long : length room ≡ gathering_room
  pub header : 1 ≤ length p
  pub gathered : payload_length_in room ≤ 512
  pub fits : length (gathering_at room).message.payload + length (drop 1 p) ≤ 512
  pub message :
      done ≡ some (record { header = h; payload = (gathering_at room).message.payload ++ drop 1 p })

-- what an end leaves of the room
mark_gone : (room : List ℕ) → 1 ≤ length room → gathering_at (front (0 ∷ []) room) ≡ gathering_at room
unfolding gathering_at front
mark_gone [] h = absurd (omega arith)
mark_gone (m ∷ room) h = refl

count_stays : (room : List ℕ) → 1 ≤ length room → payload_length_in (front (0 ∷ []) room) ≡ payload_length_in room
unfolding front
count_stays [] h = absurd (omega arith)
count_stays (m ∷ room) h = refl

module _ (size : ℕ) (room p : List ℕ) where
  tells_done : (r : Next) → RoomTells size room p r → (gather size (gathering_in room) p).done ≡ done_by r (gathering_at room) p
  unfolding done_by
  tells_done Ended t = t.done
  tells_done (Single h) t = t.done
  tells_done Begun t = t.done
  tells_done Grown t = t.done
  tells_done (Complete h) t = t.done

  -- the message is what the answer says, by what was gathered before the packet
  pub done_before : (gather size (gathering_in room) p).done ≡ done_by (next_of size (gathering_in room) p) (gathering_at room) p
  done_before = tells_done (next_of size (gathering_in room) p) (room_told size room p _ refl)

  module _ (right : RoomRight room) where
    left : (h : Header) → RoomTells size room p (Complete h) → room_after size room p ≡ front (0 ∷ []) room
    unfolding store_gathering
    left h told = ap (λ (g : Option Gathering). store_gathering g room) told.gathering

    gathered_kept : (h : Header) → RoomTells size room p (Complete h) → gathering_at (room_after size room p) ≡ gathering_at room
    gathered_kept h told = ap gathering_at (left h told) ∙ mark_gone room (omega (arith, right.long))

    done_kept : (r : Next) → RoomTells size room p r
        → done_by r (gathering_at room) p ≡ done_by r (gathering_at (room_after size room p)) p
    unfolding done_by
    done_kept Ended told = refl
    done_kept (Single h) told = refl
    done_kept Begun told = refl
    done_kept Grown told = refl
    done_kept (Complete h) told =
        ap (λ (g : Gathering). some (extended g.message (drop 1 p))) (sym (gathered_kept h told))

    -- and by what is left in the room behind it
    pub done_after : (gather size (gathering_in room) p).done
        ≡ done_by (next_of size (gathering_in room) p) (gathering_at (room_after size room p)) p
    done_after = done_before ∙ done_kept (next_of size (gathering_in room) p) (room_told size room p _ refl)

    pub assembled : (h : Header) → next_of size (gathering_in room) p ≡ Complete h
        → Assembled h p (room_after size room p) (gather size (gathering_in room) p).done
    unfolding extended
    assembled h e =
        let told = room_told size room p (Complete h) e in
        let kept = gathered_kept h told in
        let count = ap payload_length_in (left h told) ∙ count_stays room (omega (arith, right.long)) in
        record {
          long = (room_kept size room p right).long;
          header = told.header;
          gathered = rw count (marked room right (eqb-false (get_or room 0 0) 0 told.there)).fits;
          fits = rw kept told.fits;
          message =
              told.done
              ∙ (λ i.
              some (record { header = told.named i; payload = (sym kept i).message.payload ++ drop 1 p }));
        }

-- what is neither a message in one packet nor the last part of one completes none
pub none_complete : (size : ℕ) (room p : List ℕ) (r : Next) → (r ≡ Ended) ⊎ ((r ≡ Begun) ⊎ (r ≡ Grown))
    → r ≡ next_of size (gathering_in room) p → (gather size (gathering_in room) p).done ≡ none
unfolding done_by
none_complete size room p r (inl e) n = rw (done_before size room p, ← n, e)
none_complete size room p r (inr (inl e)) n = rw (done_before size room p, ← n, e)
none_complete size room p r (inr (inr e)) n = rw (done_before size room p, ← n, e)
