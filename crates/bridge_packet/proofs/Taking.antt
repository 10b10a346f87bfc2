-- A packet on a right saved area: the room and the records are two halves that do not touch, so what is gathered and what a
-- command moves are stored side by side, as the definition of the call stores them at once.
use Prim.Native.Nat.{ℕ, ◌+◌, ◌≤◌}
use mathlib.Core.Path.{◌≡◌, sym, ap, subst, ◌∙◌}
use mathlib.Core.List.{List, ◌∷◌, ◌++◌}
use mathlib.Core.Bool.{true}
use mathlib.Core.Logic.{◌⊎◌, ⊎_elim}
use mathlib.Core.Option.{Option, none, some}
use native.Mathlib.Omega.{arith}
use lib.ListN.{length, take, drop, length-append}
use lib.Seq.{take-suc}
use Rattle.rules.specs.Octets.{front, octets_in}
use Rattle.rules.specs.Book.{book_number, book_of}
use Rattle.rules.specs.Packets.{Message, gather}
use Rattle.rules.specs.Endpoints.{Ends}
use Rattle.rules.specs.Saved.{records_place, area_for, count_in, link_of, records_of, gathering_at, gathering_in, ends_in}
use Rattle.rules.specs.Saved.{connection_in, store}
use Rattle.rules.specs.Host.{nothing_said, handled_by, takes, Answered}
use Rattle.rules.specs.declared.Header.{Header}
use Rattle.packets_next.specs.Nexts.{next_of}
use Rattle.packets_next.specs.declared.nexts.Next.{Next}
use Rattle.packets_next.specs.declared.nexts.Next.TheVariants.{Ended, Single, Begun, Grown, Complete}
use Rattle.rules.proofs.SavedReads.{ends_kept, length_ends_in}
use Rattle.rules.proofs.Refused.{nothing_written}
use Rattle.rules.proofs.Places.{legal_length}
use Rattle.rules.proofs.StaysLegal.{legal_ends_lem, takes_legal}
use Rattle.rules.proofs.SavedStaysRight.{right_legal}
use Rattle.rules.specs.Commands.{answer}
use Rattle.rules.specs.declared.Told.{Told}
use Rattle.saved.specs.Serves.{Serves}
use Rattle.packets_next.specs.Rooms.{RoomRight}
use Rattle.packets_next.proofs.Rooms.{room_kept}
use Rattle.packets_next.proofs.Steps.{Singles, room_told}
use Rattle.packets_gather.proofs.Done.{room_after, Assembled, assembled}
use Rattle.saved_legal.proofs.RightSaved.{Right, right_saved, serves}
use Rattle.bridge_packet.specs.Taken.{MayTake, Joins, with_link, joined_payload, gathered_area, served, taken_on}
use Rattle.bridge_packet.proofs.LinkBack.{link_with, front_with, records_with, long_with}

-- what is neither a message in one packet nor the last part of one completes none
pub no_message : (size : ℕ) (room p : List ℕ) (r : Next) → next_of size (gathering_in room) p ≡ r
    → (r ≡ Ended) ⊎ ((r ≡ Begun) ⊎ (r ≡ Grown)) → (gather size (gathering_in room) p).done ≡ none
no_message size room p r e =
    ⊎_elim (λ k. (room_told size room p Ended (e ∙ k)).done)
    (⊎_elim (λ k. (room_told size room p Begun (e ∙ k)).done) (λ k. (room_told size room p Grown (e ∙ k)).done))

abbrev pub answered : Told → List ℕ → List ℕ → Answered
answered told saved reply = record { told = told; saved = saved; reply = reply }

module _ (book : List ℕ) (size : ℕ) (saved p reply : List ℕ) (numbered : book_number book ≡ 0) (may : MayTake book saved reply)
    (octets : octets_in saved ≡ true) where
  abbrev room : List ℕ
  room = link_of saved

  abbrev records : List ℕ
  records = records_of saved

  abbrev ends : Ends
  ends = ends_in (length (book_of book)) records

  right : Right book saved
  right = right_saved book saved octets may.legal

  pub room_right : RoomRight room
  room_right = right.room

  kept : RoomRight (room_after size room p)
  kept = room_kept size room p room_right

  pub long : records_place ≤ length saved
  unfolding area_for
  long = omega (arith, right.area)

  -- the parts after the gathering
  after_room : link_of (gathered_area size saved p) ≡ room_after size room p
  unfolding gathered_area
  after_room = link_with saved (room_after size room p) long kept.long

  after_records : records_of (gathered_area size saved p) ≡ records
  unfolding gathered_area
  after_records = records_with saved (room_after size room p) long kept.long

  after_long : records_place ≤ length (gathered_area size saved p)
  unfolding gathered_area
  after_long = long_with saved (room_after size room p) long kept.long

  -- what stands before the records then, as it is stored with as many endpoints
  after_front : (e : Ends) → length e ≡ length (book_of book)
      → take records_place (gathered_area size saved p) ≡ length e ∷ room_after size room p
  unfolding gathered_area count_in
  after_front e counted =
      front_with saved (room_after size room p) long kept.long
      ∙ ap (λ (x : List ℕ). x ++ room_after size room p) (take-suc saved 0 0 (omega (arith, long)))
      ∙ ap (λ (n : ℕ). n ∷ room_after size room p) (right.count ∙ sym counted)

  -- no packet changes how many there are
  counted : length (takes (book_of book) size (connection_in (length (book_of book)) saved) p).connection.ends
      ≡ length (book_of book)
  counted =
      let c = connection_in (length (book_of book)) saved in
      let lawful = takes_legal (book_of book) size c p (right_legal (book_of book) saved may.legal) in
      legal_length (book_of book) _ (legal_ends_lem (book_of book) _ lawful).every

  may_serve : (payload : List ℕ) → length payload ≤ 512
      → Serves book (records_of (gathered_area size saved p)) payload reply
  may_serve payload short = rw after_records (serves book saved payload reply numbered right short may.room)

  -- a message that is complete
  serves_it : (m : Message) → (gather size (gathering_in room) p).done ≡ some m
      → served book m (gathered_area size saved p) reply ≡ taken_on book size saved p reply
  unfolding served taken_on takes handled_by connection_in store
  serves_it m e =
      let same =
      subst
      (λ (d : Option Message).
      length (handled_by (book_of book) ends (gather size (gathering_in room) p).gathering d).connection.ends
      ≡ length (book_of book))
      e counted in
      rw (after_records, after_front (answer (book_of book) ends m).ends same)
      (ap
      (λ (done : Option Message).
      let t = handled_by (book_of book) ends (gather size (gathering_in room) p).gathering done in
      answered t.told (store t.connection saved) (front t.payload reply))
      (sym e))

  -- and where none is
  pub nothing_done : (told : Told) (after : List ℕ) → after ≡ gathered_area size saved p → told ≡ nothing_said 0
      → (gather size (gathering_in room) p).done ≡ none → answered told after reply ≡ taken_on book size saved p reply
  unfolding gathered_area with_link count_in taken_on takes handled_by connection_in store
  nothing_done told after g e f =
      let stored = ends_kept (length (book_of book)) records right.held.room right.held.right right.held.octets in
      let first =
      ap (λ (x : List ℕ). x ++ (room_after size room p ++ records)) (take-suc saved 0 0 (omega (arith, long)))
      ∙ ap (λ (n : ℕ). n ∷ (room_after size room p ++ records))
      (right.count ∙ sym (length_ends_in (length (book_of book)) records))
      ∙ ap (λ (x : List ℕ). length ends ∷ (room_after size room p ++ x)) (sym stored) in
      (λ k. answered (e k) ((g ∙ first) k) (sym (nothing_written reply) k))
      ∙ ap
      (λ (done : Option Message).
      let t = handled_by (book_of book) ends (gather size (gathering_in room) p).gathering done in
      answered t.told (store t.connection saved) (front t.payload reply))
      (sym f)

  module _ (h : Header) where
    single : next_of size (gathering_in room) p ≡ Single h → Singles h p (gather size (gathering_in room) p)
    single e = room_told size room p (Single h) e

    pub single_header : next_of size (gathering_in room) p ≡ Single h → 2 ≤ length p
    single_header e = (single e).header

    module _ (after : List ℕ) (e : after ≡ gathered_area size saved p) where
      -- the packet's part as it is lent
      module _ (payload : List ℕ) (lent : payload ≡ drop 2 p) (s : next_of size (gathering_in room) p ≡ Single h) where
        pub single_serves : (records_place ≤ length after) × Serves book (records_of after) payload reply
        single_serves = rw (e, lent) (after_long, may_serve (drop 2 p) (single s).fits)

        pub single_done : (a : Answered)
            → a ≡ served book (record { header = h; payload = payload }) after reply
            → a ≡ taken_on book size saved p reply
        single_done a f =
            f
            ∙ (λ k. served book (record { header = h; payload = lent k }) (e k) reply)
            ∙ serves_it (record { header = h; payload = drop 2 p }) (single s).done

      whole : next_of size (gathering_in room) p ≡ Complete h
          → Assembled h p (link_of after) (gather size (gathering_in room) p).done
      whole s = rw (e, after_room) (assembled size room p room_right h s)

      short : length (gathering_at (link_of after)).message.payload + length (drop 1 p) ≤ 512
          → length (joined_payload after p) ≤ 512
      unfolding joined_payload
      short fits =
          let e = length-append (gathering_at (link_of after)).message.payload (drop 1 p) in
          omega arith

      pub joined_serves : next_of size (gathering_in room) p ≡ Complete h → Joins book after p reply
      joined_serves s =
          let w = whole s in
          record {
            long = rw e after_long;
            header = w.header;
            gathered = w.gathered;
            fits = w.fits;
            serves =
                subst (λ (x : List ℕ). Serves book (records_of x) (joined_payload after p) reply) (sym e)
                (may_serve (joined_payload after p) (short w.fits));
          }

      pub joined_done : (a : Answered) → next_of size (gathering_in room) p ≡ Complete h
          → a ≡ served book (record { header = h; payload = joined_payload after p }) after reply
          → a ≡ taken_on book size saved p reply
      unfolding joined_payload
      joined_done a s f =
          f
          ∙ ap
          (λ (x : List ℕ). served book (record { header = h; payload = joined_payload after p }) x reply)
          e
          ∙ serves_it (record { header = h; payload = joined_payload after p }) (whole s).message
