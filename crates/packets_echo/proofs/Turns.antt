-- One turn, over plain values: packet number k is gathered to what is so far, and the last one gives the message back.
use Rattle.std.proofs.Common.{◌≡◌, ℕ, zero, suc, ◌+◌, ◌≤◌, ◌<◌, List, length, take, drop, refl, sym, ap, ap₂, ◌∙◌, add-one, arith}
use Rattle.std.specs.Prelude.{true, ltb, Some, None}
use Rattle.std.specs.declared.option.Option.{Option as Maybe}
use Rattle.std.proofs.Math.Option.{Option, some}
use Rattle.std.proofs.Math.Seq.{take-append_seam}
use borrow.Author.Tests.{ltb-true, ltb-false}
use Rattle.rules.specs.Octets.{front}
use Rattle.rules.specs.Packets.{Message, Gathering, Step, size_right, completes, gathers, gather}
use Rattle.rules.specs.Cutting.{avdtp, count_of, packet_at}
use Rattle.rules.specs.Host.{Cut, cut_call}
use Rattle.rules.specs.Saved.{gathering_in, store_gathering}
use Rattle.rules.specs.declared.Header.{Header}
use Rattle.rules.specs.declared.Piece.{Piece}
use Rattle.rules.proofs.Tests.{Told?, passed, failed, told as tested}
use Rattle.rules.proofs.Pieces.{so_far, takes_single, takes_start, takes_next, takes_last}
use Rattle.rules.proofs.ReadsBack.{HasRoom, counts, count_small, packets_fit, gather_packet}
use Rattle.rules.proofs.RightMessages.{gather_right}
use Rattle.packets_next.specs.Rooms.{RoomRight}
use Rattle.packets_next.proofs.Rooms.{stored_read, room_kept}
use Rattle.packets_cut.proofs.Cutter.{Numbered, cuts}
use Rattle.packets_echo.specs.declared.Echoed.{Echoed}
use Rattle.packets_echo.specs.Echoes.{echoed_of, payload_on}

-- ---- The packet that is cut

-- what the cutter tells and writes where it refuses nothing
pub record Written (p : Piece) (packet area after : List ℕ) : Type 0 where
  pub size : p.length ≡ length packet
  pub octets : after ≡ front packet area

-- the message that `echo` is asked to cut
abbrev pub message_of : Header → List ℕ → Message
message_of header payload = record { header = header; payload = payload }

-- a whole message: what `echo` asks
pub record Whole (size : ℕ) (m : Message) : Type 0 where
  pub right : size_right size ≡ true
  pub most : size ≤ 672
  pub room : HasRoom m
  pub short : length m.payload ≤ 512

-- lent as long as it is, it is read as it was written
pub lent : (p : Piece) (packet area after : List ℕ) → Written p packet area after → take p.length after ≡ packet
unfolding front
lent p packet area after w =
    ap₂ (λ (n : ℕ) (l : List ℕ). take n l) w.size w.octets ∙ take-append_seam packet (drop (length packet) area)

module _ {size : ℕ} {m : Message} (w : Whole size m) where
  pub some_packet : 0 < count_of size m
  some_packet = (count_small size m w.right w.short).0

  pub few_packets : count_of size m ≤ 255
  few_packets = (count_small size m w.right w.short).1

  pub packet_small : (k : ℕ) → length (packet_at size m k) ≤ 672
  packet_small k = omega (arith, w.most, packets_fit size m k w.right)

  pub written : (k : ℕ) {asked : ℕ} (p : Piece) (area after : List ℕ) → k < count_of size m → 672 ≤ length area → asked ≡ k
      → ◌≡◌ {A = Cut} (record { piece = p; area = after }) (cut_call size m asked area)
      → Written p (packet_at size m k) area after
  written k p area after below long this e =
      let n : Numbered size m k (count_of size m) = record { right = w.right; short = w.short; whole = refl; below = below } in
      let f = e ∙ ap (λ (i : ℕ). cut_call size m i area) this ∙ cuts n area w.room (omega (arith, packet_small k)) in
      record { size = ap (λ (c : Cut). c.piece.length) f; octets = ap (λ (c : Cut). c.area) f }

-- ---- The gathering of it

-- what is gathered when packet number k comes: before the first, anything
pub data Reached (size : ℕ) (m : Message) (g : Option Gathering) : ℕ → Type 0 where
  fresh : Reached size m g zero
  reached_so_far : (k : ℕ) → g ≡ some (so_far avdtp size (count_of size m) m (suc k)) → Reached size m g (suc k)

module _ {size : ℕ} {m : Message} (w : Whole size m) where
  goes_on_lem : (g : Option Gathering) {k : ℕ} → Reached size m g k → suc k < count_of size m
      → gather size g (packet_at size m k) ≡ gathers (so_far avdtp size (count_of size m) m (suc k))
  goes_on_lem g fresh b =
      gather_packet size m w.right w.room w.short g 0
      ∙ takes_start avdtp size m w.short (counts size m w.right) g b (count_small size m w.right w.short).1
  goes_on_lem g (reached_so_far k e) b =
      ap (λ (x : Option Gathering). gather size x (packet_at size m (suc k))) e
      ∙ gather_packet size m w.right w.room w.short _ (suc k)
      ∙ takes_next avdtp size m w.short (counts size m w.right) k b

  finishes : (g : Option Gathering) {k : ℕ} → Reached size m g k → suc k ≡ count_of size m
      → gather size g (packet_at size m k) ≡ completes m
  finishes g fresh e =
      gather_packet size m w.right w.room w.short g 0
      ∙ takes_single avdtp size m w.short (counts size m w.right) g (sym e)
  finishes g (reached_so_far k f) e =
      ap (λ (x : Option Gathering). gather size x (packet_at size m (suc k))) f
      ∙ gather_packet size m w.right w.room w.short _ (suc k)
      ∙ takes_last avdtp size m w.short (counts size m w.right) k e

-- ---- One turn

-- the message is back
pub record Back (m : Message) (e : Echoed) (message after : List ℕ) : Type 0 where
  pub echoed : e ≡ record { header = m.header; length = length m.payload }
  pub written : after ≡ front m.payload message

-- or packet number k is owed
pub record Owed (size : ℕ) (m : Message) (k : ℕ) (room : List ℕ) : Type 0 where
  pub below : k < count_of size m
  pub few : count_of size m ≤ 255
  pub right : RoomRight room
  pub reached : Reached size m (gathering_in room) k

module _ {size : ℕ} {m : Message} {k : ℕ} {room : List ℕ} (w : Whole size m) (o : Owed size m k room) (packet : List ℕ)
    (is_packet : packet ≡ packet_at size m k) (told : Maybe Echoed) (left message after : List ℕ)
    (is_told : told ≡ echoed_of (gather size (gathering_in room) packet).done)
    (is_left : left ≡ store_gathering (gather size (gathering_in room) packet).gathering room)
    (is_after : after ≡ payload_on (gather size (gathering_in room) packet).done message) where
  last : suc k ≡ count_of size m → gather size (gathering_in room) packet ≡ completes m
  last l = ap (gather size (gathering_in room)) is_packet ∙ finishes w (gathering_in room) o.reached l

  not_last : suc k < count_of size m
      → gather size (gathering_in room) packet ≡ gathers (so_far avdtp size (count_of size m) m (suc k))
  not_last l = ap (gather size (gathering_in room)) is_packet ∙ goes_on_lem w (gathering_in room) o.reached l

  some_told : suc k ≡ count_of size m → told ≡ Some (record { header = m.header; length = length m.payload })
  unfolding echoed_of completes
  some_told l = is_told ∙ ap (λ (s : Step). echoed_of s.done) (last l)

  back_written : suc k ≡ count_of size m → after ≡ front m.payload message
  unfolding payload_on completes
  back_written l = is_after ∙ ap (λ (s : Step). payload_on s.done message) (last l)

  none_told : suc k < count_of size m → told ≡ None
  unfolding echoed_of gathers
  none_told l = is_told ∙ ap (λ (s : Step). echoed_of s.done) (not_last l)

  pub turn_done : (e : Echoed) → told ≡ Some e → Back m e message after
  turn_done e d = go (tested (ltb (suc k) (count_of size m)))
    where
      go : Told? (ltb (suc k) (count_of size m)) → Back m e message after
      go (passed t) = let n = none_told (ltb-true (suc k) (count_of size m) t) in cc
      go (failed t) =
          let l : suc k ≡ count_of size m = omega (arith, o.below, ltb-false (suc k) (count_of size m) t) in
          let s = some_told l in
          record { echoed = cc; written = back_written l }

  owed : suc k < count_of size m → Owed size m (k + 1) left
  unfolding gathers
  owed l =
      let legal = (gather_right size (gathering_in room) packet o.right.limits).gathering in
      rw add-one record {
        below = l;
        few = o.few;
        right = rw is_left (room_kept size room packet o.right);
        reached =
            reached_so_far k
            (ap gathering_in is_left
            ∙ stored_read (gather size (gathering_in room) packet).gathering room o.right.long legal
            ∙ ap (λ (s : Step). s.gathering) (not_last l));
      }

  same_message : suc k < count_of size m → after ≡ message
  unfolding payload_on gathers
  same_message l = is_after ∙ ap (λ (s : Step). payload_on s.done message) (not_last l)

  pub turn_on : told ≡ None → Owed size m (k + 1) left × (after ≡ message)
  turn_on d = go (tested (ltb (suc k) (count_of size m)))
    where
      go : Told? (ltb (suc k) (count_of size m)) → Owed size m (k + 1) left × (after ≡ message)
      go (passed t) = let l = ltb-true (suc k) (count_of size m) t in (owed l, same_message l)
      go (failed t) =
          let s = some_told (omega (arith, o.below, ltb-false (suc k) (count_of size m) t)) in cc
