-- What the cutter answers, over plain values: each refusal by the tests up to its own, and a packet as its header and a part of
-- the payload, one written behind the other.
use Prim.Native.Nat.{ℕ, zero, suc, ◌+◌, ◌-◌, ◌≤◌, ◌<◌, min, zero-le}
use mathlib.Core.Path.{◌≡◌, refl, sym, ap, ap₂, ◌∙◌}
use mathlib.Core.List.{List, ◌++◌}
use mathlib.Core.Bool.{Bool, true, false}
use native.Mathlib.Nat.{min-eq_left, min-eq_right}
use native.Mathlib.Omega.{arith}
use lib.ListN.{length, take, drop, length-take, length-drop}
use lib.Seq.{take_all}
use lib.Dec.{leb, ltb, eqb, lit≤}
use borrow.Author.Tests.{lt-ltb, le-ltb, leb-true, leb-false, ne_eqb}
use Rattle.rules.specs.Octets.{front}
use Rattle.std.specs.Prelude.{if◌then◌else◌}
use Rattle.rules.specs.Packets.{Message, size_right, longest}
use Rattle.rules.specs.Cutting.{Headers, avdtp, part_of, header, count_of, packet_at}
use Rattle.rules.specs.Host.{Cut, cut_refusal, cut_call}
use Rattle.rules.proofs.Tests.{Told?, passed, failed, told, between_both}
use Rattle.rules.proofs.Pieces.{before, Counts, one, several, before_less, header_of}
use Rattle.rules.proofs.ReadsBack.{HasRoom, counts, header_length, packet_length}
use Rattle.octets.specs.Patch.{patch, part}
use Rattle.octets.proofs.Patches.{front_patch, front_more}

-- ---- The size

pub size_right_lem : (size : ℕ) → 48 ≤ size → size ≤ 672 → size_right size ≡ true
unfolding size_right
size_right_lem size p q = between_both 48 672 size p q

-- ---- Packet number k of a message, of as many as it takes

pub record Numbered (size : ℕ) (m : Message) (k total : ℕ) : Type 0 where
  pub right : size_right size ≡ true
  pub short : length m.payload ≤ 512
  pub whole : total ≡ count_of size m
  pub below : k < total

-- ---- Refusals

module _ {size : ℕ} {m : Message} {k total : ℕ} (n : Numbered size m k total) where
  low : ltb k (count_of size m) ≡ true
  low = lt-ltb k (count_of size m) (omega (arith, n.whole, n.below))

  not_long : ltb 512 (length m.payload) ≡ false
  not_long = le-ltb 512 (length m.payload) n.short

  module _ (area : List ℕ) where
    -- the numbers have room, and only the area can still be too short
    room_test : HasRoom m
        → cut_refusal size m k area ≡ (if ltb (length area) (length (packet_at size m k)) then 9 else 0)
    unfolding cut_refusal longest
    room_test r =
        rw (
          n.right,
          low,
          not_long,
          lt-ltb m.header.label 16 r.label_small,
          lt-ltb m.header.mtype 4 r.type_small,
          lt-ltb m.header.signal 64 r.signal_small,
        )

    no_room : HasRoom m → length area < length (packet_at size m k) → cut_refusal size m k area ≡ 9
    no_room r short =
        room_test r ∙ ap (λ (b : Bool). if b then 9 else 0) (lt-ltb (length area) (length (packet_at size m k)) short)

    -- where nothing is refused
    pub cuts : HasRoom m → length (packet_at size m k) ≤ length area
        → cut_call size m k area
        ≡ record {
          piece = record { number = 0; length = length (packet_at size m k) };
          area = front (packet_at size m k) area;
        }
    unfolding cut_call
    cuts r fits =
        rw (room_test r ∙ ap (λ (b : Bool). if b then 9 else 0) (le-ltb (length area) (length (packet_at size m k)) fits))

-- ---- A packet

pub header_small : (total k : ℕ) → header_of avdtp total k ≤ 3
unfolding header_of
header_small total zero = go (eqb total 1)
  where
    go : (b : Bool) → (if b then 2 else 3) ≤ 3
    go true = lit≤ tt
    go false = lit≤ tt
header_small total (suc k) = lit≤ tt

-- a part is what remains of the payload, as far as the packet has room
part_of_lem : (h : Headers) (m k : ℕ) {count : ℕ} (payload : List ℕ) → Counts h m (length payload) count
    → part_of h m count k payload ≡ take (m - header_of h count k) (drop (before h m k) payload)
unfolding part_of header_of before
part_of_lem h m zero payload (one l) = sym (take_all (m - h.single) payload (omega arith))
part_of_lem h m zero payload (several q l p r) = rw (ne_eqb (suc (suc q)) 1 (λ e. omega arith))
part_of_lem h m (suc k) payload c = refl

take_least : (n : ℕ) (l : List ℕ) → take (min n (length l)) l ≡ take n l
take_least n l = go (told (leb n (length l)))
  where
    go : Told? (leb n (length l)) → take (min n (length l)) l ≡ take n l
    go (passed e) = rw (min-eq_left {n = n} {m = length l} (leb-true n (length l) e))
    go (failed e) =
        let h : length l ≤ n = omega (arith, leb-false n (length l) e) in
        rw (min-eq_right {n = length l} {m = n} h, take_all (length l) l (omega arith), take_all n l h)

module _ {size : ℕ} {m : Message} {k total : ℕ} (n : Numbered size m k total) where
  counts_total : Counts avdtp size (length m.payload) total
  counts_total = rw n.whole (counts size m n.right)

  -- the part begins within the payload
  pub from_within : before avdtp size k ≤ length m.payload
  unfolding before
  from_within = go k n.below
    where
      go : (k : ℕ) → k < total → before avdtp size k ≤ length m.payload
      go zero b = zero-le
      go (suc j) b = omega (arith, before_less avdtp size j counts_total b)

  -- the part as the code takes it
  cut_part :
      part (before avdtp size k) (min (size - header_of avdtp total k) (length m.payload - before avdtp size k)) m.payload
      ≡ part_of avdtp size total k m.payload
  unfolding part
  cut_part =
      ap (λ (x : ℕ). take (min (size - header_of avdtp total k) x) (drop (before avdtp size k) m.payload))
      (sym (length-drop (before avdtp size k) m.payload))
      ∙ take_least (size - header_of avdtp total k) (drop (before avdtp size k) m.payload)
      ∙ sym (part_of_lem avdtp size k m.payload counts_total)

  packet_size : length (packet_at size m k)
      ≡ header_of avdtp total k + min (size - header_of avdtp total k) (length m.payload - before avdtp size k)
  packet_size =
      packet_length size m k
      ∙ ap (λ (t : ℕ). header_of avdtp t k + length (part_of avdtp size t k m.payload)) (sym n.whole)
      ∙ rw (part_of_lem avdtp size k m.payload counts_total, length-take, length-drop)

-- the packet, as the code comes to it
module _ {size : ℕ} {m : Message} {k total : ℕ} (n : Numbered size m k total) (r : HasRoom m) (area : List ℕ)
    (head from rest : ℕ) (is_head : head ≡ header_of avdtp total k) (is_from : from ≡ before avdtp size k)
    (is_rest : rest ≡ min (size - head) (length m.payload - from)) where
  whole_size : length (packet_at size m k) ≡ head + rest
  whole_size = packet_size n ∙ sym (rw (is_rest, is_head, is_from))

  pub too_short : length area < head + rest → cut_refusal size m k area ≡ 9
  too_short short = no_room n area r (omega (arith, whole_size))

  module _ (p a b : List ℕ) (is_p : p ≡ part from rest m.payload) (is_a : a ≡ patch 0 (header m total k) area)
      (is_b : b ≡ patch head p a) (fits : head + rest ≤ length area) where
    joined : header m total k ++ p ≡ packet_at size m k
    unfolding packet_at
    joined =
        ap (λ (x : List ℕ). header m total k ++ x) (is_p ∙ rw (is_rest, is_head, is_from) (cut_part n))
        ∙ ap (λ (t : ℕ). header m t k ++ part_of avdtp size t k m.payload) n.whole

    in_place : b ≡ front (packet_at size m k) area
    in_place =
        let h = header m total k in
        let e : head ≡ length h = is_head ∙ sym (header_length m total k) in
        is_b ∙ ap₂ (λ (x : ℕ) (y : List ℕ). patch x p y) e (is_a ∙ sym (front_patch h area))
        ∙ front_more h p area
        ∙ ap (λ (x : List ℕ). front x area) joined

    pub writes :
        ◌≡◌ {A = Cut} (record { piece = record { number = 0; length = head + rest }; area = b }) (cut_call size m k area)
    writes = sym (cuts n area r (omega (arith, whole_size)) ∙ rw (in_place, whole_size))
