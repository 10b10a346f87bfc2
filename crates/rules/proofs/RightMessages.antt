-- What a packet leads to is in bounds: a header's fields are remainders, and the gathering takes no part that is too much.
use Prim.Native.Nat.{ℕ, suc, ◌+◌, ◌≤◌, ◌<◌, ◌%◌, ◌/◌}
use native.Mathlib.Nat.{mod-lt}
use native.Mathlib.Omega.{arith}
use mathlib.Core.Path.{◌≡◌, refl}
use mathlib.Core.List.{List, [], ◌∷◌}
use mathlib.Core.Bool.{Bool, true, false, ◌&&◌}
use mathlib.Core.Option.{Option, none, some}
use lib.ListN.{length, length-append}
use lib.Dec.{leb, ltb}
use borrow.Author.Tests.{leb-true, ltb-true, lt-ltb, le-leb}
use Rattle.rules.specs.Octets.{between}
use Rattle.rules.specs.Packets.{Message, label_in, mtype_in, signal_in, Packet, single, start, further, wrong, PacketType}
use Rattle.rules.specs.Packets.{a_single, a_start, a_continue, an_end, packet_type_in, message_from, read_as, read, packet_in}
use Rattle.rules.specs.Packets.{Gathering, Step, ended, completes, gathers, extended, begin, is_next, joined, goes_on, taken}
use Rattle.rules.specs.Packets.{gather, longest, gathering_right}
use Rattle.rules.specs.Endpoints.{legal_gathering}
use Rattle.rules.proofs.Tests.{and_l, and_r, between_least}
use Rattle.rules.proofs.Outcomes.{if_arms}

-- ---- Messages as they are read

unfoldable pub head_right : Message → Bool
head_right m = ltb m.header.label 16 && ltb m.header.mtype 4 && ltb m.header.signal 64

unfoldable pub message_right : Message → Bool
message_right m = head_right m && leb (length m.payload) longest

packet_right : Packet → Bool
packet_right (single m) = head_right m
packet_right (start n m) = head_right m
packet_right (further last label mtype p) = true
packet_right wrong = true

below : (n m : ℕ) → ltb 0 m ≡ true → ltb (n % m) m ≡ true
below n m h = lt-ltb (n % m) m (mod-lt n (ltb-true 0 m h))

head_right_lem : (h s : ℕ) (p : List ℕ) → head_right (message_from h s p) ≡ true
unfolding head_right message_from label_in mtype_in signal_in
head_right_lem h s p = rw (below (h / 16) 16 refl, below h 4 refl, below s 64 refl)

read_right : (k : PacketType) (h : ℕ) (p : List ℕ) → packet_right (read_as k h p) ≡ true
unfolding read_as packet_right
read_right a_single h [] = refl
read_right a_single h (s ∷ p) = head_right_lem h s p
read_right a_start h [] = refl
read_right a_start h (n ∷ []) = refl
read_right a_start h (n ∷ s ∷ p) = head_right_lem h s p
read_right a_continue h p = refl
read_right an_end h p = refl

packet_right_lem : (size : ℕ) (p : List ℕ) → packet_right (packet_in size p) ≡ true
unfolding packet_in read packet_right
packet_right_lem size [] = if_arms (λ k. packet_right k ≡ true) (ltb size 0) _ _ (λ t. refl) (λ f. refl)
packet_right_lem size (h ∷ p) =
    if_arms (λ k. packet_right k ≡ true) (ltb size (length (h ∷ p))) _ _ (λ t. refl) (λ f. read_right (packet_type_in h) h p)

-- ---- Steps of the gathering

unfoldable pub done_right : Option Message → Bool
done_right none = true
done_right (some m) = message_right m

pub record RightStep (s : Step) : Type 0 where
  pub gathering : legal_gathering s.gathering ≡ true
  pub done : done_right s.done ≡ true

ended_right : RightStep ended
unfolding ended legal_gathering done_right
ended_right = record { gathering = refl; done = refl }

completes_right : (m : Message) → head_right m ≡ true → leb (length m.payload) longest ≡ true → RightStep (completes m)
unfolding completes legal_gathering done_right message_right
completes_right m h l = record { gathering = refl; done = rw (h, l) }

gathers_right : (g : Gathering) → head_right g.message ≡ true → leb (length g.message.payload) longest ≡ true
    → between 2 255 g.count ≡ true → leb 1 g.parts ≡ true → ltb g.parts g.count ≡ true → RightStep (gathers g)
unfolding gathers legal_gathering done_right gathering_right head_right
gathers_right g h l c s p =
    let label : ltb g.message.header.label 16 ≡ true = search (and_l, and_r) in
    let mtype : ltb g.message.header.mtype 4 ≡ true = search (and_l, and_r) in
    let signal : ltb g.message.header.signal 64 ≡ true = search (and_l, and_r) in
    record { gathering = rw (l, c, s, p, label, mtype, signal); done = refl }

-- what a gathering says of its message
module _ (g : Gathering) (h : gathering_right g ≡ true) where
  gathered_head : head_right g.message ≡ true
  unfolding gathering_right head_right
  gathered_head =
      let label : ltb g.message.header.label 16 ≡ true = search (and_l, and_r) depth 7 in
      let mtype : ltb g.message.header.mtype 4 ≡ true = search (and_l, and_r) depth 7 in
      let signal : ltb g.message.header.signal 64 ≡ true = search (and_l, and_r) depth 7 in
      rw (label, mtype, signal)

  gathered_count : between 2 255 g.count ≡ true
  unfolding gathering_right
  gathered_count = search (and_l, and_r) depth 7

  -- a further part that is the next right one
  module _ (label mtype : ℕ) (p : List ℕ) where
    joined_right : (last : Bool) → is_next g last label mtype p ≡ true → RightStep (joined g last p)
    unfolding is_next joined extended head_right
    joined_right true n =
        let fits : leb (length g.message.payload + length p) longest ≡ true = search (and_l, and_r) in
        completes_right (extended g.message p) gathered_head (rw length-append fits)
    joined_right false n =
        let fits : leb (length g.message.payload + length p) longest ≡ true = search (and_l, and_r) in
        let more : ltb (suc g.parts) g.count ≡ true = search (and_l, and_r) in
        gathers_right _ gathered_head (rw length-append fits) gathered_count (le-leb 1 (suc g.parts) (omega arith)) more

goes_on_right : (g : Option Gathering) → legal_gathering g ≡ true → (last : Bool) (label mtype : ℕ) (p : List ℕ)
    → RightStep (goes_on g last label mtype p)
unfolding goes_on legal_gathering
goes_on_right none h last label mtype p = ended_right
goes_on_right (some g) h last label mtype p =
    if_arms RightStep (is_next g last label mtype p) _ _ (joined_right g h label mtype p last) (λ f. ended_right)

begin_right : (n : ℕ) (m : Message) → head_right m ≡ true → RightStep (begin n m)
unfolding begin
begin_right n m h =
    if_arms RightStep (between 2 255 n && leb (length m.payload) longest) _ _
    (λ t.
    let count = and_l (between 2 255 n) (leb (length m.payload) longest) t in
    let fits = and_r (between 2 255 n) (leb (length m.payload) longest) t in
    let least = between_least 2 255 n count in
    gathers_right (record { message = m; count = n; parts = 1 }) h fits count refl (lt-ltb 1 n least))
    (λ f. ended_right)

taken_right : (g : Option Gathering) (p : Packet) → legal_gathering g ≡ true → packet_right p ≡ true → RightStep (taken g p)
unfolding taken packet_right
taken_right g (single m) h r =
    if_arms RightStep (leb (length m.payload) longest) _ _ (completes_right m r) (λ f. ended_right)
taken_right g (start n m) h r = begin_right n m r
taken_right g (further last label mtype p) h r = goes_on_right g h last label mtype p
taken_right g wrong h r = ended_right

pub gather_right : (size : ℕ) (g : Option Gathering) (p : List ℕ) → legal_gathering g ≡ true → RightStep (gather size g p)
unfolding gather
gather_right size g p h = taken_right g (packet_in size p) h (packet_right_lem size p)

pub record Bounded (m : Message) : Type 0 where
  pub label : m.header.label < 16
  pub mtype : m.header.mtype < 4
  pub signal : m.header.signal < 64
  pub payload : length m.payload ≤ longest

bounded : (m : Message) → message_right m ≡ true → Bounded m
unfolding message_right head_right
bounded m h =
    record {
      label = ltb-true m.header.label 16 (search (and_l, and_r));
      mtype = ltb-true m.header.mtype 4 (search (and_l, and_r));
      signal = ltb-true m.header.signal 64 (search (and_l, and_r));
      payload = leb-true (length m.payload) longest (search (and_l, and_r));
    }

pub completed_bounded : (size : ℕ) (g : Option Gathering) (p : List ℕ) (m : Message) → legal_gathering g ≡ true
    → (gather size g p).done ≡ some m → Bounded m
unfolding done_right
completed_bounded size g p m h e = bounded m (rw e at (gather_right size g p h).done)
