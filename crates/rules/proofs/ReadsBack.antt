-- A cut message reads back: every packet is read as what was written, and then by induction on the packets still owed.
use Prim.Native.Nat.{ℕ, zero, suc, ◌+◌, ◌-◌, ◌/◌, ◌%◌, ◌≤◌, ◌<◌}
use mathlib.Core.Path.{◌≡◌, refl, sym, ap, ◌∙◌}
use mathlib.Core.List.{List, [], ◌∷◌, ◌++◌}
use mathlib.Core.Option.{Option, none, some}
use mathlib.Core.Bool.{Bool, true, false, not}
use native.Mathlib.Nat.{mul-le-mul_left}
use native.Mathlib.Omega.{arith}
use lib.ListN.{length, get_or, replicate, length-append}
use lib.Dec.{ltb, eqb, lit<, lit≤}
use borrow.Author.Tests.{le-ltb}
use Rattle.rules.specs.Octets.{between}
use Rattle.std.specs.Prelude.{if◌then◌else◌}
use Rattle.rules.specs.Packets.{Message, single, start, further, a_single, a_start, a_continue, an_end, size_right, label_in}
use Rattle.rules.specs.Packets.{mtype_in, signal_in, packet_type_in, message_from, read_as, read, packet_in, Gathering, completes}
use Rattle.rules.specs.Packets.{gathers, taken, gather}
use Rattle.rules.specs.Cutting.{avdtp, part_of, first_octet, header, count_of, packet_at, packets_from, cut_up}
use Rattle.rules.specs.Gathered.{with_done, gather_all}
use Rattle.rules.proofs.Tests.{between_least}
use Rattle.rules.proofs.Pieces.{HeadersFit, before, Counts, one, several, count_right, header_of, part_fits, part_full}
use Rattle.rules.proofs.Pieces.{holding, as_read, so_far, takes_single, takes_start, takes_next, takes_last}

-- ---- How many packets, and how long

pub avdtp_fits : (size : ℕ) → size_right size ≡ true → HeadersFit avdtp size
unfolding size_right
avdtp_fits size right = omega (arith, between_least 48 672 size right)

pub counts : (size : ℕ) (m : Message) → size_right size ≡ true → Counts avdtp size (length m.payload) (count_of size m)
unfolding count_of
counts size m right = count_right avdtp size (length m.payload) (avdtp_fits size right)

few : {size n count : ℕ} → 48 ≤ size → n ≤ 512 → Counts avdtp size n count → (1 ≤ count) × (count ≤ 11)
unfolding before
few l s (one b) = omega arith
few {size} l s (several q b p r) = omega (arith, mul-le-mul_left {m = 47} {n = size - 1} q (omega arith))

pub count_small : (size : ℕ) (m : Message) → size_right size ≡ true → length m.payload ≤ 512
    → (1 ≤ count_of size m) × (count_of size m ≤ 255)
unfolding size_right
count_small size m right short = omega (arith, few (between_least 48 672 size right) short (counts size m right))

from_count : (size : ℕ) (m : Message) (k n : ℕ) → length (packets_from size m k n) ≡ n
unfolding packets_from
from_count size m k zero = refl
from_count size m k (suc n) = ap suc (from_count size m (suc k) n)

pub packet_count : (size : ℕ) (m : Message) → length (cut_up size m) ≡ count_of size m
unfolding cut_up
packet_count size m = from_count size m 0 (count_of size m)

pub header_length : (m : Message) (count k : ℕ) → length (header m count k) ≡ header_of avdtp count k
unfolding header header_of
header_length m count zero = go (eqb count 1)
  where
    go : (b : Bool)
        → length (if b then first_octet 0 m ∷ m.header.signal ∷ [] else first_octet 1 m ∷ count ∷ m.header.signal ∷ [])
        ≡ if b then 2 else 3
    go true = refl
    go false = refl
header_length m count (suc k) = go (ltb (suc (suc k)) count)
  where
    go : (b : Bool)
        → length (if b then first_octet 2 m ∷ [] else first_octet 3 m ∷ []) ≡ 1
    go true = refl
    go false = refl

pub packet_length : (size : ℕ) (m : Message) (k : ℕ)
    → length (packet_at size m k) ≡ header_of avdtp (count_of size m) k + length
    (part_of avdtp size (count_of size m) k m.payload)
unfolding packet_at
packet_length size m k = rw (length-append, header_length)

-- no packet is too long, and each but the last is full
pub packets_fit : (size : ℕ) (m : Message) (k : ℕ) → size_right size ≡ true → length (packet_at size m k) ≤ size
packets_fit size m k right =
    rw packet_length (part_fits avdtp size m.payload k (avdtp_fits size right) (counts size m right))

pub packets_full : (size : ℕ) (m : Message) (k : ℕ) → size_right size ≡ true → suc k < count_of size m
    → length (packet_at size m k) ≡ size
packets_full size m k right b =
    packet_length size m k ∙ part_full avdtp size m.payload k (avdtp_fits size right) (counts size m right) b

-- ---- A header reads back

-- the numbers that the headers have room for
pub record HasRoom (m : Message) : Type 0 where
  pub label_small : m.header.label < 16
  pub type_small : m.header.mtype < 4
  pub signal_small : m.header.signal < 64

module _ (m : Message) (r : HasRoom m) where
  label_back : (t : ℕ) → t < 4 → label_in (first_octet t m) ≡ m.header.label
  unfolding label_in first_octet
  label_back t b = omega arith

  mtype_back : (t : ℕ) → mtype_in (first_octet t m) ≡ m.header.mtype
  unfolding mtype_in first_octet
  mtype_back t = omega arith

  packet_type_number : (t : ℕ) → t < 4 → first_octet t m / 4 % 4 ≡ t
  unfolding first_octet
  packet_type_number t b = omega arith

  packet_type_back : (t : ℕ) → t < 4 → packet_type_in (first_octet t m)
      ≡ get_or (a_single ∷ a_start ∷ a_continue ∷ an_end ∷ []) t a_single
  unfolding packet_type_in
  packet_type_back t b = rw packet_type_number

  signal_back : signal_in m.header.signal ≡ m.header.signal
  unfolding signal_in
  signal_back = omega arith

  -- the first packet, as a single or not; and a further packet, as a continue or not
  read_first : (b : Bool) (n : ℕ) (p : List ℕ)
      → read ((if b then first_octet 0 m ∷ m.header.signal ∷ [] else first_octet 1 m ∷ n ∷ m.header.signal ∷ []) ++ p)
      ≡ if b then single (holding m p) else start n (holding m p)
  unfolding read read_as message_from
  read_first true n p = rw (packet_type_back 0 (lit< tt), label_back 0 (lit< tt), mtype_back 0, signal_back)
  read_first false n p = rw (packet_type_back 1 (lit< tt), label_back 1 (lit< tt), mtype_back 1, signal_back)

  read_further : (b : Bool) (p : List ℕ)
      → read ((if b then first_octet 2 m ∷ [] else first_octet 3 m ∷ []) ++ p)
      ≡ further (not b) m.header.label m.header.mtype p
  unfolding read read_as
  read_further true p = rw (packet_type_back 2 (lit< tt), label_back 2 (lit< tt), mtype_back 2)
  read_further false p = rw (packet_type_back 3 (lit< tt), label_back 3 (lit< tt), mtype_back 3)

-- ---- A message reads back

module _ (size : ℕ) (m : Message) (right : size_right size ≡ true) (r : HasRoom m) (short : length m.payload ≤ 512) where
  read_packet : (k : ℕ) → read (packet_at size m k) ≡ as_read avdtp size (count_of size m) m k
  unfolding packet_at header as_read
  read_packet zero = read_first m r (eqb (count_of size m) 1) _ _
  read_packet (suc k) = read_further m r (ltb (suc (suc k)) (count_of size m)) _

  pub gather_packet : (g : Option Gathering) (k : ℕ)
      → gather size g (packet_at size m k) ≡ taken g (as_read avdtp size (count_of size m) m k)
  unfolding gather packet_in
  gather_packet g k = rw (le-ltb size (length (packet_at size m k)) (packets_fit size m k right), read_packet)

  -- the packets from number k + 1 on, n + 1 of them being owed
  rest_back : (n k : ℕ) → suc k + suc n ≡ count_of size m
      → gather_all size (some (so_far avdtp size (count_of size m) m (suc k))) (packets_from size m (suc k) (suc n))
      ≡ record { gathering = none; messages = m ∷ [] }
  unfolding gather_all with_done packets_from completes gathers
  rest_back zero k e = rw (gather_packet, takes_last avdtp size m short (counts size m right) k (omega arith))
  rest_back (suc n) k e =
      rw (gather_packet, takes_next avdtp size m short (counts size m right) k (omega arith))
      (rest_back n (suc k) (omega arith))

  all_back : (g : Option Gathering) (n : ℕ) → n ≡ count_of size m
      → gather_all size g (packets_from size m 0 n) ≡ record { gathering = none; messages = m ∷ [] }
  unfolding gather_all with_done packets_from completes gathers
  all_back g zero e = absurd (omega (arith, count_small size m right short))
  all_back g (suc zero) e = rw (gather_packet, takes_single avdtp size m short (counts size m right) g (sym e))
  all_back g (suc (suc n)) e =
      rw (
        gather_packet g 0,
        takes_start avdtp size m short (counts size m right) g (omega arith) (count_small size m right short).1,
      )
      (rest_back n 0 (omega arith))

pub reads_back : (size : ℕ) (m : Message) (g : Option Gathering) → size_right size ≡ true
    → m.header.label < 16 → m.header.mtype < 4 → m.header.signal < 64 → length m.payload ≤ 512
    → gather_all size g (cut_up size m) ≡ record { gathering = none; messages = m ∷ [] }
unfolding cut_up
reads_back size m g right l t s short =
    all_back size m right (record { label_small = l; type_small = t; signal_small = s }) short g (count_of size m) refl

-- ---- The hypotheses can be met: three packets at size 48, with the largest numbers, after the start of another message

abbrev pub sample : Message
sample = record { header = record { label = 15; mtype = 3; signal = 63 }; payload = replicate 93 0xAB }

abbrev pub another : Gathering
another =
    record { message = record { header = record { label = 1; mtype = 0; signal = 3 }; payload = 4 ∷ [] }; count = 3; parts = 1 }

pub sample_back : gather_all 48 (some another) (cut_up 48 sample) ≡ record { gathering = none; messages = sample ∷ [] }
unfolding size_right between
sample_back = reads_back 48 sample (some another) refl (lit< tt) (lit< tt) (lit< tt) (lit≤ tt)
