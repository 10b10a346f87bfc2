-- For headers of any sizes: the count is a quotient rounded up, so the joined parts are a longer and longer front of the payload
-- and with the last packet all of it, and a gathering that takes the packets in turn holds just that.
use Prim.Native.Nat.{ℕ, zero, suc, ◌+◌, ◌-◌, ◌*◌, ◌/◌, ◌≤◌, ◌<◌}
use mathlib.Core.Path.{◌≡◌, refl, sym, ap, ◌∙◌}
use mathlib.Core.List.{List, [], ◌++◌}
use mathlib.Core.Option.{Option, some}
use mathlib.Core.Bool.{Bool, true, false, not}
use native.Mathlib.Nat.{suc_inj, le-div_iff_mul-le, lt-div-mul-add, mul-le-mul_right, min-le_right}
use native.Mathlib.Omega.{arith}
use lib.ListN.{length, take, drop, length-append, length-take, length-drop}
use lib.Seq.{take-add, take_all}
use lib.Dec.{leb, ltb, eqb}
use borrow.Author.Tests.{le-leb, leb-true, leb-false, lt-ltb, le-ltb, eq-eqb, ne_eqb}
use Rattle.std.specs.Prelude.{if◌then◌else◌}
use Rattle.rules.specs.Packets.{Message, Packet, single, start, further, longest, Gathering, completes, gathers, extended}
use Rattle.rules.specs.Packets.{begin, is_next, joined, goes_on, taken}
use Rattle.rules.specs.Cutting.{Headers, packets_for, part_of}
use Rattle.rules.proofs.Tests.{Told?, passed, failed, told, between_both}

-- ---- A quotient rounded up is the least number of packets of d octets that hold a octets

quotient_enough : (a d q : ℕ) → 1 ≤ d → (a + (d - 1)) / d ≡ q → a ≤ q * d
quotient_enough a d q l e = rw (← e) (omega (arith, lt-div-mul-add {a = a + (d - 1)} {b = d} l))

quotient_least : (a d q : ℕ) → 1 ≤ d → (a + (d - 1)) / d ≡ suc q → q * d < a
quotient_least a d q l e =
    omega (arith, (le-div_iff_mul-le {k = d} {x = suc q} {y = a + (d - 1)} l).0 (omega arith))

-- ---- The count

-- What is asked of the headers at packet size m: a start fits, a further packet takes at least one octet of payload, and the
-- header of a single is no longer than that of a start.
pub record HeadersFit (h : Headers) (m : ℕ) : Type 0 where
  pub start_fits : h.start ≤ m
  pub further_fits : h.further < m
  pub single_least : h.single ≤ h.start

-- the octets of payload before packet number k, the packets before it being full
unfoldable pub before : Headers → ℕ → ℕ → ℕ
before h m zero = 0
before h m (suc k) = m - h.start + k * (m - h.further)

-- The right count for n octets: one packet if it holds them, and else so many that the last is needed and enough.
pub data Counts (h : Headers) (m n : ℕ) : ℕ → Type 0 where
  one : n + h.single ≤ m → Counts h m n 1
  several : (q : ℕ) → m < n + h.single → before h m (suc q) < n → n ≤ before h m (suc (suc q)) → Counts h m n (suc (suc q))

quotient_counts : (h : Headers) (m n q : ℕ) → HeadersFit h m → m < n + h.single
    → (n - (m - h.start) + (m - h.further - 1)) / (m - h.further) ≡ q → Counts h m n (suc q)
unfolding before
quotient_counts h m n zero f l e =
    absurd (omega (arith, quotient_enough (n - (m - h.start)) (m - h.further) 0 (omega arith) e))
quotient_counts h m n (suc q) f l e =
    several q l
    (omega (arith, quotient_least (n - (m - h.start)) (m - h.further) q (omega arith) e))
    (omega (arith, quotient_enough (n - (m - h.start)) (m - h.further) (suc q) (omega arith) e))

pub count_right : (h : Headers) (m n : ℕ) → HeadersFit h m → Counts h m n (packets_for h m n)
unfolding packets_for
count_right h m n f = go (told (leb n (m - h.single)))
  where
    go : Told? (leb n (m - h.single)) → Counts h m n (packets_for h m n)
    go (passed e) = rw e (one (omega (arith, leb-true n (m - h.single) e)))
    go (failed e) = rw e (quotient_counts h m n _ f (omega (arith, leb-false n (m - h.single) e)) refl)

module _ (h : Headers) (m : ℕ) where
  before_one : before h m 1 ≡ m - h.start
  unfolding before
  before_one = omega arith

  before_next : (k : ℕ) → before h m (suc (suc k)) ≡ before h m (suc k) + (m - h.further)
  unfolding before
  before_next k = omega arith

  -- the payload goes on past the start of every packet after the first
  pub before_less : {n count : ℕ} (k : ℕ) → Counts h m n count → suc k < count → before h m (suc k) < n
  unfolding before
  before_less k (one l) b = absurd (omega arith)
  before_less k (several q l p r) b = omega (arith, mul-le-mul_right {m = k} {n = q} (m - h.further) (omega arith))

-- ---- The parts

-- the parts of the packets before number k, joined
unfoldable pub parts_before : Headers → ℕ → ℕ → ℕ → List ℕ → List ℕ
parts_before h m count zero payload = []
parts_before h m count (suc k) payload = parts_before h m count k payload ++ part_of h m count k payload

-- octets of header in packet number k
unfoldable pub header_of : Headers → ℕ → ℕ → ℕ
header_of h count zero = if eqb count 1 then h.single else h.start
header_of h count (suc k) = h.further

not_one : (q : ℕ) → eqb (suc (suc q)) 1 ≡ false
not_one q = ne_eqb (suc (suc q)) 1 (λ e. omega arith)

module _ (h : Headers) (m : ℕ) (payload : List ℕ) where
  parts_front : (q k : ℕ) → parts_before h m (suc (suc q)) k payload ≡ take (before h m k) payload
  unfolding parts_before part_of before
  parts_front q zero = refl
  parts_front q (suc zero) = rw (not_one, before_one)
  parts_front q (suc (suc k)) =
      ap (λ (l : List ℕ). l ++ part_of h m (suc (suc q)) (suc k) payload) (parts_front q (suc k))
      ∙ sym (ap (λ (n : ℕ). take n payload) (before_next h m k) ∙ take-add (before h m (suc k)) (m - h.further) payload)

  -- all parts, joined, are the payload
  pub parts_whole : {count : ℕ} → Counts h m (length payload) count → parts_before h m count count payload ≡ payload
  unfolding parts_before part_of
  parts_whole (one l) = refl
  parts_whole (several q l p r) = parts_front q (suc (suc q)) ∙ take_all _ payload r

  pub parts_short : {count : ℕ} (k : ℕ) → Counts h m (length payload) count → k ≤ count
      → length (parts_before h m count k payload) ≤ length payload
  unfolding parts_before part_of
  parts_short zero (one l) b = omega arith
  parts_short (suc zero) (one l) b = omega arith
  parts_short (suc (suc k)) (one l) b = absurd (omega arith)
  parts_short k (several q l p r) b = rw (parts_front, length-take) (min-le_right _ _)

  -- no packet is longer than m, and each but the last is full
  pub part_fits : {count : ℕ} (k : ℕ) → HeadersFit h m → Counts h m (length payload) count
      → header_of h count k + length (part_of h m count k payload) ≤ m
  unfolding header_of part_of
  part_fits zero f (one l) = omega arith
  part_fits zero f (several q l p r) = rw (not_one, length-take) (omega arith)
  part_fits (suc k) f c = rw (length-take, length-drop) (omega arith)

  pub part_full : {count : ℕ} (k : ℕ) → HeadersFit h m → Counts h m (length payload) count → suc k < count
      → header_of h count k + length (part_of h m count k payload) ≡ m
  unfolding header_of part_of before
  part_full k f (one l) b = absurd (omega arith)
  part_full zero f (several q l p r) b = rw (not_one, length-take) (omega arith)
  part_full (suc k) f (several q l p r) b =
      rw (length-take, length-drop) (omega (arith, before_less h m (suc k) (several q l p r) b))

  -- the last part is what remains, and where there are several it is not empty
  pub last_part : {count : ℕ} (k : ℕ) → Counts h m (length payload) count → suc k ≡ count
      → part_of h m count k payload ≡ drop (before h m k) payload
  unfolding part_of before
  last_part zero (one l) e = refl
  last_part (suc k) (one l) e = absurd (omega arith)
  last_part zero (several q l p r) e = absurd (omega arith)
  last_part (suc k) (several q l p r) e =
      take_all (m - h.further) (drop (before h m (suc k)) payload)
      (rw length-drop (omega (arith, ap (λ (x : ℕ). x * (m - h.further)) (suc_inj (suc_inj e)))))

  pub last_not_empty : {count : ℕ} (k : ℕ) → HeadersFit h m → Counts h m (length payload) count → suc (suc k) ≡ count
      → 1 ≤ length (part_of h m count (suc k) payload)
  unfolding part_of before
  last_not_empty k f c e = rw (length-take, length-drop) (omega (arith, before_less h m k c (omega arith)))

-- ---- The gathering of the packets as they are read

-- the message with p for its payload
abbrev pub holding : Message → List ℕ → Message
holding msg p = record { header = msg.header; payload = p }

-- what packet number k is read as
unfoldable pub as_read : Headers → ℕ → ℕ → Message → ℕ → Packet
as_read h m count msg zero =
    if eqb count 1 then single (holding msg (part_of h m count 0 msg.payload))
    else start count (holding msg (part_of h m count 0 msg.payload))
as_read h m count msg (suc k) =
    further (not (ltb (suc (suc k)) count)) msg.header.label msg.header.mtype (part_of h m count (suc k) msg.payload)

-- the gathering after the first k packets
abbrev pub so_far : Headers → ℕ → ℕ → Message → ℕ → Gathering
so_far h m count msg k =
    record { message = holding msg (parts_before h m count k msg.payload); count = count; parts = k }

module _ (h : Headers) (m : ℕ) {count : ℕ} (msg : Message) (short : length msg.payload ≤ 512)
    (c : Counts h m (length msg.payload) count) where
  within : (k : ℕ) → k ≤ count → leb (length (parts_before h m count k msg.payload)) 512 ≡ true
  within k b =
      le-leb (length (parts_before h m count k msg.payload)) 512 (omega (arith, parts_short h m msg.payload k c b))

  is_next_lem : (k : ℕ) (last : Bool) → (if last then eqb (suc (suc k)) count else ltb (suc (suc k)) count) ≡ true → suc k < count
      → is_next (so_far h m count msg (suc k)) last msg.header.label msg.header.mtype
      (part_of h m count (suc k) msg.payload) ≡ true
  unfolding is_next longest parts_before
  is_next_lem k last t b =
      rw (eq-eqb msg.header.label msg.header.label refl, eq-eqb msg.header.mtype msg.header.mtype refl, t)
      (rw length-append at (within (suc (suc k)) b))

  pub takes_single : (g : Option Gathering) → count ≡ 1 → taken g (as_read h m count msg 0) ≡ completes msg
  unfolding taken as_read part_of longest
  takes_single g e = rw (e, le-leb (length msg.payload) 512 short)

  pub takes_start : (g : Option Gathering) → 2 ≤ count → count ≤ 255
      → taken g (as_read h m count msg 0) ≡ gathers (so_far h m count msg 1)
  unfolding taken as_read begin longest parts_before
  takes_start g l b =
      rw (ne_eqb count 1 (λ e. omega arith), between_both 2 255 count l b, within 1 (omega arith))

  pub takes_next : (k : ℕ) → suc (suc k) < count
      → taken (some (so_far h m count msg (suc k))) (as_read h m count msg (suc k)) ≡ gathers (so_far h m count msg (suc (suc k)))
  unfolding taken as_read goes_on joined extended parts_before
  takes_next k b =
      rw (lt-ltb (suc (suc k)) count b, is_next_lem k false (lt-ltb (suc (suc k)) count b) (omega arith))

  pub takes_last : (k : ℕ) → suc (suc k) ≡ count
      → taken (some (so_far h m count msg (suc k))) (as_read h m count msg (suc k)) ≡ completes msg
  unfolding taken as_read goes_on joined extended parts_before
  takes_last k e =
      rw (le-ltb (suc (suc k)) count (omega arith), is_next_lem k true (eq-eqb (suc (suc k)) count e) (omega arith))
      (ap (λ (p : List ℕ). completes (holding msg p))
      (ap (λ (n : ℕ). parts_before h m count n msg.payload) e ∙ parts_whole h m msg.payload c))
