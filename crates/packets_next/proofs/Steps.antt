-- What one packet leads to, told twice: the step of the gathering and the answer of `next_of` go by the same tests, so each
-- answer comes with what is known of the packet and of the step.
use borrow.Author.Tests.{leb-true, ltb-true}
use Prim.Native.Nat.{ℕ, suc, ◌+◌, ◌≤◌, ◌<◌}
use native.Mathlib.Omega.{arith}
use mathlib.Core.Path.{◌≡◌, refl, subst}
use mathlib.Core.List.{List, [], ◌∷◌}
use mathlib.Core.Bool.{Bool, true, false, ◌&&◌}
use mathlib.Core.Option.{Option, none, some}
use lib.Dec.{leb, ltb, eqb}
use lib.ListN.{length, drop, get_or}
use Rattle.rules.specs.Octets.{between}
use Rattle.std.specs.Prelude.{if◌then◌else◌}
use Rattle.rules.specs.Packets.{PacketType, a_single, a_start, a_continue, an_end, packet_type_in, label_in, mtype_in}
use Rattle.rules.specs.Packets.{message_from}
use Rattle.rules.specs.Packets.{read_as, read, packet_in, Gathering, Step, ended, completes, gathers, extended, begin, is_next}
use Rattle.rules.specs.Packets.{joined, goes_on, taken, gather, longest}
use Rattle.rules.specs.Saved.{gathering_at, gathering_in}
use Rattle.rules.specs.declared.Header.{Header}
use Rattle.packets_next.specs.Nexts.{next_further, next_by, next_of}
use Rattle.packets_next.specs.declared.nexts.Next.{Next}
use Rattle.packets_next.specs.declared.nexts.Next.TheVariants.{Ended, Single, Begun, Grown, Complete}
use Rattle.rules.proofs.Tests.{and_l, and_r}
use Rattle.rules.proofs.Outcomes.{if_arms}
use Rattle.packets_next.specs.Rooms.{begun, grown}

-- ---- What each answer tells, where b says that there is no gathering and g is what it is otherwise

pub record Ends (s : Step) : Type 0 where
  pub gathering : s.gathering ≡ none
  pub done : s.done ≡ none

pub record Singles (h : Header) (p : List ℕ) (s : Step) : Type 0 where
  pub header : 2 ≤ length p
  pub fits : length (drop 2 p) ≤ 512
  pub gathering : s.gathering ≡ none
  pub done : s.done ≡ some (record { header = h; payload = drop 2 p })

pub record Begins (p : List ℕ) (s : Step) : Type 0 where
  pub header : 3 ≤ length p
  pub fits : length (drop 3 p) ≤ 512
  pub gathering : s.gathering ≡ some (begun p)
  pub done : s.done ≡ none

pub record Grows (b : Bool) (g : Gathering) (p : List ℕ) (s : Step) : Type 0 where
  pub there : b ≡ false
  pub header : 1 ≤ length p
  pub fits : length g.message.payload + length (drop 1 p) ≤ 512
  pub owed : suc g.parts < g.count
  pub gathering : s.gathering ≡ some (grown g p)
  pub done : s.done ≡ none

pub record Completes (h : Header) (b : Bool) (g : Gathering) (p : List ℕ) (s : Step) : Type 0 where
  pub there : b ≡ false
  pub header : 1 ≤ length p
  pub fits : length g.message.payload + length (drop 1 p) ≤ 512
  pub named : g.message.header ≡ h
  pub gathering : s.gathering ≡ none
  pub done : s.done ≡ some (extended g.message (drop 1 p))

abbrev pub Tells : Next → Bool → Gathering → List ℕ → Step → Type 0
Tells Ended b g p s = Ends s
Tells (Single h) b g p s = Singles h p s
Tells Begun b g p s = Begins p s
Tells Grown b g p s = Grows b g p s
Tells (Complete h) b g p s = Completes h b g p s

-- ---- Both by one test

both_arms : (P : Next → Step → Type 0) (t : Bool) (x y : Next) (u v : Step) → (t ≡ true → P x u) → (t ≡ false → P y v)
    → P (if t then x else y) (if t then u else v)
both_arms P true x y u v f g = f refl
both_arms P false x y u v f g = g refl

ends : Ends ended
unfolding ended
ends = record { gathering = refl; done = refl }

module _ (g : Gathering) (h : ℕ) (q : List ℕ) where
  joined_tells : (last : Bool) → is_next g last (label_in h) (mtype_in h) q ≡ true
      → Tells (if last then Complete g.message.header else Grown) false g (h ∷ q) (joined g last q)
  unfolding is_next joined completes gathers grown longest
  joined_tells true e =
      record {
        there = refl;
        header = omega arith;
        fits = leb-true (length g.message.payload + length q) 512 (search (and_l, and_r));
        named = refl;
        gathering = refl;
        done = refl;
      }
  joined_tells false e =
      record {
        there = refl;
        header = omega arith;
        fits = leb-true (length g.message.payload + length q) 512 (search (and_l, and_r));
        owed = ltb-true (suc g.parts) g.count (search (and_l, and_r));
        gathering = refl;
        done = refl;
      }

  further_tells : (b last : Bool)
      → let there = if b then none else some g in
      Tells (next_further there last (label_in h) (mtype_in h) q) b g (h ∷ q) (goes_on there last (label_in h) (mtype_in h) q)
  unfolding next_further goes_on
  further_tells true last = ends
  further_tells false last =
      both_arms (λ x s. Tells x false g (h ∷ q) s) (is_next g last (label_in h) (mtype_in h) q) _ _ _ _ (joined_tells last)
      (λ f. ends)

module _ (b : Bool) (g : Gathering) where
  there : Option Gathering
  there = if b then none else some g

  read_tells : (k : PacketType) (h : ℕ) (q : List ℕ)
      → Tells (next_by there (read_as k h q)) b g (h ∷ q) (taken there (read_as k h q))
  unfolding there read_as next_by taken begin completes gathers message_from begun longest
  read_tells a_single h [] = ends
  read_tells a_single h (s ∷ q) =
      both_arms (λ x u. Tells x b g (h ∷ s ∷ q) u) (leb (length q) 512) _ _ _ _
      (λ t. record { header = omega arith; fits = leb-true (length q) 512 t; gathering = refl; done = refl })
      (λ f. ends)
  read_tells a_start h [] = ends
  read_tells a_start h (n ∷ []) = ends
  read_tells a_start h (n ∷ s ∷ q) =
      both_arms (λ x u. Tells x b g (h ∷ n ∷ s ∷ q) u) (between 2 255 n && leb (length q) 512) _ _ _ _
      (λ t.
      record {
        header = omega arith;
        fits = leb-true (length q) 512 (and_r (between 2 255 n) _ t);
        gathering = refl;
        done = refl;
      })
      (λ f. ends)
  read_tells a_continue h q = further_tells g h q b false
  read_tells an_end h q = further_tells g h q b true

  packet_tells : (size : ℕ) (p : List ℕ) → Tells (next_by there (packet_in size p)) b g p (taken there (packet_in size p))
  unfolding packet_in read next_by taken
  packet_tells size [] = if_arms (λ k. Tells (next_by there k) b g [] (taken there k)) (ltb size 0) _ _ (λ t. ends) (λ f. ends)
  packet_tells size (h ∷ q) =
      if_arms (λ k. Tells (next_by there k) b g (h ∷ q) (taken there k)) (ltb size (length (h ∷ q))) _ _ (λ t. ends)
      (λ f. read_tells (packet_type_in h) h q)

-- ---- Of a room

-- what the answer r to a packet tells
abbrev pub RoomTells : ℕ → List ℕ → List ℕ → Next → Type 0
RoomTells size room p r = Tells r (eqb (get_or room 0 0) 0) (gathering_at room) p (gather size (gathering_in room) p)

room_tells : (size : ℕ) (room p : List ℕ) → RoomTells size room p (next_of size (gathering_in room) p)
unfolding next_of gather gathering_in there
room_tells size room p = packet_tells (eqb (get_or room 0 0) 0) (gathering_at room) size p

pub room_told : (size : ℕ) (room p : List ℕ) (r : Next) → next_of size (gathering_in room) p ≡ r → RoomTells size room p r
room_told size room p r e = subst (RoomTells size room p) e (room_tells size room p)
