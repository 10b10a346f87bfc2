-- A call that is not refused was given a right book and a right saved area: a chain of tests that gives 0 has failed at none of
-- them.
use Prim.Native.Nat.{ℕ, zero, suc, ◌≤◌}
use native.Mathlib.Omega.{arith}
use mathlib.Core.Path.{◌≡◌, refl}
use mathlib.Core.List.{List}
use mathlib.Core.Bool.{Bool, true, false, not}
use lib.ListN.{length}
use lib.Dec.{ltb}
use borrow.Author.Tests.{ltb-false, not-false}
use Rattle.std.specs.Prelude.{if◌then◌else◌}
use Rattle.rules.specs.Book.{book_number, book_of}
use Rattle.rules.specs.Packets.{size_right}
use Rattle.rules.specs.Saved.{saved_right}
use Rattle.rules.specs.Host.{number_or, saved_number, refusal_of, packet_refusal}
use Rattle.rules.specs.Bursts.{most_packets, burst_room, burst_refusal}
use Rattle.rules.proofs.RightBook.{not_failed}

none_saved : (b : Bool) → ◌≡◌ {A = ℕ} (if b then 0 else 12) 0 → b ≡ true
none_saved true e = refl
none_saved false e = absurd (omega arith)

pub none_first : (n next : ℕ) → number_or n next ≡ 0 → (n ≡ 0) × (next ≡ 0)
unfolding number_or
none_first zero next e = (refl, e)
none_first (suc n) next e = absurd (omega arith)

pub record Unrefused (b saved : List ℕ) : Type 0 where
  pub book : book_number b ≡ 0
  pub right : saved_right (book_of b) saved ≡ true

pub none_refused : (b saved : List ℕ) → refusal_of b saved ≡ 0 → Unrefused b saved
unfolding refusal_of saved_number
none_refused b saved e =
    let both = none_first (book_number b) _ e in
    record { book = both.0; right = none_saved (saved_right (book_of b) saved) both.1 }

module _ (b : List ℕ) (size : ℕ) (saved reply : List ℕ) (e : packet_refusal b size saved reply ≡ 0) where
  tests : (book_number b ≡ 0) × (ltb (length reply) 64 ≡ false) × (saved_right (book_of b) saved ≡ true)
  unfolding packet_refusal saved_number
  tests =
      let both = none_first (book_number b) _ e in
      let sized = not_failed (not (size_right size)) 8 _ refl both.1 in
      let roomy = not_failed (ltb (length reply) 64) 9 _ refl sized.1 in
      (both.0, roomy.0, none_saved (saved_right (book_of b) saved) roomy.1)

  pub packet_unrefused : Unrefused b saved
  packet_unrefused = record { book = tests.0; right = tests.2 }

  pub packet_room : 64 ≤ length reply
  packet_room = ltb-false (length reply) 64 tests.1

-- what a burst that is not refused was given
pub record BurstGiven (b : List ℕ) (size : ℕ) (saved lengths reply : List ℕ) : Type 0 where
  pub given : Unrefused b saved
  pub sized : size_right size ≡ true
  pub few : length lengths ≤ most_packets
  pub room : burst_room ≤ length reply

pub burst_given : (b : List ℕ) (size : ℕ) (saved lengths reply : List ℕ) → burst_refusal b size saved lengths reply ≡ 0
    → BurstGiven b size saved lengths reply
unfolding burst_refusal saved_number
burst_given b size saved lengths reply e =
    let both = none_first (book_number b) _ e in
    let sized = not_failed (not (size_right size)) 8 _ refl both.1 in
    let few = not_failed (ltb most_packets (length lengths)) 13 _ refl sized.1 in
    let roomy = not_failed (ltb (length reply) burst_room) 9 _ refl few.1 in
    record {
      given = record { book = both.0; right = none_saved (saved_right (book_of b) saved) roomy.1 };
      sized = not-false (size_right size) sized.0;
      few = ltb-false most_packets (length lengths) few.0;
      room = ltb-false (length reply) burst_room roomy.0;
    }
