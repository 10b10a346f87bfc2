-- The tests that stand before every call, in their order: the first that fails gives the number, and what passed all of them is a
-- right book and a right saved area.
use Rattle.std.proofs.Common.{ℕ, zero, suc, ◌≤◌, ◌<◌, ◌≡◌, refl, sym, ap, ◌∙◌, List, Bool, true, false, not, length, get_or}
use Rattle.std.proofs.Common.{if◌then◌else◌, arith}
use Rattle.std.specs.Prelude.{ltb}
use borrow.Author.Tests.{lt-ltb, le-ltb}
use Rattle.rules.specs.Octets.{octets_in}
use Rattle.rules.specs.Book.{book_number, book_of}
use Rattle.rules.specs.Packets.{size_right}
use Rattle.rules.specs.Saved.{records_place, area_for, saved_right}
use Rattle.rules.specs.Host.{number_or, saved_number, refusal_of, sized_or}
use Rattle.rules.specs.Bursts.{most_packets, burst_room}
use Rattle.rules.specs.Refusals.{number_of}
use Rattle.rules.specs.declared.refusals.Refusal.{Refusal}
use Rattle.rules.proofs.SavedReads.{octets_known}
use Rattle.rules.proofs.SavedStaysRight.{right_long}
use Rattle.rules.proofs.Unrefused.{none_refused}
use Rattle.rules.proofs.Refusing.{never_0, refused_first}
use Rattle.saved_legal.proofs.RightSaved.{Right, right_saved}

-- ---- A refusal goes before what is tested after it

-- the book's
pub book_refused : (book : List ℕ) (refusal : Refusal) (next : ℕ) → number_of refusal ≡ book_number book
    → number_of refusal ≡ number_or (book_number book) next
book_refused book refusal next e = sym (refused_first refusal next) ∙ ap (λ (k : ℕ). number_or k next) e

pub book_passed : (book : List ℕ) (next : ℕ) → 0 ≡ book_number book → next ≡ number_or (book_number book) next
unfolding number_or
book_passed book next e = rw (← e)

-- the book's and then that of the packet size
first_of : (n : ℕ) (sized : Bool) (next : ℕ)
    → let before = number_or n (if not sized then 8 else 0) in
    (before ≡ 0 → ⊥) → before ≡ number_or n (if not sized then 8 else next)
unfolding number_or
first_of zero true next h = absurd (h refl)
first_of zero false next h = refl
first_of (suc n) sized next h = refl

passed_of : (n : ℕ) (sized : Bool) (next : ℕ) → 0 ≡ number_or n (if not sized then 8 else 0)
    → next ≡ number_or n (if not sized then 8 else next)
unfolding number_or
passed_of zero true next h = refl
passed_of zero false next h = absurd (omega arith)
passed_of (suc n) sized next h = absurd (omega arith)

module _ (book : List ℕ) (size : ℕ) where
  pub sized_refused : (refusal : Refusal) (next : ℕ) → number_of refusal ≡ sized_or book size 0
      → number_of refusal ≡ sized_or book size next
  sized_refused refusal next e =
      e ∙ first_of (book_number book) (size_right size) next (λ z. never_0 refusal (e ∙ z))

  pub sized_passed : (next : ℕ) → 0 ≡ sized_or book size 0 → next ≡ sized_or book size next
  sized_passed next e = passed_of (book_number book) (size_right size) next e

-- the saved area is tested against the book that passed
pub passed_saved : {right book : List ℕ} (saved : List ℕ) {n : ℕ} → n ≡ saved_number right saved → right ≡ book
    → n ≡ saved_number book saved
passed_saved saved e same = e ∙ ap (λ (b : List ℕ). saved_number b saved) same

-- ---- What is tested after them: a reply area too short, and the saved area, for a packet and for a burst

module _ (book saved reply : List ℕ) where
  pub reply_short : length reply < 64 → 9 ≡ (if ltb (length reply) 64 then 9 else saved_number book saved)
  reply_short short = rw (lt-ltb (length reply) 64 short)

  pub reply_roomy : 64 ≤ length reply → saved_number book saved ≡ (if ltb (length reply) 64 then 9 else saved_number book saved)
  reply_roomy room = rw (le-ltb (length reply) 64 room)

  module _ (lengths : List ℕ) where
    abbrev Behind : ℕ → Type 0
    Behind n =
        n ≡
        (if ltb most_packets (length lengths) then 13
        else if ltb (length reply) burst_room then 9
        else saved_number book saved)

    pub burst_many : most_packets < length lengths → Behind 13
    burst_many many = rw (lt-ltb most_packets (length lengths) many)

    pub burst_short : length lengths ≤ most_packets → length reply < burst_room → Behind 9
    burst_short few short = rw (le-ltb most_packets (length lengths) few, lt-ltb (length reply) burst_room short)

    pub burst_roomy : length lengths ≤ most_packets → burst_room ≤ length reply → Behind (saved_number book saved)
    burst_roomy few room = rw (le-ltb most_packets (length lengths) few, le-ltb (length reply) burst_room room)

-- ---- Nothing refused

-- what a call may count on then
pub record Calm (book saved : List ℕ) : Type 0 where
  pub allowed : refusal_of book saved ≡ 0
  pub numbered : book_number book ≡ 0
  pub octets : octets_in saved ≡ true
  pub lawful : saved_right (book_of book) saved ≡ true
  pub long : records_place ≤ length saved
  pub inside : Right book saved

pub calm : (book saved : List ℕ) → ((i : ℕ) → get_or saved i 0 < 256) → 0 ≡ refusal_of book saved → Calm book saved
unfolding area_for
calm book saved known e =
    let allowed = sym e in
    let unrefused = none_refused book saved allowed in
    let octets = octets_known saved known in
    record {
      allowed = allowed;
      numbered = unrefused.book;
      octets = octets;
      lawful = unrefused.right;
      long = omega (arith, right_long (book_of book) saved unrefused.right);
      inside = right_saved book saved octets unrefused.right;
    }
