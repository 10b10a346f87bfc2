-- A packet of a burst on its own 64 octets of the reply area.
use Rattle.std.specs.Prelude.{ℕ, ◌+◌, ◌≤◌, ◌≡◌, List, ◌++◌, true, length, take, drop}
use Rattle.rules.specs.Book.{book_of}
use Rattle.rules.specs.Saved.{saved_right}
use Rattle.rules.specs.Host.{Answered}
use Rattle.rules.specs.Bursts.{slot}
use Rattle.bridge_packet.specs.Taken.{taken_on}

-- a right saved area over a book that is right by its type, and 64 octets from a place on
pub record MayTakeAt (book saved : List ℕ) (from : ℕ) (reply : List ℕ) : Type 0 where
  pub legal : saved_right (book_of book) saved ≡ true
  pub room : from + slot ≤ length reply

unfoldable pub taken_at : List ℕ → ℕ → List ℕ → List ℕ → ℕ → List ℕ → Answered
taken_at book size saved p from reply =
    let a = taken_on book size saved p (take slot (drop from reply)) in
    record {
      told = a.told;
      saved = a.saved;
      reply = take from reply ++ (a.reply ++ drop (from + slot) reply);
    }
