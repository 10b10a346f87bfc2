-- The saved area as a whole: its parts are tested apart, and what the test tells where it passes.
use Rattle.std.proofs.Common.{ℕ, ◌+◌, ◌-◌, ◌*◌, ◌≤◌, zero-add, arith, ◌≡◌, refl, sym, ap, ◌∙◌, List, Bool, true, false, ◌&&◌}
use Rattle.std.proofs.Common.{length, length-take, length-drop, leb, eqb, leb-true, eqb-true}
use Rattle.rules.specs.Octets.{octets_in}
use Rattle.rules.specs.Book.{Book, book_number, book_of}
use Rattle.rules.specs.Endpoints.{legal_ends, awaiting, legal_gathering, legal}
use Rattle.rules.specs.Saved.{records_place, record_room, area_for, count_in, link_of, records_of, ends_in, records_right}
use Rattle.rules.specs.Saved.{gathering_room, gathering_in, gathering_octets_right, connection_in, saved_right}
use Rattle.rules.proofs.RightBook.{right_book}
use Rattle.rules.proofs.Tests.{and_l, and_r}
use Rattle.rules.proofs.SavedReads.{octets_drop, gathering_room_lem, records_room}
use Rattle.packets_next.specs.Rooms.{RoomRight}
use Rattle.saved.specs.Held.{Held}
use Rattle.saved.specs.Serves.{Serves}
use Rattle.saved_gathering.specs.Room.{room_legal}
use Rattle.saved_legal.specs.Legal.{records_legal}

-- ---- The parts

-- a right book has few entries
pub few_entries : (b : List ℕ) → book_number b ≡ 0 → length (book_of b) ≤ 16
few_entries b right = (right_book b right).few

pub link_long : (l : List ℕ) → records_place ≤ length l → length (link_of l) ≡ gathering_room
unfolding link_of
link_long l h = simp (length-take, length-drop) (omega arith)

pub records_long : (l : List ℕ) → length (records_of l) ≡ length l - records_place
unfolding records_of
records_long l = length-drop records_place l

apart : (k a g r e w l : Bool)
    → (((k && a) && g) && r) && ((e && w) && l) ≡ a && k && (g && l) && ((r && e) && w)
apart false false g r e w l = refl
apart false true g r e w l = refl
apart true false g r e w l = refl
apart true true false r e w l = refl
apart true true true false e w true = refl
apart true true true false e w false = refl
apart true true true true false w true = refl
apart true true true true false w false = refl
apart true true true true true false true = refl
apart true true true true true false false = refl
apart true true true true true true true = refl
apart true true true true true true false = refl

-- in the order in which the code tests them
pub by_parts : (book : Book) (l : List ℕ)
    → saved_right book l
    ≡ leb (records_place + length book * record_room) (length l) && eqb (count_in l) (length book) && room_legal (link_of l)
    && records_legal book (length book) 0 (records_of l)
unfolding saved_right legal connection_in room_legal records_legal area_for
by_parts book l =
    let n = length book in
    let records = records_of l in
    let room = link_of l in
    apart (eqb (count_in l) n) (leb (records_place + n * record_room) (length l)) (gathering_octets_right room)
    (records_right n records) (legal_ends book (ends_in n records)) (leb (awaiting (ends_in n records)) 1)
    (legal_gathering (gathering_in room))
    ∙ ap (λ (k : ℕ). leb (records_place + n * record_room) (length l) && eqb (count_in l) n
    && (gathering_octets_right room && legal_gathering (gathering_in room))
    && (records_right n records && legal_ends book (ends_in n records) && leb k 1))
    (sym (zero-add (awaiting (ends_in n records))))

-- all that the test of an area goes by
pub ruleset parts = (few_entries, link_long, records_long, by_parts)

-- ---- What a right saved area holds

-- what everything behind the check may count on
pub record Right (book saved : List ℕ) : Type 0 where
  pub area : area_for (length (book_of book)) ≤ length saved
  pub count : count_in saved ≡ length (book_of book)
  pub room : RoomRight (link_of saved)
  pub held : Held (length (book_of book)) (records_of saved)
  pub lawful : legal_ends (book_of book) (ends_in (length (book_of book)) (records_of saved)) ≡ true
  pub one : leb (awaiting (ends_in (length (book_of book)) (records_of saved))) 1 ≡ true

pub right_saved : (book saved : List ℕ) → octets_in saved ≡ true → saved_right (book_of book) saved ≡ true → Right book saved
unfolding saved_right legal connection_in records_of
right_saved book saved octets right =
    let n = length (book_of book) in
    let room = link_of saved in
    let records = records_of saved in
    let area : area_for n ≤ length saved = leb-true (area_for n) (length saved) (search (and_l, and_r) depth 8) in
    record {
      area = area;
      count = eqb-true (count_in saved) n (search (and_l, and_r) depth 8);
      room =
          record {
            long = gathering_room_lem n saved area;
            octets = search (and_l, and_r) depth 8;
            limits = search (and_l, and_r) depth 8;
          };
      held =
          record {
            room = records_room n saved area;
            octets = octets_drop records_place saved octets;
            right = search (and_l, and_r) depth 8;
          };
      lawful = search (and_l, and_r) depth 8;
      one = search (and_l, and_r) depth 8;
    }

-- and with it what a command may count on
pub serves : (book saved payload reply : List ℕ) → book_number book ≡ 0 → Right book saved → length payload ≤ 512
    → 64 ≤ length reply → Serves book (records_of saved) payload reply
serves book saved payload reply numbered right short room =
    record {
      right = numbered;
      held = right.held;
      lawful = right.lawful;
      one = right.one;
      short = short;
      room = room;
    }
