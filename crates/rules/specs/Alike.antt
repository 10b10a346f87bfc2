-- The words of demand 3: books that differ only in which endpoints offer delay reporting, a far end that never uses it, where
-- the two bridges begin, and what it is that they behave alike.
use Rattle.std.specs.Prelude.{ℕ, ◌≡◌, List, [], ◌∷◌, ◌++◌, map, Bool, true, false, not, ◌&&◌, ◌||◌, length, take, drop, replicate}
use Rattle.std.specs.Prelude.{leb, eqb, if◌then◌else◌}
use Rattle.std.proofs.Math.Option.{Option, none, some}
use Rattle.rules.specs.Octets.{same_octets, each_of}
use Rattle.rules.specs.Elements.{items, has}
use Rattle.rules.specs.Book.{Entry, Book, book_of, written, up_to_codec, shown_by_02}
use Rattle.rules.specs.Packets.{Message, Gathering, gather, size_right}
use Rattle.rules.specs.Endpoints.{Ends, is_reported}
use Rattle.rules.specs.Saved.{connection_in}
use Rattle.rules.specs.Gathered.{gather_all}
use Rattle.rules.specs.Host.{fresh_call, event_call}
use Rattle.rules.specs.Bursts.{slot, most_packets, burst_room, packets_in}
use Rattle.rules.specs.Sessions
use Rattle.rules.specs.Sessions.{Call, check, fresh, packet, event, settings, delay, packets, cut, Answer, number, told}
use Rattle.rules.specs.Sessions.{shown, heard, counted, cut_off, after, stands, status, burst, told_each}
use Rattle.rules.specs.declared.Event.{Event}
use Rattle.rules.specs.declared.Event.TheVariants.{Up, Down, Lost}
use Rattle.rules.specs.declared.Told.{Told}

-- ---- Books alike, entry by entry: same SEID, same kind, same elements but for category 8. In a right book the elements that 02
-- shows are all but those of category 8.

unfoldable pub alike_entry : Entry → Entry → Bool
alike_entry n n' =
    eqb n.seid.0 n'.seid.0 && eqb n.kind n'.kind && same_octets (shown_by_02 n) (shown_by_02 n')

unfoldable pub alike : Book → Book → Bool
alike [] [] = true
alike [] (n ∷ book) = false
alike (n ∷ book) [] = false
alike (n ∷ book) (n' ∷ book') = alike_entry n n' && alike book book'

-- ---- A far end that never uses delay reporting: it completes no 0C, no 0D, and no 03 of which a whole element has category 8

unfoldable pub uses_delay : Message → Bool
uses_delay m =
    let signal = m.header.signal in
    eqb m.header.mtype 0
    && (eqb signal 0x0C || eqb signal 0x0D || (eqb signal 0x03 && has 8 (items (drop 2 m.payload))))

unfoldable pub uses_in : Option Message → Bool
uses_in none = false
uses_in (some m) = uses_delay m

-- what the host's events leave of a gathering
unfoldable pub after_event : Option Gathering → Event → Option Gathering
after_event g Up = g
after_event g (Down s) = g
after_event g Lost = none

-- By the inputs alone: the messages that the packets of a sequence complete, from a gathering on. A packet that is refused with 8
-- or 9 changes no gathering, nor does a burst that is refused with 8, 13 or 9.
unfoldable pub restrained : Option Gathering → List Call → Bool
restrained g [] = true
restrained g (check ∷ calls) = restrained g calls
restrained g (fresh ∷ calls) = restrained none calls
restrained g (packet size p reply ∷ calls) =
    if size_right size && leb 64 (length reply)
    then not (uses_in (gather size g p).done) && restrained (gather size g p).gathering calls
    else restrained g calls
restrained g (burst size octets lengths reply ∷ calls) =
    let all = gather_all size g (packets_in octets lengths) in
    if size_right size && leb (length lengths) most_packets && leb burst_room (length reply)
    then each_of (λ m. not (uses_delay m)) all.messages && restrained all.gathering calls
    else restrained g calls
restrained g (event e ∷ calls) = restrained (after_event g e) calls
restrained g (settings s ∷ calls) = restrained g calls
restrained g (delay s ∷ calls) = restrained g calls
restrained g (status s ∷ calls) = restrained g calls
restrained g (packets size n ∷ calls) = restrained g calls
restrained g (cut size m k area ∷ calls) = restrained g calls

-- ---- Where a bridge begins: fresh, or just lost, in an area with any past

pub data Begins (book saved : List ℕ) : Type 0 where
  begun : (area : List ℕ) → fresh_call book area ≡ record { number = 0; saved = saved } → Begins book saved
  lost : (area : List ℕ) → event_call book area Lost ≡ record { number = 0; saved = saved } → Begins book saved

-- no endpoint shows a reported delay
unfoldable pub none_reported : Ends → Bool
none_reported ends = each_of (λ e. not (is_reported e.head.delay)) ends

-- ---- Behaving alike: the same calls but for what lent areas hold, the same answers but for what may differ

-- a call with zeros in the area that it lends: its length alone is left of the area
unfoldable pub cleared : Call → Call
cleared check = check
cleared fresh = fresh
cleared (packet size p reply) = packet size p (replicate (length reply) 0)
cleared (burst size octets lengths reply) = burst size octets lengths (replicate (length reply) 0)
cleared (event e) = event e
cleared (settings s) = settings s
cleared (delay s) = delay s
cleared (status s) = status s
cleared (packets size n) = packets size n
cleared (cut size m k area) = cut size m k (replicate (length area) 0)

-- what was written at the front of each 64 octets
unfoldable pub written_in : List Told → List ℕ → List ℕ
written_in [] reply = []
written_in (t ∷ ts) reply = take t.length (take slot reply) ++ written_in ts (drop slot reply)

-- What is compared of an answer: all of it, but of a lent area only what was written at its front, and of the part that
-- `settings` shows only the elements of categories 1 to 7, as 02 shows them of an entry.
unfoldable pub compared : Answer → Answer
compared (number n) = number n
compared (told t reply) = told t (take t.length reply)
compared (told_each b reply) = told_each b (written_in b.told reply)
compared (shown s) = shown (record { number = s.number; part = written (up_to_codec (items s.part)) })
compared (heard h) = heard h
compared (stands t) = stands t
compared (counted n) = counted n
compared (cut_off c) = cut_off (record { piece = c.piece; area = take c.piece.length c.area })

-- Two bridges, each with its book, its saved area and its calls: alike are the answers and the connections that they end with,
-- and no endpoint shows a reported delay.
pub record Alike (b b' s s' : List ℕ) (calls calls' : List Call) : Type 0 where
  pub answers : map compared (Sessions.answers b s calls) ≡ map compared (Sessions.answers b' s' calls')
  pub connections :
      connection_in (length (book_of b)) (after b s calls) ≡ connection_in (length (book_of b')) (after b' s' calls')
  pub unreported : none_reported (connection_in (length (book_of b)) (after b s calls)).ends ≡ true
