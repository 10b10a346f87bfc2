-- What a packet leads to on a right saved area, step by step, and what the code may count on there.
use Rattle.std.specs.Prelude.{ℕ, ◌+◌, ◌≤◌, ◌≡◌, List, ◌++◌, true, length, take, drop}
use Rattle.rules.specs.Octets.{front}
use Rattle.rules.specs.Book.{book_of}
use Rattle.rules.specs.Packets.{Message, gather}
use Rattle.rules.specs.Saved.{count_room, records_place, link_of, records_of, payload_length_in, gathering_at, gathering_in}
use Rattle.rules.specs.Saved.{store_gathering, ends_in, store_ends, connection_in, store, saved_right}
use Rattle.rules.specs.Commands.{answer}
use Rattle.rules.specs.Host.{nothing_said, told_of, payload_of, takes, Answered}
use Rattle.rules.specs.declared.Told.{Told}
use Rattle.rules.specs.declared.Header.{Header}
use Rattle.commands_reply.specs.declared.Said.{Said}
use Rattle.commands_reply.specs.declared.Said.TheVariants.{Silence, GeneralReject, Accept, Reject}
use Rattle.saved.specs.Serves.{Serves}

-- a right saved area over a book that is right by its type, and room for every reply
pub record MayTake (book saved reply : List ℕ) : Type 0 where
  pub legal : saved_right (book_of book) saved ≡ true
  pub room : 64 ≤ length reply

-- what is told of what a command says: message types 1 general reject, 2 accept, 3 reject
unfoldable pub spoken : Header → Said → Told
spoken h Silence = nothing_said 0
spoken h GeneralReject = record { number = 0; label = h.label; mtype = 1; signal = h.signal; length = 0 }
spoken h (Accept n) = record { number = 0; label = h.label; mtype = 2; signal = h.signal; length = n }
spoken h (Reject n) = record { number = 0; label = h.label; mtype = 3; signal = h.signal; length = n }

-- the saved area with another link part
unfoldable pub with_link : List ℕ → List ℕ → List ℕ
with_link link saved = take count_room saved ++ (link ++ records_of saved)

-- the saved area after the gathering of a packet
unfoldable pub gathered_area : ℕ → List ℕ → List ℕ → List ℕ
gathered_area size saved p =
    let link = link_of saved in
    with_link (store_gathering (gather size (gathering_in link) p).gathering link) saved

-- what is gathered in the saved area, and then the packet's part
unfoldable pub joined_payload : List ℕ → List ℕ → List ℕ
joined_payload saved p = (gathering_at (link_of saved)).message.payload ++ drop 1 p

pub record Joins (book saved p reply : List ℕ) : Type 0 where
  pub long : records_place ≤ length saved
  pub header : 1 ≤ length p
  pub gathered : payload_length_in (link_of saved) ≤ 512
  pub fits : length (gathering_at (link_of saved)).message.payload + length (drop 1 p) ≤ 512
  pub serves : Serves book (records_of saved) (joined_payload saved p) reply

-- a message answered over the records of the saved area
unfoldable pub served : List ℕ → Message → List ℕ → List ℕ → Answered
served book m saved reply =
    let records = records_of saved in
    let o = answer (book_of book) (ends_in (length (book_of book)) records) m in
    record {
      told = told_of m o.reply;
      saved = take records_place saved ++ store_ends o.ends records;
      reply = front (payload_of o.reply) reply;
    }

unfoldable pub taken_on : List ℕ → ℕ → List ℕ → List ℕ → List ℕ → Answered
taken_on book size saved p reply =
    let t = takes (book_of book) size (connection_in (length (book_of book)) saved) p in
    record { told = t.told; saved = store t.connection saved; reply = front t.payload reply }
