-- A row of packets, gathered one after another.
use Rattle.std.specs.Prelude.{ℕ, List, [], ◌∷◌}
use Rattle.std.proofs.Math.Option.{Option, none, some}
use Rattle.rules.specs.Packets.{Message, Gathering, gather}

-- What a row of packets leads to: the gathering then, and the messages completed, in order.
pub record Gathered : Type 0 where
  pub gathering : Option Gathering
  pub messages : List Message

-- the message that a packet completed, in front of what the packets after it lead to
unfoldable pub with_done : Option Message → Gathered → Gathered
with_done none r = r
with_done (some m) r = record { gathering = r.gathering; messages = m ∷ r.messages }

-- from a gathering on
unfoldable pub gather_all : ℕ → Option Gathering → List (List ℕ) → Gathered
gather_all size g [] = record { gathering = g; messages = [] }
gather_all size g (p ∷ ps) = let s = gather size g p in with_done s.done (gather_all size s.gathering ps)
