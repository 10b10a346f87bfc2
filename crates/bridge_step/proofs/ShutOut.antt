-- Five bridges that answer and yet are of no use, shut out: whatever meets the contracts gives exactly these answers to this
-- host, and each of the five would give another one at the step that is marked.
use Prim.Native.Nat.{ℕ}
use mathlib.Core.Path.{◌≡◌, refl, ◌∙◌}
use mathlib.Core.List.{List, [], ◌∷◌, map}
use lib.ListN.{replicate}
use Rattle.rules.specs.Computed.{computed}
use Rattle.rules.specs.Packets.{Message}
use Rattle.rules.specs.Saved.{area_for}
use Rattle.rules.specs.Sessions.{Call, fresh, packet, cut, Answer, number, told, cut_off}
use Rattle.rules.specs.Table.{trace_book, set_configuration1}
use Rattle.bridge_step.specs.Steps.{call_by}
use Rattle.bridge_step.specs.Hosts.{call_of, asked_of, Runs}
use Rattle.bridge_step.proofs.AllHosts.{defined}

abbrev area : List ℕ
area = replicate 64 0

-- a message of 47 octets, which takes two packets of 48
abbrev longer : Message
longer = record { header = record { label = 1; mtype = 2; signal = 12 }; payload = replicate 47 0xAB }

-- Set Configuration for the trace book's first endpoint, Get Configuration and Open for it, and the first packet of the message
unfoldable pub session : List Call
session =
    fresh
    ∷ packet 672 set_configuration1 area
    ∷ packet 672 (0x50 ∷ 0x04 ∷ 0x04 ∷ []) area
    ∷ packet 672 (0x60 ∷ 0x06 ∷ 0x04 ∷ []) area
    ∷ cut 48 longer 0 (replicate 48 0)
    ∷ []

unfoldable pub session_answers : List Answer
session_answers =
    number 0
    -- accepted: not a bridge that rejects everything, nor one that is always silent
    ∷ told (record { number = 0; label = 4; mtype = 2; signal = 3; length = 0 }) area
    -- the configuration is there: not a bridge that accepts and moves no endpoint, which would say 31h
    ∷ told (record { number = 0; label = 5; mtype = 2; signal = 4; length = 12 })
    (0x01 ∷ 0x00 ∷ 0x07 ∷ 0x06 ∷ 0x00 ∷ 0x00 ∷ 0x21 ∷ 0x15 ∷ 0x02 ∷ 0x35 ∷ 0x08 ∷ 0x00 ∷ replicate 52 0)
    -- answered too: not a bridge that serves the first command and ignores later ones
    ∷ told (record { number = 0; label = 6; mtype = 2; signal = 6; length = 0 }) area
    -- the packet count is 2: not a bridge that writes a count not its own
    ∷ cut_off (record { piece = record { number = 0; length = 48 }; area = 0x16 ∷ 0x02 ∷ 0x0C ∷ replicate 45 0xAB })
    ∷ []

pub shut_out : (room last : List ℕ) (answers : List Answer)
    → Runs trace_book (replicate (area_for 2) 0xDD) (map (asked_of room) session) answers last → answers ≡ session_answers
unfolding computed trace_book session session_answers call_of asked_of call_by
shut_out room last answers runs =
    (defined trace_book (replicate (area_for 2) 0xDD) (map (asked_of room) session) answers last runs).told ∙ refl
