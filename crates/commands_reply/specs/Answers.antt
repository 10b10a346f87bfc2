-- What a command says, and what the records and the reply area hold then, in the words of the definitions.
use Rattle.std.specs.Prelude.{ℕ, List, length}
use Rattle.rules.specs.Octets.{front}
use Rattle.rules.specs.Saved.{store_ends}
use Rattle.rules.specs.Commands.{Reply, silence, general_reject, accept, reject, Outcome}
use Rattle.rules.specs.Host.{payload_of}
use Rattle.commands_reply.specs.declared.Said.{Said}
use Rattle.commands_reply.specs.declared.Said.TheVariants.{Silence, GeneralReject, Accept, Reject}

abbrev pub said_of : Reply → Said
said_of silence = Silence
said_of general_reject = GeneralReject
said_of (accept p) = Accept (length p)
said_of (reject p) = Reject (length p)

-- an answer with both areas at exit
pub record Did : Type 0 where
  pub said : Said
  pub records : List ℕ
  pub reply : List ℕ

-- what a command's outcome makes of the records and of the reply area
unfoldable pub did : Outcome → List ℕ → List ℕ → Did
did o records area =
    record { said = said_of o.reply; records = store_ends o.ends records; reply = front (payload_of o.reply) area }
