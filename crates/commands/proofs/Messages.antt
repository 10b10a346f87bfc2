-- A message by its type: a command is obeyed, and any other is not answered.
use Rattle.std.proofs.Common.{◌≡◌, ℕ, List, refl, eq-eqb, ne_eqb}
use Rattle.rules.specs.Octets.{front}
use Rattle.rules.specs.Commands.{silence, signal_of, obey, answer}
use Rattle.rules.specs.Host.{payload_of}
use Rattle.rules.specs.declared.Header.{Header}
use Rattle.commands_reply.specs.Answers.{said_of}
use Rattle.commands_reply.specs.declared.Said.{Said}
use Rattle.saved.specs.Serves.{Serves}
use Rattle.commands_reply.specs.Obeys.{Obeys}
use Rattle.commands_reply.proofs.Serving.{obeys_stay}
use Rattle.commands.specs.Messages.{answering}

pub no_command : {book l p area : List ℕ} → Serves book l p area → (h : Header) → (h.mtype ≡ 0 → ⊥) → {said : Said}
    → said ≡ said_of silence → Obeys (answering h) book l p area said l area
unfolding answer payload_of front
no_command serves h other e = obeys_stay (answering h) serves silence (rw (ne_eqb h.mtype 0 other)) e refl

pub a_command : (book l p area : List ℕ) (h : Header) {said : Said} {l' area' : List ℕ} → h.mtype ≡ 0
    → Obeys (obey (signal_of h.signal)) book l p area said l' area' → Obeys (answering h) book l p area said l' area'
unfolding answer
a_command book l p area h e obeyed = rw (eq-eqb h.mtype 0 e) obeyed
