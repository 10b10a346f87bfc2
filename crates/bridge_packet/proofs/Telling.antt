-- A message answered over the records: what is told of what was said is what the definitions tell of the reply, and the records
-- that were lent come back behind the room.
use Prim.Native.Nat.{ℕ, ◌-◌}
use mathlib.Core.Path.{◌≡◌, refl, ap, subst, ◌∙◌}
use mathlib.Core.List.{List, ◌++◌}
use lib.ListN.{length, take, drop}
use Rattle.rules.specs.Book.{book_of}
use Rattle.rules.specs.Packets.{Message}
use Rattle.rules.specs.Saved.{records_place, records_of, ends_in}
use Rattle.rules.specs.Commands.{Reply, silence, general_reject, accept, reject, Outcome, answer}
use Rattle.rules.specs.Host.{nothing_said, said, told_of, Answered}
use Rattle.rules.specs.declared.Told.{Told}
use Rattle.rules.specs.declared.Header.{Header}
use Rattle.commands_reply.specs.Answers.{said_of, Did, did}
use Rattle.commands_reply.specs.declared.Said.{Said}
use Rattle.saved.specs.Serves.{Serves}
use Rattle.commands_reply.specs.Obeys.{Obeys}
use Rattle.commands.specs.Messages.{answering}
use Rattle.bridge_packet.specs.Taken.{spoken, served}
use Rattle.octets.proofs.Tails.{behind_whole, tail_back}

told_reply : (m : Message) (r : Reply) → spoken m.header (said_of r) ≡ told_of m r
unfolding spoken told_of said nothing_said
told_reply m silence = refl
told_reply m general_reject = refl
told_reply m (accept p) = refl
told_reply m (reject p) = refl

module _ (book saved payload reply : List ℕ) where
  abbrev records : List ℕ
  records = take (length saved - records_place) (drop records_place saved)

  pub whole_serves : Serves book (records_of saved) payload reply → Serves book records payload reply
  unfolding records_of
  whole_serves h = rw (behind_whole records_place saved) h

  module _ (h : Header) (words : Said) (told : Told) (records' reply' : List ℕ) where
    abbrev message : Message
    message = record { header = h; payload = payload }

    abbrev outcome : Outcome
    outcome = answer (book_of book) (ends_in (length (book_of book)) (drop records_place saved)) message

    pub as_served : Obeys (answering h) book records payload reply words records' reply'
        → told ≡ spoken h words
        → ◌≡◌ {A = Answered}
        (record {
          told = told;
          saved = take records_place saved ++
              (records' ++ drop (length saved - records_place) (drop records_place saved));
          reply = reply';
        })
        (served book message saved reply)
    unfolding served did answer records_of
    as_served e t =
        let f =
        subst (λ (x : List ℕ). Obeys (answering h) book x payload reply words records' reply')
        (behind_whole records_place saved) e in
        let spoke = t ∙ ap (λ (d : Did). spoken h d.said) f ∙ told_reply message outcome.reply in
        let stored = tail_back records_place saved records' ∙ ap (λ (d : Did). take records_place saved ++ d.records) f in
        let written = ap (λ (d : Did). d.reply) f in
        λ k. record { told = spoke k; saved = stored k; reply = written k }
