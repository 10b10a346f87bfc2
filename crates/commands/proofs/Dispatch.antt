-- A command by its signal: what is answered for the signal that an arm knows is answered for the one that was given, and a
-- refusal by the checks is the outcome of every command that names one endpoint.
use Rattle.std.proofs.Common.{◌≡◌, ℕ, true, List, Err, sym, refl, subst}
use Rattle.rules.specs.Octets.{front}
use Rattle.rules.specs.Book.{book_of}
use Rattle.rules.specs.Commands.{general_reject, stays, rejects, obey}
use Rattle.rules.specs.Host.{payload_of}
use Rattle.commands_reply.specs.Answers.{said_of}
use Rattle.commands_reply.specs.declared.Said.{Said}
use Rattle.rules.specs.declared.Signal.{Signal}
use Rattle.rules.specs.declared.Signal.TheVariants.{Discover, GetCapabilities, SetConfiguration, GetConfiguration, Reconfigure}
use Rattle.rules.specs.declared.Signal.TheVariants.{OpenUp, Start, Close, Suspend, Abort, SecurityControl, GetAllCapabilities}
use Rattle.rules.specs.declared.Signal.TheVariants.{DelayReport, Unassigned}
use Rattle.rules.proofs.Tests.{clash}
use Rattle.saved.specs.Serves.{Serves}
use Rattle.commands_reply.specs.Obeys.{ends_of, Obeys}
use Rattle.commands_reply.proofs.Serving.{obeys_stay}
use Rattle.commands_checks.specs.Met.{names_one, met_in}
use Rattle.commands_checks.proofs.Meeting.{refused_as}

-- ---- The signal that an arm knows

module _ (book l p area : List ℕ) {s t : Signal} {said : Said} {l' area' : List ℕ} where
  pub given_obeys : s ≡ t → Obeys (obey t) book l p area said l' area' → Obeys (obey s) book l p area said l' area'
  given_obeys e h = subst (λ (x : Signal). Obeys (obey x) book l p area said l' area') (sym e) h

-- the others name one endpoint
pub others_name_one : (s : Signal) → (s ≡ Discover → ⊥) → (s ≡ Start → ⊥) → (s ≡ Suspend → ⊥) → (s ≡ Unassigned → ⊥)
    → names_one s ≡ true
unfolding names_one
others_name_one Discover d g h u = absurd (d refl)
others_name_one GetCapabilities d g h u = refl
others_name_one SetConfiguration d g h u = refl
others_name_one GetConfiguration d g h u = refl
others_name_one Reconfigure d g h u = refl
others_name_one OpenUp d g h u = refl
others_name_one Start d g h u = absurd (g refl)
others_name_one Close d g h u = refl
others_name_one Suspend d g h u = absurd (h refl)
others_name_one Abort d g h u = refl
others_name_one SecurityControl d g h u = refl
others_name_one GetAllCapabilities d g h u = refl
others_name_one DelayReport d g h u = refl
others_name_one Unassigned d g h u = absurd (u refl)

-- ---- Nothing is moved

module _ {book l p area : List ℕ} (serves : Serves book l p area) where
  pub unassigned : {said : Said} → said ≡ said_of general_reject → Obeys (obey Unassigned) book l p area said l area
  unfolding obey payload_of front
  unassigned e = obeys_stay (obey Unassigned) serves general_reject refl e refl

  module _ {code : ℕ} where
    refuses : (s : Signal) → names_one s ≡ true → met_in s book l p ≡ Err code
        → obey s (book_of book) (ends_of book l) p ≡ stays (ends_of book l) (rejects s 0 code)
    unfolding obey names_one
    refuses Discover o e = clash refl (sym o)
    refuses GetCapabilities o e = refused_as GetCapabilities book l p _ e
    refuses SetConfiguration o e = refused_as SetConfiguration book l p _ e
    refuses GetConfiguration o e = refused_as GetConfiguration book l p _ e
    refuses Reconfigure o e = refused_as Reconfigure book l p _ e
    refuses OpenUp o e = refused_as OpenUp book l p _ e
    refuses Start o e = clash refl (sym o)
    refuses Close o e = refused_as Close book l p _ e
    refuses Suspend o e = clash refl (sym o)
    refuses Abort o e = refused_as Abort book l p _ e
    refuses SecurityControl o e = refused_as SecurityControl book l p _ e
    refuses GetAllCapabilities o e = refused_as GetAllCapabilities book l p _ e
    refuses DelayReport o e = refused_as DelayReport book l p _ e
    refuses Unassigned o e = clash refl (sym o)

    pub refused : (s : Signal) → names_one s ≡ true → met_in s book l p ≡ Err code → {said : Said} {area' : List ℕ}
        → (said ≡ said_of (rejects s 0 code)) × (area' ≡ front (payload_of (rejects s 0 code)) area)
        → Obeys (obey s) book l p area said l area'
    refused s o e h = obeys_stay (obey s) serves (rejects s 0 code) (refuses s o e) h.0 h.1
