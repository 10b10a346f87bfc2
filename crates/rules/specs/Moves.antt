-- The words of "a rejected Start or Suspend names the first endpoint that failed and has moved exactly those listed before it".
use Rattle.std.specs.Prelude.{ℕ, ◌*◌, ◌≡◌, List, [], ◌∷◌, ◌++◌, Bool, true, false, ◌&&◌, ◌||◌, length, set, eqb, if◌then◌else◌}
use Rattle.std.proofs.Math.Option.{Option, none, some}
use Rattle.rules.specs.Octets.{some_of, front}
use Rattle.rules.specs.Book.{Book, Found, unknown, known, find}
use Rattle.rules.specs.Packets.{Message}
use Rattle.rules.specs.Endpoints.{Endpoint, Ends, end_at, in_state, moved_by}
use Rattle.rules.specs.Saved.{connection_in}
use Rattle.rules.specs.Commands.{Reply, silence, general_reject, accept, reject, rejects, signal_of, our_in, may, Outcome}
use Rattle.rules.specs.Host.{Answered}
use Rattle.rules.specs.declared.State.{State}
use Rattle.rules.specs.declared.State.TheVariants.{Open, Streaming}
use Rattle.rules.specs.declared.Signal.{Signal}

-- one endpoint moved to a state, and each that a payload lists, in turn
unfoldable pub moved_one : State → Found → Ends → Ends
moved_one to unknown ends = ends
moved_one to (known i n) ends = set ends i (moved_by (in_state to) (end_at ends i))

unfoldable pub moved_all : State → Book → Ends → List ℕ → Ends
moved_all to book ends [] = ends
moved_all to book ends (o ∷ os) = moved_all to book (moved_one to (find (our_in o) book) ends) os

-- it is known and may move; and so each that a payload lists, in its turn
unfoldable pub may_one : Signal → Found → Ends → Bool
may_one signal unknown ends = false
may_one signal (known i n) ends = let h = (end_at ends i).head in may signal h.state h.channel

unfoldable pub may_all : Signal → State → Book → Ends → List ℕ → Bool
may_all signal to book ends [] = true
may_all signal to book ends (o ∷ os) =
    may_one signal (find (our_in o) book) ends && may_all signal to book (moved_one to (find (our_in o) book) ends) os

-- why it failed: not known, or in the wrong state
unfoldable pub fail_code : Found → ℕ
fail_code unknown = 0x12
fail_code (known i n) = 0x31

-- a payload lists the endpoint at place i of the book
unfoldable pub stands_at : ℕ → Found → Bool
stands_at i unknown = false
stands_at i (known j n) = eqb i j

unfoldable pub lists : ℕ → Book → List ℕ → Bool
lists i book p = some_of (λ o. stands_at i (find (our_in o) book)) p

abbrev pub moved_if : Bool → State → Endpoint → Endpoint
moved_if true to e = moved_by (in_state to) e
moved_if false to e = e

-- Stopped at the first that failed: those before it might move and have moved, it might not, and the reply names it.
pub record Stopped (signal : Signal) (to : State) (book : Book) (ends : Ends) (p : List ℕ) (out : Outcome) : Type 0 where
  pub before : List ℕ
  pub failed : ℕ
  pub behind : List ℕ
  pub listed : p ≡ before ++ failed ∷ behind
  pub might : may_all signal to book ends before ≡ true
  pub moved : out.ends ≡ moved_all to book ends before
  pub might_not : may_one signal (find (our_in failed) book) (moved_all to book ends before) ≡ false
  pub named : out.reply ≡ rejects signal ((our_in failed).0 * 4) (fail_code (find (our_in failed) book))

-- Start and Suspend
unfoldable pub shifts : Message → Bool
shifts m = eqb m.header.mtype 0 && (eqb m.header.signal 0x07 || eqb m.header.signal 0x09)

unfoldable pub shifts_in : Option Message → Bool
shifts_in none = false
shifts_in (some m) = shifts m

unfoldable pub is_accept : Reply → Bool
is_accept silence = false
is_accept general_reject = false
is_accept (accept p) = true
is_accept (reject p) = false

-- where Start (07) and Suspend (09) take an endpoint
unfoldable pub shifts_to : ℕ → State
shifts_to signal = if eqb signal 0x07 then Streaming else Open

-- A reject of two octets, seen from outside: what is told of it, and what is at the front of the reply area.
pub record RejectSeen (reply : List ℕ) (m : Message) (seid code : ℕ) (a : Answered) : Type 0 where
  pub told : a.told ≡ record { number = 0; label = m.header.label; mtype = 3; signal = m.header.signal; length = 2 }
  pub written : a.reply ≡ front (seid * 4 ∷ code ∷ []) reply

-- Stopped at the first that failed, seen from outside: the message m was completed on a saved area that showed `ends`; what it
-- shows then is those listed before the failure moved, and the reply names the one that failed.
pub record StoppedSeen (book : Book) (ends : Ends) (reply : List ℕ) (m : Message) (a : Answered) : Type 0 where
  pub before : List ℕ
  pub failed : ℕ
  pub behind : List ℕ
  pub listed : m.payload ≡ before ++ failed ∷ behind
  pub might : may_all (signal_of m.header.signal) (shifts_to m.header.signal) book ends before ≡ true
  pub moved : (connection_in (length book) a.saved).ends ≡ moved_all (shifts_to m.header.signal) book ends before
  pub might_not :
      may_one (signal_of m.header.signal) (find (our_in failed) book)
      (moved_all (shifts_to m.header.signal) book ends before)
      ≡ false
  pub named : RejectSeen reply m (our_in failed).0 (fail_code (find (our_in failed) book)) a
