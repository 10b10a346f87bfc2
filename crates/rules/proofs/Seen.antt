-- The theorems on endpoints, of what the saved octets show: a call on a right area is a step of the connection that it shows.
use Prim.Native.Nat.{ℕ, zero, suc}
use mathlib.Core.Path.{◌≡◌, refl, ap, ◌∙◌}
use mathlib.Core.List.{List, [], ◌∷◌}
use mathlib.Core.Bool.{true, false}
use mathlib.Core.Option.{Option, none, some}
use lib.ListN.{length}
use lib.Dec.{eqb}
use Rattle.rules.specs.Book.{Book, book_number, book_of}
use Rattle.rules.specs.Packets.{Message, Gathering, gather}
use Rattle.rules.specs.Endpoints.{Ends, Connection, end_at, idle, legal_end, legal_ends}
use Rattle.rules.specs.Saved.{connection_in, saved_right}
use Rattle.rules.specs.Commands.{Reply, silence, general_reject, accept, reject, answer}
use Rattle.rules.specs.Host.{told_of, said, handled_by, takes, packet_call}
use Rattle.rules.specs.Sessions.{Call, packet, Answer, number, told, shown, heard, counted, cut_off, call, answered, after}
use Rattle.rules.specs.Sessions.{stands, told_each}
use Rattle.rules.specs.Views.{Stepped, packet_number, says, goes}
use Rattle.rules.specs.Moves.{is_accept, shifts_in}
use Rattle.rules.specs.declared.State.TheVariants.{Idle}
use Rattle.rules.proofs.Tests.{Told?, passed, failed, told as told?, clash, and_l, and_r}
use Rattle.rules.proofs.StaysLegal.{legal_ends_lem, idle_forgets}
use Rattle.rules.proofs.SavedStaysRight.{always_legal, right_legal}
use Rattle.rules.proofs.Moves.{unmoved}
use Rattle.rules.proofs.View.{view_step}

-- An endpoint that is idle after any calls has no configuration, no far SEID, no delay and no channel, whatever made it idle.
idle_at : (book : Book) (ends : Ends) → legal_ends book ends ≡ true → (i : ℕ) → (end_at ends i).head.state ≡ Idle
    → end_at ends i ≡ idle (end_at ends i).head.seid
unfolding legal_ends end_at idle
idle_at [] [] lawful i e = refl
idle_at (n ∷ book) [] lawful i e = refl
idle_at [] (x ∷ ends) lawful i e = clash lawful refl
idle_at (n ∷ book) (x ∷ ends) lawful zero e = idle_forgets n x (and_l (legal_end n x) (legal_ends book ends) lawful) e
idle_at (n ∷ book) (x ∷ ends) lawful (suc i) e = idle_at book ends (and_r (legal_end n x) (legal_ends book ends) lawful) i e

pub idle_after : (b saved : List ℕ) → book_number b ≡ 0 → saved_right (book_of b) saved ≡ true → (calls : List Call) (i : ℕ)
    → let e = end_at (connection_in (length (book_of b)) (after b saved calls)).ends i in
    e.head.state ≡ Idle → e ≡ idle e.head.seid
idle_after b saved ok right calls =
    let book = book_of b in
    let c = connection_in (length book) (after b saved calls) in
    let lawful = legal_ends_lem book c (right_legal book (after b saved calls) (always_legal b saved ok right calls)) in
    idle_at book c.ends lawful.every

-- not accepted: the message type is not 2
type_of : (m : Message) (r : Reply) → ((told_of m r).mtype ≡ 2 → ⊥) → is_accept r ≡ false
unfolding told_of said is_accept
type_of m silence h = refl
type_of m general_reject h = refl
type_of m (accept p) h = absurd (h refl)
type_of m (reject p) h = refl

handled_unmoved : (book : Book) (ends : Ends) (g : Option Gathering) (m : Option Message) → shifts_in m ≡ false
    → ((handled_by book ends g m).told.mtype ≡ 2 → ⊥) → (handled_by book ends g m).connection.ends ≡ ends
unfolding handled_by shifts_in
handled_unmoved book ends g none t h = refl
handled_unmoved book ends g (some m) t h = unmoved book ends m t (type_of m (answer book ends m).reply h)

takes_unmoved : (book : Book) (size : ℕ) (c : Connection) (p : List ℕ)
    → shifts_in (gather size c.link.gathering p).done ≡ false
    → ((takes book size c p).told.mtype ≡ 2 → ⊥) → (takes book size c p).connection.ends ≡ c.ends
unfolding takes
takes_unmoved book size c p =
    handled_unmoved book c.ends (gather size c.link.gathering p).gathering (gather size c.link.gathering p).done

-- the message type in an answer
mtype_in : Answer → ℕ
mtype_in (number n) = 0
mtype_in (told t reply) = t.mtype
mtype_in (told_each b reply) = 0
mtype_in (shown s) = 0
mtype_in (heard h) = 0
mtype_in (stands t) = 0
mtype_in (counted n) = 0
mtype_in (cut_off c) = 0

module _ (b : List ℕ) (size : ℕ) (saved p reply : List ℕ) (ok : book_number b ≡ 0)
    (right : saved_right (book_of b) saved ≡ true) where
  start : Connection
  start = connection_in (length (book_of b)) saved

  step : Stepped b saved start (packet size p reply)
  unfolding start
  step = view_step b ok saved start (record { right = right; shows = refl }) (packet size p reply)

  -- A packet that completes no Start and no Suspend and is not answered with an accept moves no endpoint.
  packet_stays : Told? (eqb (packet_number size reply) 0) → shifts_in (gather size start.link.gathering p).done ≡ false
      → ((packet_call b size saved p reply).told.mtype ≡ 2 → ⊥) → (goes (book_of b) start (packet size p reply)).ends ≡ start.ends
  unfolding goes says call answered mtype_in
  packet_stays (failed refused) t h = rw refused
  packet_stays (passed taken) t h =
      rw taken (takes_unmoved (book_of b) size start p t (λ e. h (ap mtype_in step.answer ∙ rw taken e)))

  pub packet_unmoved : shifts_in (gather size (connection_in (length (book_of b)) saved).link.gathering p).done ≡ false
      → ((packet_call b size saved p reply).told.mtype ≡ 2 → ⊥)
      → (connection_in (length (book_of b)) (packet_call b size saved p reply).saved).ends
      ≡ (connection_in (length (book_of b)) saved).ends
  unfolding start call answered
  packet_unmoved t h =
      ap (λ (c : Connection). c.ends) step.next.shows ∙ packet_stays (told? (eqb (packet_number size reply) 0)) t h
