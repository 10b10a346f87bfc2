-- What a command that is not accepted leaves alone: Start and Suspend by induction on the SEIDs listed, every other command by
-- its branches, each of which either accepts or leaves the endpoints as they were.
use Prim.Native.Nat.{ℕ, zero, suc, ◌*◌, ◌<◌}
use mathlib.Core.Path.{◌≡◌, refl, sym, ap, ◌∙◌}
use mathlib.Core.List.{List, [], ◌∷◌}
use mathlib.Core.Bool.{Bool, true, false, not, ◌||◌}
use lib.ListN.{length, get_or, drop, set}
use lib.Seq.{get_or-set_same, get_or-set_other, lt-length-set}
use lib.Dec.{eqb}
use borrow.Author.Tests.{eqb-true, eqb-false, le-leb}
use native.Mathlib.Omega.{arith}
use Rattle.rules.specs.Octets.{some_of}
use Rattle.std.specs.Prelude.{if◌then◌else◌}
use Rattle.rules.specs.Elements.{items, fault_in}
use Rattle.rules.specs.Book.{Entry, Book, Found, unknown, known, find}
use Rattle.rules.specs.Packets.{Message}
use Rattle.rules.specs.Endpoints.{Endpoint, Ends, end_at, in_state, idle, far_right, awaiting, takes_delay, moved_by}
use Rattle.rules.specs.Commands.{Reply, silence, general_reject, accept, reject, Outcome, stays, moves, rejects, length_right}
use Rattle.rules.specs.Commands.{our_in, far_in, wrong_state, met_at, meets, named, discover, offers_at, set_at, configuration_at}
use Rattle.rules.specs.Commands.{reconfigure_at, open_at, shift_one, shift_each, shift, leave_at, security_at, delay_at}
use Rattle.rules.specs.Commands.{signal_of}
use Rattle.rules.specs.Commands.{obey, answer}
use Rattle.rules.specs.Moves.{moved_one, moved_all, may_one, may_all, fail_code, stands_at, lists, moved_if, Stopped, shifts}
use Rattle.rules.specs.Moves.{is_accept}
use Rattle.rules.specs.declared.Rule.TheVariants.{Setting, Reconfiguring}
use Rattle.rules.specs.declared.State.{State}
use Rattle.rules.specs.declared.State.TheVariants.{Open, Streaming}
use Rattle.rules.specs.declared.Signal.{Signal}
use Rattle.rules.specs.declared.Signal.TheVariants.{Start, Suspend}
use Rattle.rules.proofs.Tests.{told, Told?, passed, failed, clash, and_l, and_r, and_both}
use Rattle.rules.proofs.Outcomes.{named_arms}

-- ---- Start and Suspend

-- a signal whose code for a wrong state is 31h
module _ (signal : Signal) (to : State) (book : Book) (wrong : (s : State) → wrong_state signal s ≡ 0x31) where
  -- the first SEID listed: it moves and the rest follow, or it is named
  goes : (f : Found) (ends : Ends) (o : ℕ) (next : Ends → Outcome) → may_one signal f ends ≡ true
      → shift_one signal to (our_in o) ends next (met_at signal ends f) ≡ next (moved_one to f ends)
  unfolding may_one moved_one met_at shift_one
  goes unknown ends o next e = clash refl (sym e)
  goes (known i n) ends o next e = rw e

  stops : (f : Found) (ends : Ends) (o : ℕ) (next : Ends → Outcome) → may_one signal f ends ≡ false
      → shift_one signal to (our_in o) ends next (met_at signal ends f)
      ≡ stays ends (rejects signal ((our_in o).0 * 4) (fail_code f))
  unfolding may_one met_at shift_one fail_code
  stops unknown ends o next e = refl
  stops (known i n) ends o next e = rw (e, wrong)

  -- All may move: they all do, and the reply is an accept.
  pub all_move : (ends : Ends) (p : List ℕ) → may_all signal to book ends p ≡ true
      → shift_each signal to book ends p ≡ stays (moved_all to book ends p) (accept [])
  unfolding shift_each meets may_all moved_all
  all_move ends [] e = refl
  all_move ends (o ∷ os) e =
      let f = find (our_in o) book in
      let moved = moved_one to f ends in
      goes f ends o (λ x. shift_each signal to book x os) (and_l (may_one signal f ends) (may_all signal to book moved os) e)
      ∙ all_move moved os (and_r (may_one signal f ends) (may_all signal to book moved os) e)

  -- one more before the failure
  stopped_later : (ends : Ends) (o : ℕ) (os : List ℕ) → may_one signal (find (our_in o) book) ends ≡ true
      → Stopped signal to book (moved_one to (find (our_in o) book) ends) os
      (shift_each signal to book (moved_one to (find (our_in o) book) ends) os)
      → Stopped signal to book ends (o ∷ os) (shift_each signal to book ends (o ∷ os))
  unfolding shift_each meets may_all moved_all
  stopped_later ends o os e s =
      let f = find (our_in o) book in
      let went = goes f ends o (λ x. shift_each signal to book x os) e in
      record {
        before = o ∷ s.before;
        failed = s.failed;
        behind = s.behind;
        listed = ap (λ (l : List ℕ). o ∷ l) s.listed;
        might = and_both (may_one signal f ends) (may_all signal to book (moved_one to f ends) s.before) e s.might;
        moved = ap (λ (x : Outcome). x.ends) went ∙ s.moved;
        might_not = s.might_not;
        named = ap (λ (x : Outcome). x.reply) went ∙ s.named;
      }

  stopped_here : (ends : Ends) (o : ℕ) (os : List ℕ) → may_one signal (find (our_in o) book) ends ≡ false
      → Stopped signal to book ends (o ∷ os) (shift_each signal to book ends (o ∷ os))
  unfolding shift_each meets may_all moved_all stays
  stopped_here ends o os e =
      let stop = stops (find (our_in o) book) ends o (λ x. shift_each signal to book x os) e in
      record {
        before = [];
        failed = o;
        behind = os;
        listed = refl;
        might = refl;
        moved = ap (λ (x : Outcome). x.ends) stop;
        might_not = e;
        named = ap (λ (x : Outcome). x.reply) stop;
      }

  stopped_by : (ends : Ends) (o : ℕ) (os : List ℕ) → Told? (may_one signal (find (our_in o) book) ends)
      → ((next : Ends) → is_accept (shift_each signal to book next os).reply ≡ false
      → Stopped signal to book next os (shift_each signal to book next os))
      → is_accept (shift_each signal to book ends (o ∷ os)).reply ≡ false
      → Stopped signal to book ends (o ∷ os) (shift_each signal to book ends (o ∷ os))
  unfolding shift_each meets
  stopped_by ends o os (failed q) rest e = stopped_here ends o os q
  stopped_by ends o os (passed q) rest e =
      let f = find (our_in o) book in
      let went = goes f ends o (λ x. shift_each signal to book x os) q in
      stopped_later ends o os q (rest (moved_one to f ends) (sym (ap (λ (x : Outcome). is_accept x.reply) went) ∙ e))

  -- Not accepted: stopped at the first that failed.
  pub stops_first : (ends : Ends) (p : List ℕ) → is_accept (shift_each signal to book ends p).reply ≡ false
      → Stopped signal to book ends p (shift_each signal to book ends p)
  unfolding shift_each is_accept stays
  stops_first ends [] e = clash refl e
  stops_first ends (o ∷ os) e =
      stopped_by ends o os (told (may_one signal (find (our_in o) book) ends)) (λ next q. stops_first next os q) e

-- Which endpoints have moved: exactly those that the payload lists.
moved_once : (to : State) (f : Found) (ends : Ends) (i : ℕ) → i < length ends
    → end_at (moved_one to f ends) i ≡ moved_if (stands_at i f) to (end_at ends i)
unfolding moved_one stands_at end_at
moved_once to unknown ends i h = refl
moved_once to (known j n) ends i h = go (told (eqb i j))
  where
    go : Told? (eqb i j)
        → get_or (set ends j (moved_by (in_state to) (end_at ends j))) i (idle (record { 0 = 0 }))
        ≡ moved_if (eqb i j) to (end_at ends i)
    go (passed q) = rw (q, eqb-true i j q) (get_or-set_same ends j _ _ (rw (eqb-true i j q) at h))
    go (failed q) = rw q (get_or-set_other ends j i _ _ (eqb-false i j q))

moved_either : (a b : Bool) (to : State) (e : Endpoint) → moved_if b to (moved_if a to e) ≡ moved_if (a || b) to e
unfolding moved_by
moved_either true true to e = refl
moved_either true false to e = refl
moved_either false b to e = refl

still_below : (to : State) (f : Found) (ends : Ends) (i : ℕ) → i < length ends → i < length (moved_one to f ends)
unfolding moved_one
still_below to unknown ends i h = h
still_below to (known j n) ends i h = lt-length-set ends j (moved_by (in_state to) (end_at ends j)) h

pub moved_exactly : (to : State) (book : Book) (ends : Ends) (p : List ℕ) (i : ℕ) → i < length ends
    → end_at (moved_all to book ends p) i ≡ moved_if (lists i book p) to (end_at ends i)
unfolding moved_all lists some_of
moved_exactly to book ends [] i h = refl
moved_exactly to book ends (o ∷ os) i h =
    let f = find (our_in o) book in
    moved_exactly to book (moved_one to f ends) os i (still_below to f ends i h)
    ∙ ap (moved_if (some_of (λ x. stands_at i (find (our_in x) book)) os) to) (moved_once to f ends i h)
    ∙ moved_either (stands_at i f) (some_of (λ x. stands_at i (find (our_in x) book)) os) to (end_at ends i)

-- ---- Every other command

-- not accepted, nothing moved
record Unmoved (ends : Ends) (o : Outcome) : Type 0 where
  stayed : is_accept o.reply ≡ false → o.ends ≡ ends

module _ (ends : Ends) where
  by_staying : (r : Reply) → Unmoved ends (stays ends r)
  unfolding stays
  by_staying r = record { stayed = λ e. refl }

  by_moving : (i : ℕ) (x : Endpoint) → Unmoved ends (moves ends i x)
  unfolding moves is_accept
  by_moving i x = record { stayed = λ e. clash refl e }

  by_test : (b : Bool) (x y : Outcome) → Unmoved ends x → Unmoved ends y → Unmoved ends (if b then x else y)
  by_test true x y p q = p
  by_test false x y p q = q

  -- of a command that names one endpoint
  by_naming : (signal : Signal) (book : Book) (p : List ℕ) (on : ℕ → Entry → Outcome)
      → ((i : ℕ) (n : Entry) → Unmoved ends (on i n)) → Unmoved ends (named signal book ends p on)
  by_naming signal book p on h = named_arms signal book ends (Unmoved ends) p on (λ code. by_staying _) (λ i n a m. h i n)

module _ (book : Book) (ends : Ends) (p : List ℕ) where
  of_set : (i : ℕ) (n : Entry) → Unmoved ends (set_at ends p i n)
  unfolding set_at
  of_set i n =
      by_test ends (not (far_right (far_in (get_or p 1 0)))) _ _ (by_staying ends _)
      (by_test ends (not (eqb (fault_in Setting (items n.caps) (items (drop 2 p))).code 0)) _ _ (by_staying ends _)
      (by_moving ends i _))

  of_reconfigure : (i : ℕ) (n : Entry) → Unmoved ends (reconfigure_at ends p i n)
  unfolding reconfigure_at
  of_reconfigure i n =
      by_test ends (not (eqb (fault_in Reconfiguring (items n.caps) (items (drop 1 p))).code 0)) _ _ (by_staying ends _)
      (by_moving ends i _)

  of_open : (i : ℕ) (n : Entry) → Unmoved ends (open_at ends i n)
  unfolding open_at
  of_open i n = by_test ends (eqb (awaiting ends) 0) _ _ (by_moving ends i _) (by_staying ends _)

  of_leaving : (to : State) (i : ℕ) (n : Entry) → Unmoved ends (leave_at to ends i n)
  unfolding leave_at
  of_leaving to i n = by_moving ends i _

  of_delay : (i : ℕ) (n : Entry) → Unmoved ends (delay_at ends p i n)
  unfolding delay_at
  of_delay i n = by_test ends (not (takes_delay n (end_at ends i))) _ _ (by_staying ends _) (by_moving ends i _)

  -- by the signal's number: all but 07 and 09
  of_signal : (n : ℕ) → eqb n 0x07 ≡ false → eqb n 0x09 ≡ false → Unmoved ends (obey (signal_of n) book ends p)
  unfolding signal_of obey discover offers_at configuration_at security_at
  of_signal zero a b = by_staying ends general_reject
  of_signal (suc zero) a b = by_staying ends _
  of_signal (suc (suc zero)) a b = by_naming ends _ book p _ (λ i n. by_staying ends _)
  of_signal (suc (suc (suc zero))) a b = by_naming ends _ book p _ of_set
  of_signal (suc (suc (suc (suc zero)))) a b = by_naming ends _ book p _ (λ i n. by_staying ends _)
  of_signal (suc (suc (suc (suc (suc zero))))) a b = by_naming ends _ book p _ of_reconfigure
  of_signal (suc (suc (suc (suc (suc (suc zero)))))) a b = by_naming ends _ book p _ of_open
  of_signal (suc (suc (suc (suc (suc (suc (suc zero))))))) a b = clash refl a
  of_signal (suc (suc (suc (suc (suc (suc (suc (suc zero)))))))) a b = by_naming ends _ book p _ (of_leaving _)
  of_signal (suc (suc (suc (suc (suc (suc (suc (suc (suc zero))))))))) a b = clash refl b
  of_signal (suc (suc (suc (suc (suc (suc (suc (suc (suc (suc zero)))))))))) a b = by_naming ends _ book p _ (of_leaving _)
  of_signal (suc (suc (suc (suc (suc (suc (suc (suc (suc (suc (suc zero))))))))))) a b =
      by_naming ends _ book p _ (λ i n. by_staying ends _)
  of_signal (suc (suc (suc (suc (suc (suc (suc (suc (suc (suc (suc (suc zero)))))))))))) a b =
      by_naming ends _ book p _ (λ i n. by_staying ends _)
  of_signal (suc (suc (suc (suc (suc (suc (suc (suc (suc (suc (suc (suc (suc zero))))))))))))) a b =
      by_naming ends _ book p _ of_delay
  of_signal (suc (suc (suc (suc (suc (suc (suc (suc (suc (suc (suc (suc (suc (suc n)))))))))))))) a b =
      by_staying ends general_reject

-- ---- Messages

-- A Start or a Suspend that lists something and is not accepted is stopped at the first that failed.
pub start_stops : (book : Book) (ends : Ends) (label o : ℕ) (os : List ℕ)
    → let m : Message = record { header = record { label = label; mtype = 0; signal = 0x07 }; payload = o ∷ os } in
    is_accept (answer book ends m).reply ≡ false → Stopped Start Streaming book ends (o ∷ os) (answer book ends m)
unfolding answer obey signal_of shift length_right wrong_state
start_stops book ends label o os =
    rw (le-leb 1 (length (o ∷ os)) (omega arith)) (stops_first Start Streaming book (λ s. refl) ends (o ∷ os))

pub suspend_stops : (book : Book) (ends : Ends) (label o : ℕ) (os : List ℕ)
    → let m : Message = record { header = record { label = label; mtype = 0; signal = 0x09 }; payload = o ∷ os } in
    is_accept (answer book ends m).reply ≡ false → Stopped Suspend Open book ends (o ∷ os) (answer book ends m)
unfolding answer obey signal_of shift length_right wrong_state
suspend_stops book ends label o os =
    rw (le-leb 1 (length (o ∷ os)) (omega arith)) (stops_first Suspend Open book (λ s. refl) ends (o ∷ os))

-- One that lists nothing is rejected with SEID 0 and moves none.
pub start_of_none : (book : Book) (ends : Ends) (label : ℕ)
    → answer book ends (record { header = record { label = label; mtype = 0; signal = 0x07 }; payload = [] })
    ≡ stays ends (reject (0 ∷ 0x11 ∷ []))
unfolding answer obey signal_of shift length_right rejects
start_of_none book ends label = refl

pub suspend_of_none : (book : Book) (ends : Ends) (label : ℕ)
    → answer book ends (record { header = record { label = label; mtype = 0; signal = 0x09 }; payload = [] })
    ≡ stays ends (reject (0 ∷ 0x11 ∷ []))
unfolding answer obey signal_of shift length_right rejects
suspend_of_none book ends label = refl

or_no_l : (a b : Bool) → a || b ≡ false → a ≡ false
or_no_l true b e = e
or_no_l false b e = refl

or_no_r : (a b : Bool) → a || b ≡ false → b ≡ false
or_no_r true b e = clash refl e
or_no_r false b e = e

answer_stays : (book : Book) (ends : Ends) (m : Message) → shifts m ≡ false → Told? (eqb m.header.mtype 0)
    → Unmoved ends (answer book ends m)
unfolding shifts answer
answer_stays book ends m t (passed q) =
    let s : eqb m.header.signal 0x07 || eqb m.header.signal 0x09 ≡ false = rw q at t in
    rw q (of_signal book ends m.payload m.header.signal (or_no_l _ _ s) (or_no_r (eqb m.header.signal 0x07) _ s))
answer_stays book ends m t (failed q) = rw q (by_staying ends silence)

-- Any other command that is not accepted (a reject, a general reject, silence) and any message that is no command moves none.
pub unmoved : (book : Book) (ends : Ends) (m : Message) → shifts m ≡ false → is_accept (answer book ends m).reply ≡ false
    → (answer book ends m).ends ≡ ends
unmoved book ends m t e = (answer_stays book ends m t (told (eqb m.header.mtype 0))).stayed e
