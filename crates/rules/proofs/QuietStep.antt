-- Quiet endpoints stay quiet: each command but Delay Report leaves the delay as it is or forgets it, and category 8 is stored
-- only where it was asked for or stood before.
use Prim.Native.Nat.{ℕ, zero, suc}
use mathlib.Core.Path.{◌≡◌, refl, sym, ap, ◌∙◌}
use mathlib.Core.List.{List, [], ◌∷◌, map}
use mathlib.Core.Bool.{Bool, true, false, not, ◌&&◌}
use lib.ListN.{length, drop, get_or, set}
use lib.Dec.{eqb}
use borrow.Author.Tests.{eqb-true, not-false}
use Rattle.rules.proofs.Tests.{clash, and_l, and_r, and_both, not_passed}
use Rattle.rules.proofs.Storable.{stored_has, restored_has_8}
use Rattle.rules.proofs.Outcomes.{if_arms, named_arms, shift_arms}
use Rattle.rules.proofs.AlikeStep.{forgoes, message_forgoes}
use Rattle.rules.specs.Octets.{member, some_of, each_of}
use Rattle.rules.specs.Elements.{Item, items, items_past, fault_in, has, offerable, stored, restored}
use Rattle.rules.specs.Book.{Entry, Book, Found, unknown, known, find}
use Rattle.rules.specs.Packets.{Message}
use Rattle.rules.specs.Endpoints.{Endpoint, Ends, Connection, idle, fresh_ends, is_awaited, is_up, is_reported, moved_by}
use Rattle.rules.specs.Endpoints.{far_right, in_state, with_channel, with_config, forgotten, leaving, end_at, awaiting, up_in}
use Rattle.rules.specs.Endpoints.{with_ends, Moved, down_at, happens, opened}
use Rattle.rules.specs.Commands.{Reply, Outcome, stays, moves, length_right, our_in, far_in, named, discover, offers_at}
use Rattle.rules.specs.Commands.{settled, set_at, configuration_at, reconfigure_at, open_at, shift_each, shift, leave_at}
use Rattle.rules.specs.Commands.{security_at, signal_of, obey, answer}
use Rattle.rules.specs.Alike.{uses_delay, none_reported}
use Rattle.rules.specs.declared.OurSeid.{OurSeid}
use Rattle.rules.specs.declared.Rule.TheVariants.{Setting, Reconfiguring}
use Rattle.rules.specs.declared.FarSeid.{FarSeid}
use Rattle.rules.specs.declared.State.{State}
use Rattle.rules.specs.declared.Channel.TheVariants.{Up}
use Rattle.rules.specs.declared.Head.{Head}
use Rattle.rules.specs.declared.Event.{Event}
use Rattle.rules.specs.declared.Event.TheVariants.{Down, Lost}
use Rattle.rules.specs.declared.Signal.{Signal}
use Rattle.rules.specs.declared.Signal.TheVariants.{Discover, GetCapabilities, SetConfiguration, GetConfiguration}
use Rattle.rules.specs.declared.Signal.TheVariants.{Reconfigure, OpenUp, Start, Close, Suspend, Abort, SecurityControl}
use Rattle.rules.specs.declared.Signal.TheVariants.{GetAllCapabilities, DelayReport, Unassigned}

-- ---- A test of each of a list

module _ {A : Type 0} (p : A → Bool) where
  each_set : (l : List A) (i : ℕ) (a : A) → each_of p l ≡ true → p a ≡ true → each_of p (set l i a) ≡ true
  unfolding each_of
  each_set [] i a all one = refl
  each_set (x ∷ xs) zero a all one = and_both (p a) (each_of p xs) one (and_r (p x) (each_of p xs) all)
  each_set (x ∷ xs) (suc i) a all one =
      and_both (p x) (each_of p (set xs i a)) (and_l (p x) (each_of p xs) all)
      (each_set xs i a (and_r (p x) (each_of p xs) all) one)

  each_at : (l : List A) (i : ℕ) (d : A) → each_of p l ≡ true → p d ≡ true → p (get_or l i d) ≡ true
  unfolding each_of
  each_at [] i d all one = one
  each_at (x ∷ xs) zero d all one = and_l (p x) (each_of p xs) all
  each_at (x ∷ xs) (suc i) d all one = each_at xs i d (and_r (p x) (each_of p xs) all) one

  each_weaker : (q : A → Bool) → ((a : A) → p a ≡ true → q a ≡ true) → (l : List A) → each_of p l ≡ true → each_of q l ≡ true
  unfolding each_of
  each_weaker q weaker [] all = refl
  each_weaker q weaker (x ∷ xs) all =
      and_both (q x) (each_of q xs) (weaker x (and_l (p x) (each_of p xs) all))
      (each_weaker q weaker xs (and_r (p x) (each_of p xs) all))

-- ---- Quiet: no reported delay, and no category 8 configured

quiet_end : Endpoint → Bool
quiet_end e = not (is_reported e.head.delay) && not (has 8 (items e.config))

pub quiet_ends : Ends → Bool
quiet_ends ends = each_of quiet_end ends

pub quiet_unreported : (ends : Ends) → quiet_ends ends ≡ true → none_reported ends ≡ true
unfolding quiet_ends quiet_end none_reported
quiet_unreported ends q =
    each_weaker quiet_end (λ e. not (is_reported e.head.delay))
    (λ e. and_l (not (is_reported e.head.delay)) (not (has 8 (items e.config)))) ends q

idle_quiet : (s : OurSeid) → quiet_end (idle s) ≡ true
unfolding quiet_end idle is_reported has items_past some_of
idle_quiet s = refl

pub fresh_quiet : (book : Book) → quiet_ends (fresh_ends book) ≡ true
unfolding quiet_ends each_of fresh_ends
fresh_quiet [] = refl
fresh_quiet (n ∷ book) =
    and_both (quiet_end (idle n.seid)) (quiet_ends (fresh_ends book)) (idle_quiet n.seid) (fresh_quiet book)

at_quiet : (ends : Ends) (i : ℕ) → quiet_ends ends ≡ true → quiet_end (end_at ends i) ≡ true
unfolding quiet_ends end_at
at_quiet ends i q = each_at quiet_end ends i (idle (record { 0 = 0 })) q (idle_quiet (record { 0 = 0 }))

set_quiet : (ends : Ends) (i : ℕ) (e : Endpoint) → quiet_ends ends ≡ true → quiet_end e ≡ true → quiet_ends (set ends i e) ≡ true
unfolding quiet_ends
set_quiet = each_set quiet_end

-- ---- Moves of one endpoint

-- a move of the head that leaves the delay
moved_quiet : (move : Head → Head) (e : Endpoint) → (move e.head).delay ≡ e.head.delay → quiet_end e ≡ true
    → quiet_end (moved_by move e) ≡ true
unfolding quiet_end moved_by
moved_quiet move e same q = rw same q

forgotten_quiet : (e : Endpoint) → quiet_end (forgotten e) ≡ true
unfolding forgotten
forgotten_quiet e = idle_quiet e.head.seid

leaving_quiet : (s : State) (e : Endpoint) → quiet_end e ≡ true → quiet_end (leaving s e) ≡ true
unfolding leaving
leaving_quiet s e q =
    if_arms (λ (x : Endpoint). quiet_end x ≡ true) (is_up e.head.channel) (moved_by (in_state s) e) (forgotten e)
    (λ up. moved_quiet (in_state s) e refl q) (λ down. forgotten_quiet e)

delaying_offerable : member 8 offerable ≡ true
unfolding member offerable
delaying_offerable = refl

settled_quiet : (e : Endpoint) (far : FarSeid) (is : List Item) → has 8 is ≡ false → quiet_end (settled e far (stored is)) ≡ true
unfolding quiet_end settled is_reported
settled_quiet e far is unasked = ap not (stored_has 8 delaying_offerable is ∙ unasked)

restored_quiet : (e : Endpoint) (caps is : List Item) → (fault_in Reconfiguring caps is).code ≡ 0 → quiet_end e ≡ true
    → quiet_end (with_config (restored is (items e.config)) e) ≡ true
unfolding quiet_end with_config
restored_quiet e caps is sound q = rw (restored_has_8 caps is (items e.config) sound) q

-- ---- Commands

abbrev Quiet : Outcome → Type 0
Quiet o = quiet_ends o.ends ≡ true

module _ (ends : Ends) (q : quiet_ends ends ≡ true) where
  stays_quiet : (r : Reply) → Quiet (stays ends r)
  unfolding stays
  stays_quiet r = q

  moves_quiet : (i : ℕ) (e : Endpoint) → quiet_end e ≡ true → Quiet (moves ends i e)
  unfolding moves
  moves_quiet i e one = set_quiet ends i e q one

  set_at_quiet : (p : List ℕ) → has 8 (items (drop 2 p)) ≡ false → (i : ℕ) (n : Entry) → Quiet (set_at ends p i n)
  unfolding set_at
  set_at_quiet p unasked i n =
      if_arms Quiet (not (far_right (far_in (get_or p 1 0)))) _ _ (λ t. stays_quiet _)
      λ t. if_arms Quiet (not (eqb (fault_in Setting (items n.caps) (items (drop 2 p))).code 0)) _ _ (λ t. stays_quiet _)
      λ t. moves_quiet i _ (settled_quiet (end_at ends i) (far_in (get_or p 1 0)) (items (drop 2 p)) unasked)

  reconfigure_at_quiet : (p : List ℕ) (i : ℕ) (n : Entry) → Quiet (reconfigure_at ends p i n)
  unfolding reconfigure_at
  reconfigure_at_quiet p i n =
      let fault = fault_in Reconfiguring (items n.caps) (items (drop 1 p)) in
      if_arms Quiet (not (eqb fault.code 0)) _ _ (λ t. stays_quiet _)
      λ t. moves_quiet i _
      (restored_quiet (end_at ends i) (items n.caps) (items (drop 1 p))
      (eqb-true fault.code 0 (not-false (eqb fault.code 0) t)) (at_quiet ends i q))

  open_at_quiet : (i : ℕ) (n : Entry) → Quiet (open_at ends i n)
  unfolding open_at
  open_at_quiet i n =
      if_arms Quiet (eqb (awaiting ends) 0) _ _
      (λ t. moves_quiet i _
      (moved_quiet opened (end_at ends i) refl (at_quiet ends i q)))
      (λ t. stays_quiet _)

  leave_at_quiet : (to : State) (i : ℕ) (n : Entry) → Quiet (leave_at to ends i n)
  unfolding leave_at
  leave_at_quiet to i n = moves_quiet i _ (leaving_quiet to (end_at ends i) (at_quiet ends i q))

shift_each_quiet : (signal : Signal) (to : State) (book : Book) (ends : Ends) (os : List ℕ) → quiet_ends ends ≡ true
    → Quiet (shift_each signal to book ends os)
unfolding shift_each
shift_each_quiet signal to book ends [] q = stays_quiet ends q _
shift_each_quiet signal to book ends (o ∷ os) q =
    shift_arms signal book ends Quiet to (our_in o) _ (λ code. stays_quiet ends q _) λ i n there m.
    shift_each_quiet signal to book (set ends i (moved_by (in_state to) (end_at ends i))) os
    (set_quiet ends i (moved_by (in_state to) (end_at ends i)) q
    (moved_quiet (in_state to) (end_at ends i) refl (at_quiet ends i q)))

shift_quiet : (signal : Signal) (to : State) (book : Book) (ends : Ends) (p : List ℕ) → quiet_ends ends ≡ true
    → Quiet (shift signal to book ends p)
unfolding shift
shift_quiet signal to book ends p q =
    if_arms Quiet (length_right signal (length p)) _ _ (λ t. shift_each_quiet signal to book ends p q) (λ t. stays_quiet ends q _)

-- a command that names one endpoint
named_quiet : (signal : Signal) (book : Book) (ends : Ends) (p : List ℕ) (on : ℕ → Entry → Outcome) → quiet_ends ends ≡ true
    → ((i : ℕ) (n : Entry) → Quiet (on i n)) → Quiet (named signal book ends p on)
named_quiet signal book ends p on q there =
    named_arms signal book ends Quiet p on (λ code. stays_quiet ends q _) (λ i n a m. there i n)

obey_quiet : (s : Signal) (book : Book) (ends : Ends) (p : List ℕ) → quiet_ends ends ≡ true → forgoes s p ≡ true
    → Quiet (obey s book ends p)
unfolding obey forgoes discover offers_at configuration_at security_at
obey_quiet Discover book ends p q ok = stays_quiet ends q _
obey_quiet GetCapabilities book ends p q ok = named_quiet _ book ends p _ q (λ i n. stays_quiet ends q _)
obey_quiet SetConfiguration book ends p q ok =
    named_quiet _ book ends p _ q (set_at_quiet ends q p (not_passed (has 8 (items (drop 2 p))) ok))
obey_quiet GetConfiguration book ends p q ok = named_quiet _ book ends p _ q (λ i n. stays_quiet ends q _)
obey_quiet Reconfigure book ends p q ok = named_quiet _ book ends p _ q (reconfigure_at_quiet ends q p)
obey_quiet OpenUp book ends p q ok = named_quiet _ book ends p _ q (open_at_quiet ends q)
obey_quiet Start book ends p q ok = shift_quiet _ _ book ends p q
obey_quiet Close book ends p q ok = named_quiet _ book ends p _ q (leave_at_quiet ends q _)
obey_quiet Suspend book ends p q ok = shift_quiet _ _ book ends p q
obey_quiet Abort book ends p q ok = named_quiet _ book ends p _ q (leave_at_quiet ends q _)
obey_quiet SecurityControl book ends p q ok = named_quiet _ book ends p _ q (λ i n. stays_quiet ends q _)
obey_quiet GetAllCapabilities book ends p q ok = clash refl (sym ok)
obey_quiet DelayReport book ends p q ok = clash refl (sym ok)
obey_quiet Unassigned book ends p q ok = stays_quiet ends q _

pub answer_quiet : (book : Book) (ends : Ends) (m : Message) → quiet_ends ends ≡ true → uses_delay m ≡ false
    → quiet_ends (answer book ends m).ends ≡ true
unfolding answer
answer_quiet book ends m q unused =
    if_arms Quiet (eqb m.header.mtype 0) _ _
    (λ t. obey_quiet (signal_of m.header.signal) book ends m.payload q
    (message_forgoes m (eqb-true m.header.mtype 0 t) unused))
    (λ t. stays_quiet ends q _)

-- ---- Link events

up_quiet : (ends : Ends) → quiet_ends ends ≡ true → quiet_ends (up_in ends) ≡ true
unfolding quiet_ends each_of up_in
up_quiet [] q = refl
up_quiet (e ∷ ends) q =
    let first = and_l (quiet_end e) (quiet_ends ends) q in
    let rest = and_r (quiet_end e) (quiet_ends ends) q in
    if_arms (λ (l : Ends). quiet_ends l ≡ true) (is_awaited e.head.channel) (moved_by (with_channel Up) e ∷ ends) (e ∷ up_in ends)
    (λ t. and_both (quiet_end (moved_by (with_channel Up) e)) (quiet_ends ends) (moved_quiet (with_channel Up) e refl first) rest)
    (λ t. and_both (quiet_end e) (quiet_ends (up_in ends)) first (up_quiet ends rest))

lost_quiet : (ends : Ends) → quiet_ends (map forgotten ends) ≡ true
unfolding quiet_ends each_of
lost_quiet [] = refl
lost_quiet (e ∷ ends) =
    and_both (quiet_end (forgotten e)) (quiet_ends (map forgotten ends)) (forgotten_quiet e) (lost_quiet ends)

abbrev QuietMoved : Moved → Type 0
QuietMoved m = quiet_ends m.connection.ends ≡ true

down_quiet : (f : Found) (c : Connection) → quiet_ends c.ends ≡ true → QuietMoved (down_at f c)
unfolding down_at with_ends
down_quiet unknown c q = q
down_quiet (known i n) c q =
    if_arms QuietMoved (is_up (end_at c.ends i).head.channel) _ _
    (λ t. set_quiet c.ends i (forgotten (end_at c.ends i)) q (forgotten_quiet (end_at c.ends i)))
    (λ t. q)

pub happens_quiet : (book : Book) (c : Connection) (v : Event) → quiet_ends c.ends ≡ true
    → quiet_ends (happens book c v).connection.ends ≡ true
unfolding happens with_ends
happens_quiet book c Event.Up q = if_arms QuietMoved (eqb (awaiting c.ends) 0) _ _ (λ t. q) (λ t. up_quiet c.ends q)
happens_quiet book c (Down s) q = down_quiet (find s book) c q
happens_quiet book c Lost q = lost_quiet c.ends
