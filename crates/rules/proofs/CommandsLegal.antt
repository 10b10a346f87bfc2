-- Every command leaves legal endpoints: it moves one at a time, by a legal move, and opens one only where none awaits a channel.
use Prim.Native.Nat.{ℕ, ◌≤◌}
use native.Mathlib.Omega.{arith}
use mathlib.Core.Path.{◌≡◌, refl}
use mathlib.Core.List.{List, [], ◌∷◌}
use mathlib.Core.Bool.{true, false, not}
use lib.ListN.{length, drop, get_or, set}
use lib.Dec.{leb, eqb}
use borrow.Author.Tests.{leb-true, eqb-true, le-leb, not-false}
use Rattle.rules.specs.Elements.{items, fault_in, stored, restored}
use Rattle.rules.specs.Book.{Entry, Book}
use Rattle.rules.specs.Packets.{Message}
use Rattle.rules.specs.Endpoints.{Endpoint, Ends, is_idle, is_up, is_awaited, legal_end, legal_ends, awaiting, takes_delay}
use Rattle.rules.specs.Endpoints.{far_right, in_state, with_delay, with_config, leaving, end_at, channel_right, moved_by, opened}
use Rattle.rules.specs.Saved.{pair_in}
use Rattle.rules.specs.Commands.{Reply, Outcome, stays, moves, length_right, our_in, far_in, is_open, may, discover, offers_at}
use Rattle.rules.specs.Commands.{settled, set_at, configuration_at, reconfigure_at, open_at, shift_each, shift, leave_at}
use Rattle.rules.specs.Commands.{security_at, delay_at, signal_of, obey, answer}
use Rattle.rules.specs.declared.Rule.TheVariants.{Setting, Reconfiguring}
use Rattle.rules.specs.declared.State.{State}
use Rattle.rules.specs.declared.State.TheVariants.{Open, Streaming, Closing, Aborting}
use Rattle.rules.specs.declared.Channel.TheVariants.{Up}
use Rattle.std.specs.Prelude.{Some}
use Rattle.rules.specs.declared.Signal.{Signal}
use Rattle.rules.specs.declared.Signal.TheVariants.{Discover, GetCapabilities, SetConfiguration, GetConfiguration}
use Rattle.rules.specs.declared.Signal.TheVariants.{Reconfigure, OpenUp, Start, Close, Suspend, Abort, SecurityControl}
use Rattle.rules.specs.declared.Signal.TheVariants.{GetAllCapabilities, DelayReport, Unassigned}
use Rattle.rules.proofs.Tests.{and_l, and_r}
use Rattle.rules.proofs.Places.{At, legal_at, legal_set, awaits, awaiting_kept, awaiting_raised}
use Rattle.rules.proofs.LegalMoves.{leaving_awaits, started_legal, suspended_legal, leaving_legal, opened_legal}
use Rattle.rules.proofs.LegalMoves.{with_delay_legal, with_config_legal, settled_legal, busy_keeps, keeps_config}
use Rattle.rules.proofs.LegalMoves.{open_busy}
use Rattle.rules.proofs.Outcomes.{if_arms, Takes, named_arms, shift_arms}
use Rattle.rules.proofs.Storable.{stored_could, restored_could, restored_has_8}

-- ---- Legal endpoints, of which at most one awaits a channel

pub record LegalEnds (book : Book) (ends : Ends) : Type 0 where
  pub every : legal_ends book ends ≡ true
  pub one : leb (awaiting ends) 1 ≡ true

abbrev Leaves : Book → Outcome → Type 0
Leaves book o = LegalEnds book o.ends

module _ (book : Book) (ends : Ends) (h : LegalEnds book ends) where
  -- the endpoint at a place gives way to a legal one that awaits no more than it
  pub put_legal : (i : ℕ) (n : Entry) (e : Endpoint) → At book i n → legal_end n e ≡ true → awaits e ≤ awaits (end_at ends i)
      → LegalEnds book (set ends i e)
  put_legal i n e a t w =
      let kept = awaiting_kept ends i e w in
      let before = leb-true (awaiting ends) 1 h.one in
      record { every = legal_set a ends e h.every t; one = le-leb (awaiting (set ends i e)) 1 (omega arith) }

  same_legal : (r : Reply) → Leaves book (stays ends r)
  unfolding stays
  same_legal r = h

  moves_legal : (i : ℕ) (n : Entry) (e : Endpoint) → At book i n → legal_end n e ≡ true → awaits e ≤ awaits (end_at ends i)
      → Leaves book (moves ends i e)
  unfolding moves
  moves_legal i n e a t w = put_legal i n e a t w

  -- ---- What each command does at its endpoint

  set_at_legal : (p : List ℕ) (i : ℕ) (n : Entry) → At book i n → Leaves book (set_at ends p i n)
  unfolding set_at awaits settled is_awaited
  set_at_legal p i n a =
      let e = end_at ends i in
      let far = far_in (get_or p 1 0) in
      let asked = items (drop 2 p) in
      let fault = fault_in Setting (items n.caps) asked in
      let right_code = eqb fault.code 0 in
      if_arms (Leaves book) (not (far_right far)) _ _ (λ t. same_legal _) λ right_far.
      if_arms (Leaves book) (not right_code) _ _ (λ t. same_legal _) λ right.
      moves_legal i n (settled e far (stored asked)) a
      (settled_legal n e (legal_at a ends h.every) far (stored asked) (not-false (far_right far) right_far)
      (stored_could (items n.caps) asked (eqb-true fault.code 0 (not-false right_code right))))
      (omega arith)

  reconfigure_at_legal : (p : List ℕ) (i : ℕ) (n : Entry) → At book i n → Takes Reconfigure ends i
      → Leaves book (reconfigure_at ends p i n)
  unfolding reconfigure_at awaits with_config may
  reconfigure_at_legal p i n a opened =
      let e = end_at ends i in
      let t = legal_at a ends h.every in
      let busy = open_busy e.head.state opened in
      let caps = items n.caps in
      let asked = items (drop 1 p) in
      let fault = fault_in Reconfiguring caps asked in
      let right_code = eqb fault.code 0 in
      if_arms (Leaves book) (not right_code) _ _ (λ c. same_legal _) λ right.
      let faultless = eqb-true fault.code 0 (not-false right_code right) in
      let could = keeps_config n e (busy_keeps n e t busy) in
      moves_legal i n (with_config (restored asked (items e.config)) e) a
      (with_config_legal n e t (restored asked (items e.config)) busy (restored_could caps asked e.config could faultless)
      (restored_has_8 caps asked (items e.config) faultless))
      (omega arith)

  -- the one command after which an endpoint may await a channel that did not: none did before
  open_at_legal : (i : ℕ) (n : Entry) → At book i n → Takes OpenUp ends i → Leaves book (open_at ends i n)
  unfolding open_at moves may
  open_at_legal i n a configured =
      let e = end_at ends i in
      let opened = moved_by opened e in
      if_arms (Leaves book) (eqb (awaiting ends) 0) _ _
      (λ t.
      let none = eqb-true (awaiting ends) 0 t in
      let raised = awaiting_raised ends i opened in
      record {
        every = legal_set a ends opened h.every (opened_legal n e (legal_at a ends h.every) configured);
        one = le-leb (awaiting (set ends i opened)) 1 (omega arith);
      })
      (λ f. same_legal _)

  -- Close and Abort: to a state that goes with a channel, or to idle
  leave_at_legal : (s : State) → is_idle s ≡ false → channel_right s Up ≡ true → (i : ℕ) (n : Entry) → At book i n
      → Leaves book (leave_at s ends i n)
  unfolding leave_at
  leave_at_legal s busy up i n a =
      let e = end_at ends i in
      moves_legal i n (leaving s e) a (leaving_legal n e (legal_at a ends h.every) s busy up) (leaving_awaits s e)

  delay_at_legal : (p : List ℕ) (i : ℕ) (n : Entry) → At book i n → Takes DelayReport ends i → Leaves book (delay_at ends p i n)
  unfolding delay_at awaits moved_by may
  delay_at_legal p i n a is_set =
      let e = end_at ends i in
      let heard = Some (pair_in (get_or p 1 0) (get_or p 2 0)) in
      if_arms (Leaves book) (not (takes_delay n e)) _ _ (λ t. same_legal _) λ takes.
      moves_legal i n (moved_by (with_delay heard) e) a
      (with_delay_legal n e (legal_at a ends h.every) heard is_set (not-false (takes_delay n e) takes))
      (omega arith)

-- ---- Start and Suspend: one endpoint after the other, each by a legal move

module _ (signal : Signal) (to : State) (book : Book)
    (move : (n : Entry) (e : Endpoint) → legal_end n e ≡ true → may signal e.head.state e.head.channel ≡ true
    → legal_end n (moved_by (in_state to) e) ≡ true) where
  shift_each_legal : (os : List ℕ) (ends : Ends) → LegalEnds book ends → Leaves book (shift_each signal to book ends os)
  unfolding shift_each awaits moved_by
  shift_each_legal [] ends h = same_legal book ends h _
  shift_each_legal (o ∷ os) ends h =
      shift_arms signal book ends (Leaves book) to (our_in o) _ (λ code. same_legal book ends h _) λ i n a m.
      let e = end_at ends i in
      shift_each_legal os (set ends i (moved_by (in_state to) e))
      (put_legal book ends h i n (moved_by (in_state to) e) a (move n e (legal_at a ends h.every) m) (omega arith))

  shift_legal : (ends : Ends) → LegalEnds book ends → (p : List ℕ) → Leaves book (shift signal to book ends p)
  unfolding shift
  shift_legal ends h p =
      if_arms (Leaves book) (length_right signal (length p)) _ _ (λ t. shift_each_legal p ends h) (λ f. same_legal book ends h _)

-- ---- Every command

module _ (book : Book) (ends : Ends) (h : LegalEnds book ends) where
  obey_legal : (s : Signal) (p : List ℕ) → Leaves book (obey s book ends p)
  unfolding obey discover offers_at configuration_at security_at may is_idle channel_right is_up
  obey_legal Discover p = same_legal book ends h _
  obey_legal GetCapabilities p =
      named_arms _ book ends (Leaves book) p _ (λ c. same_legal book ends h _) (λ i n a m. same_legal book ends h _)
  obey_legal SetConfiguration p =
      named_arms _ book ends (Leaves book) p _ (λ c. same_legal book ends h _) (λ i n a m. set_at_legal book ends h p i n a)
  obey_legal GetConfiguration p =
      named_arms _ book ends (Leaves book) p _ (λ c. same_legal book ends h _) (λ i n a m. same_legal book ends h _)
  obey_legal Reconfigure p =
      named_arms _ book ends (Leaves book) p _ (λ c. same_legal book ends h _) (reconfigure_at_legal book ends h p)
  obey_legal OpenUp p =
      named_arms _ book ends (Leaves book) p _ (λ c. same_legal book ends h _) (open_at_legal book ends h)
  obey_legal Start p =
      shift_legal Start Streaming book
      (λ n e t m. started_legal n e t (and_l (is_open e.head.state) _ m) (and_r (is_open e.head.state) _ m)) ends h p
  obey_legal Close p =
      named_arms _ book ends (Leaves book) p _ (λ c. same_legal book ends h _)
      (λ i n a m. leave_at_legal book ends h Closing refl refl i n a)
  obey_legal Suspend p = shift_legal Suspend Open book (λ n e t m. suspended_legal n e t m) ends h p
  obey_legal Abort p =
      named_arms _ book ends (Leaves book) p _ (λ c. same_legal book ends h _)
      (λ i n a m. leave_at_legal book ends h Aborting refl refl i n a)
  obey_legal SecurityControl p =
      named_arms _ book ends (Leaves book) p _ (λ c. same_legal book ends h _) (λ i n a m. same_legal book ends h _)
  obey_legal GetAllCapabilities p =
      named_arms _ book ends (Leaves book) p _ (λ c. same_legal book ends h _) (λ i n a m. same_legal book ends h _)
  obey_legal DelayReport p =
      named_arms _ book ends (Leaves book) p _ (λ c. same_legal book ends h _) (delay_at_legal book ends h p)
  obey_legal Unassigned p = same_legal book ends h _

  pub answer_legal : (m : Message) → LegalEnds book (answer book ends m).ends
  unfolding answer
  answer_legal m =
      if_arms (Leaves book) (eqb m.header.mtype 0) _ _ (λ t. obey_legal (signal_of m.header.signal) m.payload)
      (λ f. same_legal book ends h _)
