-- No configuration and no reply is longer than 64 octets: a configuration is no longer than the list that offers it, the lists of
-- a right book have at most 64 octets, and what else is said is shorter.
use Prim.Native.Nat.{ℕ, ◌+◌, ◌≤◌}
use native.Mathlib.Nat.{le_trans}
use native.Mathlib.Omega.{arith}
use mathlib.Core.Path.{◌≡◌, refl, sym}
use mathlib.Core.List.{List, [], ◌∷◌}
use mathlib.Core.Bool.{true, not}
use mathlib.Core.Option.{Option, none, some}
use lib.ListN.{length, drop, get_or}
use lib.Dec.{leb, eqb, lit≤}
use borrow.Author.Tests.{leb-true, le-leb}
use Rattle.rules.specs.Octets.{each_of}
use Rattle.rules.specs.Elements.{items, fault_in}
use Rattle.rules.specs.Book.{Entry, Book, shown_by_02, shown_by_0C}
use Rattle.rules.specs.Packets.{Message, Gathering, gather}
use Rattle.rules.specs.Endpoints.{Endpoint, Ends, Connection, is_idle, keeps_nothing, legal_end, legal_ends, awaiting}
use Rattle.rules.specs.Endpoints.{takes_delay, far_right, end_at, legal}
use Rattle.rules.specs.Commands.{Reply, silence, general_reject, accept, Outcome, stays, moves, rejects, rejects_fault}
use Rattle.rules.specs.Commands.{length_right, our_in, far_in, discovered, discover, offers_at, set_at, configuration_at}
use Rattle.rules.specs.Commands.{reconfigure_at, open_at, shift_each, shift, leave_at, security_at, delay_at, signal_of, obey}
use Rattle.rules.specs.Commands.{answer}
use Rattle.rules.specs.Host.{payload_of, handled_by, takes}
use Rattle.rules.specs.declared.Rule.TheVariants.{Setting, Reconfiguring}
use Rattle.rules.specs.declared.State.{State}
use Rattle.rules.specs.declared.Signal.{Signal}
use Rattle.rules.specs.declared.Signal.TheVariants.{Discover, GetCapabilities, SetConfiguration, GetConfiguration}
use Rattle.rules.specs.declared.Signal.TheVariants.{Reconfigure, OpenUp, Start, Close, Suspend, Abort, SecurityControl}
use Rattle.rules.specs.declared.Signal.TheVariants.{GetAllCapabilities, DelayReport, Unassigned}
use Rattle.rules.proofs.Tests.{Told?, told, passed, failed, clash, and_l, and_r, and_both}
use Rattle.rules.proofs.Lists.{shown_length}
use Rattle.rules.proofs.Storable.{could_short}
use Rattle.rules.proofs.SavedReads.{short_configs}
use Rattle.rules.proofs.Places.{At, here, there, legal_at}
use Rattle.rules.proofs.RightBook.{entry_right, RightBook}
use Rattle.rules.proofs.Outcomes.{if_arms, named_arms, shift_arms}
use Rattle.rules.proofs.LegalMoves.{idle_keeps, busy_keeps, keeps_config}
use Rattle.rules.proofs.StaysLegal.{legal_ends_lem, empty_is}

-- ---- Configurations

pub caps_short : (n : Entry) → entry_right n ≡ true → length n.caps ≤ 64
unfolding entry_right
caps_short n r = leb-true (length n.caps) 64 (search (and_l, and_r))

pub entry_at : {book : Book} {i : ℕ} {n : Entry} → At book i n → each_of entry_right book ≡ true → entry_right n ≡ true
unfolding each_of
entry_at (here {n} {book}) r = and_l (entry_right n) (each_of entry_right book) r
entry_at (there {m} {book = book} a) r = entry_at a (and_r (entry_right m) (each_of entry_right book) r)

module _ (n : Entry) (e : Endpoint) (r : entry_right n ≡ true) (h : legal_end n e ≡ true) where
  config_told : Told? (is_idle e.head.state) → length e.config ≤ 64
  unfolding keeps_nothing
  config_told (passed i) =
      let nothing = idle_keeps n e h i in
      rw (empty_is e.config (search (and_l, and_r))) (lit≤ tt)
  config_told (failed b) =
      le_trans (could_short n.caps e.config (keeps_config n e (busy_keeps n e h b))) (caps_short n r)

  pub end_short : length e.config ≤ 64
  end_short = config_told (told (is_idle e.head.state))

pub config_short : (book : Book) (ends : Ends) → each_of entry_right book ≡ true → legal_ends book ends ≡ true
    → short_configs ends ≡ true
unfolding each_of legal_ends
config_short [] [] r h = refl
config_short [] (e ∷ ends) r h = clash refl (sym h)
config_short (n ∷ book) [] r h = refl
config_short (n ∷ book) (e ∷ ends) r h =
    and_both (leb (length e.config) 64) (short_configs ends)
    (le-leb (length e.config) 64
    (end_short n e (and_l (entry_right n) (each_of entry_right book) r) (and_l (legal_end n e) (legal_ends book ends) h)))
    (config_short book ends (and_r (entry_right n) (each_of entry_right book) r) (and_r (legal_end n e) (legal_ends book ends) h))

-- ---- Replies

abbrev ShortReply : Reply → Type 0
ShortReply r = length (payload_of r) ≤ 64

abbrev Short : Outcome → Type 0
Short o = ShortReply o.reply

stays_short : (ends : Ends) (r : Reply) → ShortReply r → Short (stays ends r)
unfolding stays
stays_short ends r h = h

moves_short : (ends : Ends) (i : ℕ) (e : Endpoint) → Short (moves ends i e)
unfolding moves payload_of
moves_short ends i e = lit≤ tt

silence_short : (ends : Ends) → Short (stays ends silence)
unfolding stays payload_of
silence_short ends = lit≤ tt

rejects_length : (signal : Signal) (what code : ℕ) → ShortReply (rejects signal what code)
unfolding rejects payload_of
rejects_length Discover what code = lit≤ tt
rejects_length GetCapabilities what code = lit≤ tt
rejects_length SetConfiguration what code = lit≤ tt
rejects_length GetConfiguration what code = lit≤ tt
rejects_length Reconfigure what code = lit≤ tt
rejects_length OpenUp what code = lit≤ tt
rejects_length Start what code = lit≤ tt
rejects_length Close what code = lit≤ tt
rejects_length Suspend what code = lit≤ tt
rejects_length Abort what code = lit≤ tt
rejects_length SecurityControl what code = lit≤ tt
rejects_length GetAllCapabilities what code = lit≤ tt
rejects_length DelayReport what code = lit≤ tt
rejects_length Unassigned what code = lit≤ tt

rejects_short : (ends : Ends) (signal : Signal) (what code : ℕ) → Short (stays ends (rejects signal what code))
rejects_short ends signal what code = stays_short ends (rejects signal what code) (rejects_length signal what code)

discovered_length : (book : Book) (ends : Ends) → length (discovered book ends) ≤ length book + length book
unfolding discovered
discovered_length [] ends = omega arith
discovered_length (n ∷ book) [] = omega arith
discovered_length (n ∷ book) (e ∷ ends) = let h = discovered_length book ends in omega arith

module _ (ends : Ends) (p : List ℕ) (i : ℕ) (n : Entry) where
  set_at_short : Short (set_at ends p i n)
  unfolding set_at rejects_fault
  set_at_short =
      let fault = fault_in Setting (items n.caps) (items (drop 2 p)) in
      if_arms Short (not (far_right (far_in (get_or p 1 0)))) _ _ (λ t. rejects_short ends _ _ _) λ f.
      if_arms Short (not (eqb fault.code 0)) _ _ (λ t. rejects_short ends _ _ _) λ f. moves_short ends i _

  reconfigure_at_short : Short (reconfigure_at ends p i n)
  unfolding reconfigure_at rejects_fault
  reconfigure_at_short =
      let fault = fault_in Reconfiguring (items n.caps) (items (drop 1 p)) in
      if_arms Short (not (eqb fault.code 0)) _ _ (λ t. rejects_short ends _ _ _) λ f. moves_short ends i _

  open_at_short : Short (open_at ends i n)
  unfolding open_at
  open_at_short = if_arms Short (eqb (awaiting ends) 0) _ _ (λ t. moves_short ends i _) (λ f. rejects_short ends _ _ _)

  delay_at_short : Short (delay_at ends p i n)
  unfolding delay_at
  delay_at_short =
      if_arms Short (not (takes_delay n (end_at ends i))) _ _ (λ t. rejects_short ends _ _ _) (λ f. moves_short ends i _)

module _ (signal : Signal) (to : State) (book : Book) where
  shift_each_short : (os : List ℕ) (ends : Ends) → Short (shift_each signal to book ends os)
  unfolding shift_each payload_of
  shift_each_short [] ends = stays_short ends (accept []) (lit≤ tt)
  shift_each_short (o ∷ os) ends =
      shift_arms signal book ends Short to (our_in o) _ (λ code. rejects_short ends _ _ _) (λ i n a m. shift_each_short os _)

  shift_short : (ends : Ends) (p : List ℕ) → Short (shift signal to book ends p)
  unfolding shift
  shift_short ends p =
      if_arms Short (length_right signal (length p)) _ _ (λ t. shift_each_short p ends) (λ f. rejects_short ends _ _ _)

module _ (book : Book) (ends : Ends) (right : RightBook book) (h : legal_ends book ends ≡ true) where
  discover_short : (p : List ℕ) → Short (discover book ends p)
  unfolding discover payload_of
  discover_short p =
      let most = discovered_length book ends in
      let few = right.few in
      stays_short ends _ (if_arms ShortReply (length_right Discover (length p)) (accept (discovered book ends))
      (rejects Discover 0 0x11) (λ t. omega arith) (λ f. rejects_length Discover 0 0x11))

  offers_at_short : (shown : Entry → List ℕ) → ((n : Entry) → length (shown n) ≤ length n.caps) → (i : ℕ) (n : Entry)
      → At book i n → Short (offers_at shown ends i n)
  unfolding offers_at payload_of
  offers_at_short shown within i n a =
      stays_short ends _ (le_trans (within n) (caps_short n (entry_at a right.entries)))

  configuration_at_short : (i : ℕ) (n : Entry) → At book i n → Short (configuration_at ends i n)
  unfolding configuration_at payload_of
  configuration_at_short i n a =
      stays_short ends _ (end_short n (end_at ends i) (entry_at a right.entries) (legal_at a ends h))

  obey_short : (s : Signal) (p : List ℕ) → Short (obey s book ends p)
  unfolding obey leave_at security_at shown_by_02 shown_by_0C payload_of
  obey_short Discover p = discover_short p
  obey_short GetCapabilities p =
      named_arms _ book ends Short p _ (λ c. rejects_short ends _ _ _)
      (λ i n a m. offers_at_short shown_by_02 (λ n. shown_length n.caps) i n a)
  obey_short SetConfiguration p =
      named_arms _ book ends Short p _ (λ c. rejects_short ends _ _ _) (λ i n a m. set_at_short ends p i n)
  obey_short GetConfiguration p =
      named_arms _ book ends Short p _ (λ c. rejects_short ends _ _ _) (λ i n a m. configuration_at_short i n a)
  obey_short Reconfigure p =
      named_arms _ book ends Short p _ (λ c. rejects_short ends _ _ _) (λ i n a m. reconfigure_at_short ends p i n)
  obey_short OpenUp p =
      named_arms _ book ends Short p _ (λ c. rejects_short ends _ _ _) (λ i n a m. open_at_short ends p i n)
  obey_short Start p = shift_short _ _ book ends p
  obey_short Close p =
      named_arms _ book ends Short p _ (λ c. rejects_short ends _ _ _) (λ i n a m. moves_short ends i _)
  obey_short Suspend p = shift_short _ _ book ends p
  obey_short Abort p =
      named_arms _ book ends Short p _ (λ c. rejects_short ends _ _ _) (λ i n a m. moves_short ends i _)
  obey_short SecurityControl p =
      named_arms _ book ends Short p _ (λ c. rejects_short ends _ _ _) (λ i n a m. rejects_short ends _ _ _)
  obey_short GetAllCapabilities p =
      named_arms _ book ends Short p _ (λ c. rejects_short ends _ _ _)
      (λ i n a m. offers_at_short shown_by_0C (λ n. omega arith) i n a)
  obey_short DelayReport p =
      named_arms _ book ends Short p _ (λ c. rejects_short ends _ _ _) (λ i n a m. delay_at_short ends p i n)
  obey_short Unassigned p = stays_short ends general_reject (lit≤ tt)

  pub answer_short : (m : Message) → length (payload_of (answer book ends m).reply) ≤ 64
  unfolding answer
  answer_short m =
      if_arms Short (eqb m.header.mtype 0) _ _ (λ t. obey_short (signal_of m.header.signal) m.payload)
      (λ f. silence_short ends)

  handled_short : (g : Option Gathering) (done : Option Message) → length (handled_by book ends g done).payload ≤ 64
  unfolding handled_by
  handled_short g none = lit≤ tt
  handled_short g (some m) = answer_short m

pub reply_short : (book : Book) (size : ℕ) (c : Connection) (p : List ℕ) → RightBook book → legal book c ≡ true
    → length (takes book size c p).payload ≤ 64
unfolding takes
reply_short book size c p right h =
    let s = gather size c.link.gathering p in
    handled_short book c.ends right (legal_ends_lem book c h).every s.gathering s.done
