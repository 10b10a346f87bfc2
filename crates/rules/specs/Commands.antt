-- Every command: the checks that it begins with, and what it does at the endpoint that it names (document 01, Commands; 001, 8.5
-- to 8.19).
use Rattle.std.specs.Prelude.{ℕ, ◌+◌, ◌*◌, ◌/◌, List, [], ◌∷◌, Bool, true, false, not, ◌&&◌, ◌||◌, length, drop, get_or, set, leb}
use Rattle.std.specs.Prelude.{eqb, if◌then◌else◌}
use Rattle.rules.specs.Elements.{items, fault_in, stored, restored}
use Rattle.rules.specs.Book.{Entry, Book, Found, unknown, known, find, shown_by_02, shown_by_0C}
use Rattle.rules.specs.Packets.{Message}
use Rattle.rules.specs.Endpoints.{Endpoint, Ends, is_idle, is_up, awaiting, takes_delay, far_right, in_state, with_delay, opened}
use Rattle.rules.specs.Endpoints.{settled_by, moved_by, with_config, leaving, end_at}
use Rattle.rules.specs.Saved.{pair_in}
use Rattle.rules.specs.declared.OurSeid.{OurSeid}
use Rattle.rules.specs.declared.FarSeid.{FarSeid}
use Rattle.rules.specs.declared.Rule.TheVariants.{Setting, Reconfiguring}
use Rattle.rules.specs.declared.Fault.{Fault}
use Rattle.rules.specs.declared.State.{State}
use Rattle.rules.specs.declared.State.TheVariants.{Idle, Configured, Open, Streaming, Closing, Aborting}
use Rattle.rules.specs.declared.Channel.{Channel}
use Rattle.std.specs.Prelude.{Some}
use Rattle.rules.specs.declared.Signal.{Signal}
use Rattle.rules.specs.declared.Signal.TheVariants.{Discover, GetCapabilities, SetConfiguration, GetConfiguration}
use Rattle.rules.specs.declared.Signal.TheVariants.{Reconfigure, OpenUp, Start, Close, Suspend, Abort, SecurityControl}
use Rattle.rules.specs.declared.Signal.TheVariants.{GetAllCapabilities, DelayReport, Unassigned}

-- ---- The 64 signals (001, 8.5)

unfoldable pub signal_of : ℕ → Signal
signal_of n =
    get_or
    (Unassigned ∷ Discover ∷ GetCapabilities ∷ SetConfiguration ∷ GetConfiguration ∷ Reconfigure ∷ OpenUp ∷ Start ∷ Close
    ∷ Suspend ∷ Abort ∷ SecurityControl ∷ GetAllCapabilities ∷ DelayReport ∷ [])
    n Unassigned

-- ---- Answers

-- What is said to the far end: nothing, or a message type with its payload. Label and signal are the command's.
pub data Reply : Type 0 where
  silence : Reply
  general_reject : Reply
  accept : List ℕ → Reply
  reject : List ℕ → Reply

-- What a command leads to.
pub record Outcome : Type 0 where
  pub ends : Ends
  pub reply : Reply

unfoldable pub stays : Ends → Reply → Outcome
stays ends r = record { ends = ends; reply = r }

-- accepted, with the endpoint at a place moved
unfoldable pub moves : Ends → ℕ → Endpoint → Outcome
moves ends i e = record { ends = set ends i e; reply = accept [] }

-- A reject's payload is, of 03 and 05, a category then the code; of 07 and 09, a SEID times 4 then the code; of others, the code.
-- A refused Abort is silent.
unfoldable pub rejects : Signal → ℕ → ℕ → Reply
rejects Discover what code = reject (code ∷ [])
rejects GetCapabilities what code = reject (code ∷ [])
rejects SetConfiguration what code = reject (what ∷ code ∷ [])
rejects GetConfiguration what code = reject (code ∷ [])
rejects Reconfigure what code = reject (what ∷ code ∷ [])
rejects OpenUp what code = reject (code ∷ [])
rejects Start what code = reject (what ∷ code ∷ [])
rejects Close what code = reject (code ∷ [])
rejects Suspend what code = reject (what ∷ code ∷ [])
rejects Abort what code = silence
rejects SecurityControl what code = reject (code ∷ [])
rejects GetAllCapabilities what code = reject (code ∷ [])
rejects DelayReport what code = reject (code ∷ [])
rejects Unassigned what code = general_reject

-- for an element that failed
unfoldable pub rejects_fault : Signal → Fault → Reply
rejects_fault signal f = rejects signal f.category f.code

-- ---- The length of the payload: 11h

unfoldable pub length_right : Signal → ℕ → Bool
length_right Discover n = eqb n 0
length_right GetCapabilities n = eqb n 1
length_right SetConfiguration n = leb 2 n
length_right GetConfiguration n = eqb n 1
length_right Reconfigure n = leb 3 n
length_right OpenUp n = eqb n 1
length_right Start n = leb 1 n
length_right Close n = eqb n 1
length_right Suspend n = leb 1 n
length_right Abort n = eqb n 1
length_right SecurityControl n = leb 1 n
length_right GetAllCapabilities n = eqb n 1
length_right DelayReport n = eqb n 3
length_right Unassigned n = true

-- ---- Known: in the book, else 12h. A SEID stands in bits 7-2 of an octet.

unfoldable pub our_in : ℕ → OurSeid
our_in o = record { 0 = o / 4 }

unfoldable pub far_in : ℕ → FarSeid
far_in o = record { 0 = o / 4 }

-- ---- The state: which command an endpoint takes in which state

unfoldable pub is_configured : State → Bool
is_configured Idle = false
is_configured Configured = true
is_configured Open = false
is_configured Streaming = false
is_configured Closing = false
is_configured Aborting = false

unfoldable pub is_open : State → Bool
is_open Idle = false
is_open Configured = false
is_open Open = true
is_open Streaming = false
is_open Closing = false
is_open Aborting = false

unfoldable pub is_streaming : State → Bool
is_streaming Idle = false
is_streaming Configured = false
is_streaming Open = false
is_streaming Streaming = true
is_streaming Closing = false
is_streaming Aborting = false

-- configured, open or streaming
unfoldable pub is_set : State → Bool
is_set s = is_configured s || is_open s || is_streaming s

-- The table of states, by the endpoint's state and channel.
unfoldable pub may : Signal → State → Channel → Bool
may Discover s c = true
may GetCapabilities s c = true
may SetConfiguration s c = is_idle s
may GetConfiguration s c = is_set s
may Reconfigure s c = is_open s
may OpenUp s c = is_configured s
may Start s c = is_open s && is_up c
may Close s c = is_open s || is_streaming s
may Suspend s c = is_streaming s
may Abort s c = true
may SecurityControl s c = true
may GetAllCapabilities s c = true
may DelayReport s c = is_set s
may Unassigned s c = true

-- the code where it may not
unfoldable pub wrong_state : Signal → State → ℕ
wrong_state Discover s = 0x31
wrong_state GetCapabilities s = 0x31
wrong_state SetConfiguration s = 0x13
wrong_state GetConfiguration s = 0x31
wrong_state Reconfigure s = if is_idle s then 0x14 else 0x31
wrong_state OpenUp s = 0x31
wrong_state Start s = 0x31
wrong_state Close s = 0x31
wrong_state Suspend s = 0x31
wrong_state Abort s = 0x31
wrong_state SecurityControl s = 0x31
wrong_state GetAllCapabilities s = 0x31
wrong_state DelayReport s = 0x31
wrong_state Unassigned s = 0x31

-- ---- The checks that every command on an endpoint begins with: length, known, state

-- What they come to: the code of the refusal, or the endpoint's place in the book with its entry.
pub data Met : Type 0 where
  refused : ℕ → Met
  here : ℕ → Entry → Met

unfoldable pub met_at : Signal → Ends → Found → Met
met_at signal ends unknown = refused 0x12
met_at signal ends (known i n) =
    let h = (end_at ends i).head in
    if may signal h.state h.channel then here i n else refused (wrong_state signal h.state)

-- known and state, for one SEID
unfoldable pub meets : Signal → Book → Ends → OurSeid → Met
meets signal book ends s = met_at signal ends (find s book)

-- all three; payload octet 0 holds our SEID
unfoldable pub preamble : Signal → Book → Ends → List ℕ → Met
preamble signal book ends p =
    if length_right signal (length p) then meets signal book ends (our_in (get_or p 0 0)) else refused 0x11

-- A command that names one endpoint, by what it does there; a category that was not reached is 0.
unfoldable pub at_met : Signal → Ends → (ℕ → Entry → Outcome) → Met → Outcome
at_met signal ends on (refused code) = stays ends (rejects signal 0 code)
at_met signal ends on (here i n) = on i n

unfoldable pub named : Signal → Book → Ends → List ℕ → (ℕ → Entry → Outcome) → Outcome
named signal book ends p on = at_met signal ends on (preamble signal book ends p)

-- ---- 01 Discover

unfoldable pub in_use : Endpoint → ℕ
in_use e = if is_idle e.head.state then 0 else 2

unfoldable pub discovered : Book → Ends → List ℕ
discovered [] ends = []
discovered (n ∷ book) [] = []
discovered (n ∷ book) (e ∷ ends) = (n.seid.0 * 4 + in_use e) ∷ n.kind ∷ discovered book ends

unfoldable pub discover : Book → Ends → List ℕ → Outcome
discover book ends p =
    stays ends (if length_right Discover (length p) then accept (discovered book ends) else rejects Discover 0 0x11)

-- ---- 02 Get Capabilities, 0C Get All Capabilities

unfoldable pub offers_at : (Entry → List ℕ) → Ends → ℕ → Entry → Outcome
offers_at shown ends i n = stays ends (accept (shown n))

-- ---- 03 Set Configuration: the far SEID, then the elements

unfoldable pub settled : Endpoint → FarSeid → List ℕ → Endpoint
settled e far config = record { head = settled_by far e.head; config = config }

unfoldable pub set_at : Ends → List ℕ → ℕ → Entry → Outcome
set_at ends p i n =
    let far = far_in (get_or p 1 0) in
    let asked = items (drop 2 p) in
    let fault = fault_in Setting (items n.caps) asked in
    if not (far_right far) then stays ends (rejects SetConfiguration 0 0x18)
    else if not (eqb fault.code 0) then stays ends (rejects_fault SetConfiguration fault)
    else moves ends i (settled (end_at ends i) far (stored asked))

-- ---- 04 Get Configuration

unfoldable pub configuration_at : Ends → ℕ → Entry → Outcome
configuration_at ends i n = stays ends (accept (end_at ends i).config)

-- ---- 05 Reconfigure: the elements

unfoldable pub reconfigure_at : Ends → List ℕ → ℕ → Entry → Outcome
reconfigure_at ends p i n =
    let e = end_at ends i in
    let asked = items (drop 1 p) in
    let fault = fault_in Reconfiguring (items n.caps) asked in
    if not (eqb fault.code 0) then stays ends (rejects_fault Reconfigure fault)
    else moves ends i (with_config (restored asked (items e.config)) e)

-- ---- 06 Open: a further check of the same code, that no other endpoint awaits its channel

unfoldable pub open_at : Ends → ℕ → Entry → Outcome
open_at ends i n =
    if eqb (awaiting ends) 0 then moves ends i (moved_by opened (end_at ends i))
    else stays ends (rejects OpenUp 0 0x31)

-- ---- 07 Start and 09 Suspend: each SEID in turn, and a stop at the first failure; earlier ones stay shifted

unfoldable pub shift_one : Signal → State → OurSeid → Ends → (Ends → Outcome) → Met → Outcome
shift_one signal to s ends next (refused code) = stays ends (rejects signal (s.0 * 4) code)
shift_one signal to s ends next (here i n) = next (set ends i (moved_by (in_state to) (end_at ends i)))

unfoldable pub shift_each : Signal → State → Book → Ends → List ℕ → Outcome
shift_each signal to book ends [] = stays ends (accept [])
shift_each signal to book ends (o ∷ os) =
    shift_one signal to (our_in o) ends (λ shifted. shift_each signal to book shifted os) (meets signal book ends (our_in o))

unfoldable pub shift : Signal → State → Book → Ends → List ℕ → Outcome
shift signal to book ends p =
    if length_right signal (length p) then shift_each signal to book ends p else stays ends (rejects signal 0 0x11)

-- ---- 08 Close and 0A Abort

unfoldable pub leave_at : State → Ends → ℕ → Entry → Outcome
leave_at to ends i n = moves ends i (leaving to (end_at ends i))

-- ---- 0B Security Control

unfoldable pub security_at : Ends → ℕ → Entry → Outcome
security_at ends i n = stays ends (rejects SecurityControl 0 0x19)

-- ---- 0D Delay Report: a source with 8 configured; high octet, low octet, in tenths of a millisecond

unfoldable pub delay_at : Ends → List ℕ → ℕ → Entry → Outcome
delay_at ends p i n =
    let e = end_at ends i in
    if not (takes_delay n e) then stays ends (rejects DelayReport 0 0x19)
    else moves ends i (moved_by (with_delay (Some (pair_in (get_or p 1 0) (get_or p 2 0)))) e)

-- ---- All commands

unfoldable pub obey : Signal → Book → Ends → List ℕ → Outcome
obey Discover book ends p = discover book ends p
obey GetCapabilities book ends p = named GetCapabilities book ends p (offers_at shown_by_02 ends)
obey SetConfiguration book ends p = named SetConfiguration book ends p (set_at ends p)
obey GetConfiguration book ends p = named GetConfiguration book ends p (configuration_at ends)
obey Reconfigure book ends p = named Reconfigure book ends p (reconfigure_at ends p)
obey OpenUp book ends p = named OpenUp book ends p (open_at ends)
obey Start book ends p = shift Start Streaming book ends p
obey Close book ends p = named Close book ends p (leave_at Closing ends)
obey Suspend book ends p = shift Suspend Open book ends p
obey Abort book ends p = named Abort book ends p (leave_at Aborting ends)
obey SecurityControl book ends p = named SecurityControl book ends p (security_at ends)
obey GetAllCapabilities book ends p = named GetAllCapabilities book ends p (offers_at shown_by_0C ends)
obey DelayReport book ends p = named DelayReport book ends p (delay_at ends p)
obey Unassigned book ends p = stays ends general_reject

-- A completed message that is not a command (message type 0) is silent.
unfoldable pub answer : Book → Ends → Message → Outcome
answer book ends m =
    if eqb m.header.mtype 0 then obey (signal_of m.header.signal) book ends m.payload else stays ends silence
