-- Endpoints and connections: when a connection is legal, and the link events (document 01, What the host is told and Commands).
use Rattle.std.specs.Prelude.{ℕ, ◌+◌, List, [], ◌∷◌, map, Bool, true, false, not, ◌&&◌, ◌||◌, get_or, set, leb, eqb}
use Rattle.std.specs.Prelude.{if◌then◌else◌}
use Rattle.std.proofs.Math.Option.{Option, none, some}
use Rattle.rules.specs.Octets.{between, is_empty}
use Rattle.rules.specs.Elements.{items, has, could_store}
use Rattle.rules.specs.Book.{Entry, Book, is_source, Found, unknown, known, find}
use Rattle.rules.specs.Packets.{Gathering, gathering_right}
use Rattle.rules.specs.declared.OurSeid.{OurSeid}
use Rattle.rules.specs.declared.FarSeid.{FarSeid}
use Rattle.rules.specs.declared.State.{State}
use Rattle.rules.specs.declared.State.TheVariants.{Idle, Configured, Open, Streaming, Closing, Aborting}
use Rattle.rules.specs.declared.Channel.{Channel}
use Rattle.rules.specs.declared.Channel.TheVariants.{Absent, Awaited, Up}
use Rattle.rules.specs.Delays.{Delay}
use Rattle.std.specs.Prelude.{None, Some}
use Rattle.rules.specs.declared.Head.{Head}
use Rattle.rules.specs.declared.Event.{Event}
use Rattle.rules.specs.declared.Event.TheVariants.{Down, Lost}

-- One endpoint: its head, in which no far SEID is 0, and its configuration, of which none is no octets.
pub record Endpoint : Type 0 where
  pub head : Head
  pub config : List ℕ

abbrev pub Ends : Type 0
Ends = List Endpoint

-- The signalling link: what is being gathered.
pub record Link : Type 0 where
  pub gathering : Option Gathering

-- A connection: one endpoint per entry of the book, in the book's order, and the link.
pub record Connection : Type 0 where
  pub ends : Ends
  pub link : Link

-- Idle: no configuration, no far SEID, no reported delay and no channel.
abbrev pub idle_head : OurSeid → Head
idle_head s = record { seid = s; state = Idle; channel = Absent; far = record { 0 = 0 }; delay = None }

unfoldable pub idle : OurSeid → Endpoint
idle s = record { head = idle_head s; config = [] }

unfoldable pub fresh_ends : Book → Ends
fresh_ends [] = []
fresh_ends (n ∷ book) = idle n.seid ∷ fresh_ends book

-- a link on which nothing has come yet
abbrev pub fresh_link : Link
fresh_link = record { gathering = none }

unfoldable pub fresh_connection : Book → Connection
fresh_connection book = record { ends = fresh_ends book; link = fresh_link }

-- ---- Legality

unfoldable pub is_absent : Channel → Bool
is_absent Absent = true
is_absent Awaited = false
is_absent Up = false

unfoldable pub is_awaited : Channel → Bool
is_awaited Absent = false
is_awaited Awaited = true
is_awaited Up = false

unfoldable pub is_up : Channel → Bool
is_up Absent = false
is_up Awaited = false
is_up Up = true

unfoldable pub is_idle : State → Bool
is_idle Idle = true
is_idle Configured = false
is_idle Open = false
is_idle Streaming = false
is_idle Closing = false
is_idle Aborting = false

unfoldable pub is_reported : Delay → Bool
is_reported None = false
is_reported (Some d) = true

-- Configured endpoints have no channel, open ones have one or await it, streaming, closing and aborting ones have one.
unfoldable pub channel_right : State → Channel → Bool
channel_right Idle c = is_absent c
channel_right Configured c = is_absent c
channel_right Open c = not (is_absent c)
channel_right Streaming c = is_up c
channel_right Closing c = is_up c
channel_right Aborting c = is_up c

-- A delay can be reported to a source that is configured with category 8.
unfoldable pub takes_delay : Entry → Endpoint → Bool
takes_delay n e = is_source n.kind && has 8 (items e.config)

unfoldable pub delay_right : Entry → Endpoint → Bool
delay_right n e = not (is_reported e.head.delay) || takes_delay n e

unfoldable pub far_right : FarSeid → Bool
far_right s = between 1 62 s.0

-- what an endpoint keeps while idle, and while not
unfoldable pub keeps_nothing : Endpoint → Bool
keeps_nothing e = eqb e.head.far.0 0 && is_empty e.config && not (is_reported e.head.delay)

unfoldable pub keeps_settings : Entry → Endpoint → Bool
keeps_settings n e = far_right e.head.far && could_store (items n.caps) e.config && delay_right n e

unfoldable pub legal_end : Entry → Endpoint → Bool
legal_end n e =
    eqb e.head.seid.0 n.seid.0 && channel_right e.head.state e.head.channel
    && (if is_idle e.head.state then keeps_nothing e else keeps_settings n e)

-- one record per book entry, in the book's order
unfoldable pub legal_ends : Book → Ends → Bool
legal_ends [] [] = true
legal_ends [] (e ∷ ends) = false
legal_ends (n ∷ book) [] = false
legal_ends (n ∷ book) (e ∷ ends) = legal_end n e && legal_ends book ends

unfoldable pub awaiting : Ends → ℕ
awaiting [] = 0
awaiting (e ∷ ends) = (if is_awaited e.head.channel then 1 else 0) + awaiting ends

unfoldable pub legal_gathering : Option Gathering → Bool
legal_gathering none = true
legal_gathering (some g) = gathering_right g

unfoldable pub legal : Book → Connection → Bool
legal book c = legal_ends book c.ends && leb (awaiting c.ends) 1 && legal_gathering c.link.gathering

-- ---- Moves of one endpoint. Most are its head's, which the code makes too.

abbrev pub in_state : State → Head → Head
in_state s h = record { seid = h.seid; state = s; channel = h.channel; far = h.far; delay = h.delay }

abbrev pub with_channel : Channel → Head → Head
with_channel c h = record { seid = h.seid; state = h.state; channel = c; far = h.far; delay = h.delay }

abbrev pub with_delay : Delay → Head → Head
with_delay d h = record { seid = h.seid; state = h.state; channel = h.channel; far = h.far; delay = d }

-- open, and the channel is awaited
abbrev pub opened : Head → Head
opened h = with_channel Awaited (in_state Open h)

-- configured by a far SEID
abbrev pub settled_by : FarSeid → Head → Head
settled_by far h = record { seid = h.seid; state = Configured; channel = Absent; far = far; delay = None }

-- the head moved, the configuration as it was
unfoldable pub moved_by : (Head → Head) → Endpoint → Endpoint
moved_by move e = record { head = move e.head; config = e.config }

unfoldable pub with_config : List ℕ → Endpoint → Endpoint
with_config l e = record { head = e.head; config = l }

-- Reaching idle forgets configuration, far SEID and delay.
unfoldable pub forgotten : Endpoint → Endpoint
forgotten e = idle e.head.seid

-- Close and Abort: with a channel closing or aborting, without one idle.
unfoldable pub leaving : State → Endpoint → Endpoint
leaving s e = if is_up e.head.channel then moved_by (in_state s) e else forgotten e

-- the endpoint at a place of the book
unfoldable pub end_at : Ends → ℕ → Endpoint
end_at ends i = get_or ends i (idle (record { 0 = 0 }))

-- ---- Link events

-- What an event leads to: 0 or 10, and the connection from then on.
pub record Moved : Type 0 where
  pub number : ℕ
  pub connection : Connection

unfoldable pub up_in : Ends → Ends
up_in [] = []
up_in (e ∷ ends) = if is_awaited e.head.channel then moved_by (with_channel Up) e ∷ ends else e ∷ up_in ends

unfoldable pub with_ends : Ends → Connection → Connection
with_ends ends c = record { ends = ends; link = c.link }

unfoldable pub down_at : Found → Connection → Moved
down_at unknown c = record { number = 10; connection = c }
down_at (known i n) c =
    let e = end_at c.ends i in
    if is_up e.head.channel then record { number = 0; connection = with_ends (set c.ends i (forgotten e)) c }
    else record { number = 10; connection = c }

-- Channel up: the awaiting endpoint, else 10. Channel down for a SEID: to idle, else 10 if it has none. Link lost: all idle,
-- gathering ended.
unfoldable pub happens : Book → Connection → Event → Moved
happens book c Event.Up =
    if eqb (awaiting c.ends) 0 then record { number = 10; connection = c }
    else record { number = 0; connection = with_ends (up_in c.ends) c }
happens book c (Down s) = down_at (find s book) c
happens book c Lost = record { number = 0; connection = record { ends = map forgotten c.ends; link = fresh_link } }
