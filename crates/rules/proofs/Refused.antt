-- A refusal changes no area and no connection, and silence leaves the reply area alone: each call ends in one test of its number,
-- and the branch that answers has the number 0.
use Prim.Native.Nat.{ℕ}
use mathlib.Core.Path.{◌≡◌, refl, ap, ◌∙◌}
use mathlib.Core.List.{List, [], ◌∷◌}
use mathlib.Core.Bool.{Bool, true, false}
use mathlib.Core.Option.{Option, none, some}
use lib.ListN.{length}
use lib.Dec.{eqb, ltb}
use native.Mathlib.Omega.{arith}
use Rattle.rules.specs.Octets.{front}
use Rattle.std.specs.Prelude.{if◌then◌else◌}
use Rattle.rules.specs.Book.{Book, Found, unknown, known, book_number, book_of, find}
use Rattle.rules.specs.Packets.{Message, Gathering, gather}
use Rattle.rules.specs.Cutting.{packet_at}
use Rattle.rules.specs.Endpoints.{Ends, Connection, fresh_connection, happens, end_at}
use Rattle.rules.specs.Saved.{area_for, connection_in, store}
use Rattle.rules.specs.Commands.{Reply, silence, general_reject, accept, reject, answer}
use Rattle.rules.specs.Host.{number_or, nothing_said, said, told_of, payload_of, Handled, handled_by, takes, packet_refusal}
use Rattle.rules.specs.Host.{Answered, packet_call, Kept, fresh_call, event_call, Shown, shown_at, settings_call, heard, heard_at}
use Rattle.rules.specs.Host.{delay_call, refusal_of, Cut, cut_refusal, cut_call, standing_at, status_call, nowhere, standing}
use Rattle.rules.specs.Bursts.{packets_in, burst_refusal, none_told, BurstAnswered, burst_taken, burst_call}
use Rattle.rules.specs.declared.OurSeid.{OurSeid}
use Rattle.rules.specs.Delays.{Delay}
use Rattle.std.specs.Prelude.{None, Some}
use Rattle.rules.specs.declared.Event.{Event}
use Rattle.rules.specs.declared.Standing.{Standing}
use Rattle.rules.specs.declared.Heard.{Heard}
use borrow.Author.Tests.{eqb-true}
use Rattle.rules.proofs.Outcomes.{if_arms}

pub nothing_written : (area : List ℕ) → front [] area ≡ area
unfolding front
nothing_written [] = refl
nothing_written (x ∷ area) = refl

-- ---- fresh and event: the saved area

kept_back : (number : ℕ) (next saved : List ℕ)
    → let k : Kept = if eqb number 0 then record { number = 0; saved = next } else record { number = number; saved = saved } in
    (k.number ≡ 0 → ⊥) → k.saved ≡ saved
kept_back number next saved = by (eqb number 0)
  where
    by : (t : Bool)
        → let k : Kept = if t then record { number = 0; saved = next } else record { number = number; saved = saved } in
        (k.number ≡ 0 → ⊥) → k.saved ≡ saved
    by true h = absurd (h refl)
    by false h = refl

pub refused_fresh : (book saved : List ℕ) → ((fresh_call book saved).number ≡ 0 → ⊥) → (fresh_call book saved).saved ≡ saved
unfolding fresh_call
refused_fresh book saved =
    kept_back (number_or (book_number book) (if ltb (length saved) (area_for (length (book_of book))) then 12 else 0))
    (store (fresh_connection (book_of book)) saved) saved

pub refused_event : (book saved : List ℕ) (e : Event) → ((event_call book saved e).number ≡ 0 → ⊥)
    → (event_call book saved e).saved ≡ saved
unfolding event_call
refused_event book saved e =
    let m = happens (book_of book) (connection_in (length (book_of book)) saved) e in
    kept_back (number_or (refusal_of book saved) m.number) (store m.connection saved) saved

-- ---- packet: both areas, and nothing is told but the number

answer_number : (m : Message) (r : Reply) → (told_of m r).number ≡ 0
unfolding told_of nothing_said said
answer_number m silence = refl
answer_number m general_reject = refl
answer_number m (accept p) = refl
answer_number m (reject p) = refl

handled_number : (book : Book) (ends : Ends) (g : Option Gathering) (m : Option Message)
    → (handled_by book ends g m).told.number ≡ 0
unfolding handled_by nothing_said
handled_number book ends g none = refl
handled_number book ends g (some m) = answer_number m (answer book ends m).reply

pub takes_number : (book : Book) (size : ℕ) (c : Connection) (p : List ℕ) → (takes book size c p).told.number ≡ 0
unfolding takes
takes_number book size c p = handled_number book c.ends (gather size c.link.gathering p).gathering
    (gather size c.link.gathering p).done

packet_back : (number : ℕ) (t : Handled) (saved reply : List ℕ) → t.told.number ≡ 0
    → let a : Answered =
    if eqb number 0
    then record { told = t.told; saved = store t.connection saved; reply = front t.payload reply }
    else record { told = nothing_said number; saved = saved; reply = reply } in
    (a.told.number ≡ 0 → ⊥) → a ≡ record { told = nothing_said number; saved = saved; reply = reply }
packet_back number t saved reply z = by (eqb number 0)
  where
    by : (b : Bool)
        → let a : Answered =
        if b
        then record { told = t.told; saved = store t.connection saved; reply = front t.payload reply }
        else record { told = nothing_said number; saved = saved; reply = reply } in
        (a.told.number ≡ 0 → ⊥) → a ≡ record { told = nothing_said number; saved = saved; reply = reply }
    by true h = absurd (h z)
    by false h = refl

pub refused_packet : (book : List ℕ) (size : ℕ) (saved p reply : List ℕ)
    → ((packet_call book size saved p reply).told.number ≡ 0 → ⊥)
    → packet_call book size saved p reply
    ≡ record { told = nothing_said (packet_refusal book size saved reply); saved = saved; reply = reply }
unfolding packet_call
refused_packet book size saved p reply =
    packet_back (packet_refusal book size saved reply) (takes (book_of book) size (connection_in (length (book_of book)) saved) p)
    saved reply (takes_number (book_of book) size (connection_in (length (book_of book)) saved) p)

-- ---- burst: both areas, and nothing is told but the number

pub refused_burst : (book : List ℕ) (size : ℕ) (saved octets lengths reply : List ℕ)
    → ((burst_call book size saved octets lengths reply).burst.number ≡ 0 → ⊥)
    → burst_call book size saved octets lengths reply
    ≡ record { burst = none_told (burst_refusal book size saved lengths reply); saved = saved; reply = reply }
unfolding burst_call burst_taken
refused_burst book size saved octets lengths reply = by (eqb number 0)
  where
    number : ℕ
    number = burst_refusal book size saved lengths reply

    by : (t : Bool)
        → let a : BurstAnswered =
        if t then burst_taken book size saved (packets_in octets lengths) reply
        else record { burst = none_told number; saved = saved; reply = reply } in
        (a.burst.number ≡ 0 → ⊥) → a ≡ record { burst = none_told number; saved = saved; reply = reply }
    by true h = absurd (h refl)
    by false h = refl

-- and a burst that tells 0 was not refused
pub burst_taken_lem : (book : List ℕ) (size : ℕ) (saved octets lengths reply : List ℕ)
    → (burst_call book size saved octets lengths reply).burst.number ≡ 0 → burst_refusal book size saved lengths reply ≡ 0
unfolding burst_call none_told
burst_taken_lem book size saved octets lengths reply =
    if_arms (λ (a : BurstAnswered). a.burst.number ≡ 0 → burst_refusal book size saved lengths reply ≡ 0)
    (eqb (burst_refusal book size saved lengths reply) 0) _ _
    (λ t e. eqb-true (burst_refusal book size saved lengths reply) 0 t) (λ f e. e)

-- Silence: the number is 0 and no message type is told, and the reply area stays.
type_silent : (m : Message) (r : Reply) → (told_of m r).mtype ≡ 0 → payload_of r ≡ []
unfolding told_of payload_of nothing_said said
type_silent m silence e = refl
type_silent m general_reject e = refl
type_silent m (accept p) e = absurd (omega arith)
type_silent m (reject p) e = absurd (omega arith)

handled_silent : (book : Book) (ends : Ends) (g : Option Gathering) (m : Option Message)
    → (handled_by book ends g m).told.mtype ≡ 0 → (handled_by book ends g m).payload ≡ []
unfolding handled_by
handled_silent book ends g none e = refl
handled_silent book ends g (some m) e = type_silent m (answer book ends m).reply e

packet_silent : (number : ℕ) (t : Handled) (saved reply : List ℕ) → (t.told.mtype ≡ 0 → t.payload ≡ [])
    → let a : Answered =
    if eqb number 0
    then record { told = t.told; saved = store t.connection saved; reply = front t.payload reply }
    else record { told = nothing_said number; saved = saved; reply = reply } in
    a.told.mtype ≡ 0 → a.reply ≡ reply
packet_silent number t saved reply z = by (eqb number 0)
  where
    by : (b : Bool)
        → let a : Answered =
        if b
        then record { told = t.told; saved = store t.connection saved; reply = front t.payload reply }
        else record { told = nothing_said number; saved = saved; reply = reply } in
        a.told.mtype ≡ 0 → a.reply ≡ reply
    by true h = ap (λ (x : List ℕ). front x reply) (z h) ∙ nothing_written reply
    by false h = refl

pub silent_packet : (book : List ℕ) (size : ℕ) (saved p reply : List ℕ)
    → (packet_call book size saved p reply).told.mtype ≡ 0 → (packet_call book size saved p reply).reply ≡ reply
unfolding packet_call takes
silent_packet book size saved p reply =
    let c = connection_in (length (book_of book)) saved in
    packet_silent (packet_refusal book size saved reply) (takes (book_of book) size c p) saved reply
    (handled_silent (book_of book) c.ends (gather size c.link.gathering p).gathering
    (gather size c.link.gathering p).done)

-- ---- settings, delay and cut

none_shown : (f : Found) (ends : Ends) → ((shown_at f ends).number ≡ 0 → ⊥) → (shown_at f ends).part ≡ []
unfolding shown_at
none_shown unknown ends h = refl
none_shown (known i n) ends h = absurd (h refl)

pub refused_settings : (book saved : List ℕ) (s : OurSeid) → ((settings_call book saved s).number ≡ 0 → ⊥)
    → (settings_call book saved s).part ≡ []
unfolding settings_call
refused_settings book saved s = by (eqb (refusal_of book saved) 0)
  where
    shown : Shown
    shown = shown_at (find s (book_of book)) (connection_in (length (book_of book)) saved).ends

    by : (b : Bool)
        → let x : Shown = if b then shown else record { number = refusal_of book saved; part = [] } in
        (x.number ≡ 0 → ⊥) → x.part ≡ []
    by true h = none_shown (find s (book_of book)) (connection_in (length (book_of book)) saved).ends h
    by false h = refl

heard_number : (n : ℕ) (d : Delay) → (heard n d).number ≡ n
unfolding heard
heard_number n None = refl
heard_number n (Some d) = refl

none_heard : (f : Found) (ends : Ends) → ((heard_at f ends).number ≡ 0 → ⊥) → heard_at f ends
    ≡ heard (heard_at f ends).number None
unfolding heard_at heard
none_heard unknown ends h = refl
none_heard (known i n) ends h = absurd (h (heard_number 0 (end_at ends i).head.delay))

pub refused_delay : (book saved : List ℕ) (s : OurSeid) → ((delay_call book saved s).number ≡ 0 → ⊥)
    → delay_call book saved s ≡ heard (delay_call book saved s).number None
unfolding delay_call heard
refused_delay book saved s = by (eqb (refusal_of book saved) 0)
  where
    asked : Heard
    asked = heard_at (find s (book_of book)) (connection_in (length (book_of book)) saved).ends

    by : (b : Bool)
        → let x : Heard = if b then asked else heard (refusal_of book saved) None in
        (x.number ≡ 0 → ⊥) → x ≡ heard x.number None
    by true h = none_heard (find s (book_of book)) (connection_in (length (book_of book)) saved).ends h
    by false h = refl

none_stands : (f : Found) (ends : Ends) → ((standing_at f ends).number ≡ 0 → ⊥)
    → standing_at f ends ≡ nowhere (standing_at f ends).number
unfolding standing_at nowhere standing
none_stands unknown ends h = refl
none_stands (known i n) ends h = absurd (h refl)

pub refused_status : (book saved : List ℕ) (s : OurSeid) → ((status_call book saved s).number ≡ 0 → ⊥)
    → status_call book saved s ≡ nowhere (status_call book saved s).number
unfolding status_call nowhere standing
refused_status book saved s = by (eqb (refusal_of book saved) 0)
  where
    asked : Standing
    asked = standing_at (find s (book_of book)) (connection_in (length (book_of book)) saved).ends

    by : (b : Bool)
        → let x : Standing = if b then asked else nowhere (refusal_of book saved) in
        (x.number ≡ 0 → ⊥) → x ≡ nowhere x.number
    by true h = none_stands (find s (book_of book)) (connection_in (length (book_of book)) saved).ends h
    by false h = refl

pub refused_cut : (size : ℕ) (m : Message) (k : ℕ) (area : List ℕ) → ((cut_call size m k area).piece.number ≡ 0 → ⊥)
    → cut_call size m k area
    ≡ record { piece = record { number = (cut_call size m k area).piece.number; length = 0 }; area = area }
unfolding cut_call
refused_cut size m k area = by (eqb (cut_refusal size m k area) 0)
  where
    by : (b : Bool)
        → let x : Cut =
        if b
        then record {
          piece = record { number = 0; length = length (packet_at size m k) };
          area = front (packet_at size m k) area;
        }
        else record { piece = record { number = cut_refusal size m k area; length = 0 }; area = area } in
        (x.piece.number ≡ 0 → ⊥) → x ≡ record { piece = record { number = x.piece.number; length = 0 }; area = area }
    by true h = absurd (h refl)
    by false h = refl
