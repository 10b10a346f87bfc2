-- What the rules' theorems say of sequences holds of every host: the contract of `step` fixes each answer and each area as the
-- step of a sequence has them, so by induction a host's answers and areas are those of the definitions, and what is proved of
-- these is carried over.
use Prim.Native.Nat.{ℕ}
use mathlib.Core.Path.{◌≡◌, refl, sym, ap, ◌∙◌, subst, subst₂}
use mathlib.Core.List.{List, [], ◌∷◌, map}
use mathlib.Core.Bool.{true, false}
use mathlib.Core.Option.{none, some}
use lib.ListN.{length}
use Rattle.rules.specs.Octets.{is_empty}
use Rattle.rules.specs.Book.{book_number, book_of}
use Rattle.rules.specs.Packets.{Message, gather}
use Rattle.rules.specs.Endpoints.{end_at, idle}
use Rattle.rules.specs.Saved.{connection_in, saved_right}
use Rattle.rules.specs.Host.{Kept, nothing_said, Answered, packet_call}
use Rattle.rules.specs.Sessions
use Rattle.rules.specs.Sessions.{check, fresh, packet, event, settings, delay, packets, cut, number, told, shown, heard, counted}
use Rattle.rules.specs.Sessions.{cut_off, Done, keeping, answered, call, answers, after, stands, status, burst, told_each}
use Rattle.rules.specs.Sessions.{answered_each}
use Rattle.rules.specs.Bursts.{packets_in, none_told, BurstAnswered, burst_call}
use Rattle.rules.specs.Listed.{EachListed}
use Rattle.rules.specs.Moves.{shifts, shifts_in, StoppedSeen}
use Rattle.rules.specs.Alike.{alike, restrained, Begins, begun, lost, cleared, compared}
use Rattle.rules.specs.declared.State.TheVariants.{Idle}
use Rattle.rules.specs.declared.Event.TheVariants.{Lost}
use Rattle.rules.specs.declared.Told.{Told}
use Rattle.rules.specs.declared.Burst.{Burst}
use Rattle.rules.specs.OneByOne.{packet_calls, slot_answers}
use Rattle.rules.proofs.LentAreas.{front_read}
use Rattle.rules.proofs.SavedStaysRight.{always_legal}
use Rattle.rules.proofs.Never12.{none_answers_12}
use Rattle.rules.proofs.View.{begins_view}
use Rattle.rules.proofs.EveryAnswer.{all_answers}
use Rattle.rules.proofs.Seen.{idle_after, packet_unmoved}
use Rattle.rules.proofs.StoppedSeen.{packet_stopped}
use Rattle.rules.proofs.Quiet.{quiet}
use Rattle.rules.proofs.Refused.{burst_taken_lem}
use Rattle.rules.proofs.OneByOne.{one_by_one}
use Rattle.bridge_step.specs.declared.Call.TheVariants as Call
use Rattle.bridge_step.specs.declared.Answer.{Answer}
use Rattle.bridge_step.specs.Steps.{call_by, answer_in, area_after, room_after, Exit, exit_of, Steps}
use Rattle.bridge_step.specs.Hosts.{Asked, call_of, asked_of, read_by, Runs, ended, goes, Defined, Legal, Indistinct}
use Rattle.bridge_step.specs.Hosts.{BurstRuns}

-- ---- One step

-- what the host reads of a step is what the definitions answer
answer_read : (a : Sessions.Answer) (area room : List ℕ)
    → read_by (answer_in a) (area_after a area) (room_after a room) ≡ a
unfolding read_by answer_in area_after room_after
answer_read (number n) area room = refl
answer_read (told t reply) area room = refl
answer_read (told_each b reply) area room = refl
answer_read (shown s) area room =
    ap (λ (l : List ℕ). shown (record { number = s.number; part = l })) (front_read s.part room)
answer_read (heard h) area room = refl
answer_read (stands t) area room = refl
answer_read (counted n) area room = refl
answer_read (cut_off c) area room = refl

pub made : (book saved : List ℕ) (k : Asked) (a : Answer) (next area' room' : List ℕ)
    → Steps book saved k.call k.input k.lengths k.area k.room a next area' room'
    → ◌≡◌ {A = Done} (record { answer = read_by a area' room'; saved = next }) (call book saved (call_of k))
unfolding call_of exit_of
made book saved k a next area' room' e =
    let d = call book saved (call_of k) in
    ap (λ (x : Exit). record { answer = read_by x.answer x.area x.room; saved = x.saved }) e
    ∙ ap (λ (x : Sessions.Answer). record { answer = x; saved = d.saved }) (answer_read d.answer k.area k.room)

-- every call of a sequence is a step
pub any_call : (room : List ℕ) (c : Sessions.Call) → call_of (asked_of room c) ≡ c
unfolding call_of asked_of call_by
any_call room check = refl
any_call room fresh = refl
any_call room (packet size p reply) = refl
any_call room (burst size octets lengths reply) = refl
any_call room (event e) = refl
any_call room (settings s) = refl
any_call room (delay s) = refl
any_call room (status s) = refl
any_call room (packets size n) = refl
any_call room (cut size m k area) = refl

-- two answers that both meet the contract, with the lent areas at exit, are equal
pub step_unique : (book saved : List ℕ) (k : Asked) {a b : Answer} {s t area area' room room' : List ℕ}
    → Steps book saved k.call k.input k.lengths k.area k.room a s area room
    → Steps book saved k.call k.input k.lengths k.area k.room b t area' room'
    → (a ≡ b) × (s ≡ t) × (area ≡ area') × (room ≡ room')
step_unique book saved k p q =
    let e = p ∙ sym q in (
      ap (λ (x : Exit). x.answer) e,
      ap (λ (x : Exit). x.saved) e,
      ap (λ (x : Exit). x.area) e,
      ap (λ (x : Exit). x.room) e,
    )

-- ---- Every host gets, step by step, the definitions' answers and areas

pub defined : (book saved : List ℕ) (asks : List Asked) (said : List Sessions.Answer) (last : List ℕ)
    → Runs book saved asks said last → Defined book saved (map call_of asks) said last
unfolding answers after
defined book saved _ _ _ (ended _) = record { told = refl; left = refl }
defined book saved _ _ _ (goes _ k a next area' room' more said last step rest) =
    let e = made book saved k a next area' room' step in
    let d = defined book next more said last rest in
    let there = ap (λ (x : Done). x.saved) e in
    record {
      told =
          (λ i. (e i).answer ∷ d.told i)
          ∙ ap (λ (s : List ℕ). (call book saved (call_of k)).answer ∷ answers book s (map call_of more)) there;
      left = d.left ∙ ap (λ (s : List ℕ). after book s (map call_of more)) there;
    }

-- ---- Where a host begins: a step that begins anew, or that takes the loss of the link, and is answered with 0

number_by : Answer → ℕ
number_by (Answer.Number n) = n
number_by (Answer.Told t) = 0
number_by (Answer.Burst b) = b.number
number_by (Answer.Shown n size) = 0
number_by (Answer.Heard h) = 0
number_by (Answer.Stands t) = 0
number_by (Answer.Counted n) = 0
number_by (Answer.CutOff piece) = 0

kept_in : Exit → Kept
kept_in x = record { number = number_by x.answer; saved = x.saved }

pub fresh_begins : (book past input lengths area room : List ℕ) (s area' room' : List ℕ)
    → Steps book past Call.Fresh input lengths area room (Answer.Number 0) s area' room'
    → Begins book s
unfolding exit_of call_by call keeping answer_in kept_in number_by
fresh_begins book past input lengths area room s area' room' e = begun past (sym (ap kept_in e))

pub lost_begins : (book past input lengths area room : List ℕ) (s area' room' : List ℕ)
    → Steps book past (Call.Event Lost) input lengths area room (Answer.Number 0) s area' room'
    → Begins book s
unfolding exit_of call_by call keeping answer_in kept_in number_by
lost_begins book past input lengths area room s area' room' e = lost past (sym (ap kept_in e))

-- a right area is left
pub begins_right : (book s : List ℕ) → book_number book ≡ 0 → Begins book s → saved_right (book_of book) s ≡ true
begins_right book s ok begins = (begins_view book s ok begins).right

-- ---- Demand 1 of what runs: every answer of every host is a reply, silence, or a number of the list

pub hosts_answered : (book saved : List ℕ) (asks : List Asked) (said : List Sessions.Answer) (last : List ℕ)
    → Runs book saved asks said last → EachListed saved (map call_of asks) said
hosts_answered book saved asks said last runs =
    rw (defined book saved asks said last runs).told (all_answers book saved (map call_of asks))

-- ---- Demand 2 of what runs

-- A host that begins with a right area keeps one, and is never told 12.
pub hosts_legal : (book saved : List ℕ) (asks : List Asked) (said : List Sessions.Answer) (last : List ℕ) → book_number book ≡ 0
    → saved_right (book_of book) saved ≡ true → Runs book saved asks said last → Legal book said last
hosts_legal book saved asks said last ok right runs =
    let d = defined book saved asks said last runs in
    record {
      right = rw d.left (always_legal book saved ok right (map call_of asks));
      none12 = rw d.told (none_answers_12 book saved ok right (map call_of asks));
    }

-- What it has made idle has no configuration, no far SEID, no delay and no channel.
pub hosts_idle : (book saved : List ℕ) (asks : List Asked) (said : List Sessions.Answer) (last : List ℕ) → book_number book ≡ 0
    → saved_right (book_of book) saved ≡ true → Runs book saved asks said last → (i : ℕ)
    → let e = end_at (connection_in (length (book_of book)) last).ends i in
    e.head.state ≡ Idle → e ≡ idle e.head.seid
hosts_idle book saved asks said last ok right runs i =
    rw (defined book saved asks said last runs).left (idle_after book saved ok right (map call_of asks) i)

-- what is told of a packet, and the areas that a step left
told_in : Sessions.Answer → Told
told_in (number n) = nothing_said 0
told_in (told t reply) = t
told_in (told_each b reply) = nothing_said 0
told_in (shown s) = nothing_said 0
told_in (heard h) = nothing_said 0
told_in (stands t) = nothing_said 0
told_in (counted n) = nothing_said 0
told_in (cut_off c) = nothing_said 0

packet_made : (book saved p lengths reply room : List ℕ) (size : ℕ) (t : Told) (next reply' room' : List ℕ)
    → Steps book saved (Call.Packet size) p lengths reply room (Answer.Told t) next reply' room'
    → ◌≡◌ {A = Answered} (record { told = t; saved = next; reply = reply' }) (packet_call book size saved p reply)
unfolding exit_of call_by call answered answer_in area_after read_by told_in
packet_made book saved p lengths reply room size t next reply' room' e =
    ap (λ (x : Exit). record { told = told_in (read_by x.answer [] []); saved = x.saved; reply = x.area }) e

-- A packet that completes no Start and no Suspend and is not answered with an accept moves no endpoint.
pub hosts_unmoved : (book saved : List ℕ) (asks : List Asked) (said : List Sessions.Answer) (last : List ℕ) → book_number book ≡ 0
    → saved_right (book_of book) saved ≡ true → Runs book saved asks said last
    → (size : ℕ) (p lengths reply room : List ℕ) (t : Told) (next reply' room' : List ℕ)
    → Steps book last (Call.Packet size) p lengths reply room (Answer.Told t) next reply' room'
    → shifts_in (gather size (connection_in (length (book_of book)) last).link.gathering p).done ≡ false → (t.mtype ≡ 2 → ⊥)
    → (connection_in (length (book_of book)) next).ends ≡ (connection_in (length (book_of book)) last).ends
hosts_unmoved book saved asks said last ok right runs size p lengths reply room t next reply' room' step other refused =
    let legal = (hosts_legal book saved asks said last ok right runs).right in
    let e = packet_made book last p lengths reply room size t next reply' room' step in
    ap (λ (a : Answered). (connection_in (length (book_of book)) a.saved).ends) e
    ∙ packet_unmoved book size last p reply ok legal other (λ k. refused (ap (λ (a : Answered). a.told.mtype) e ∙ k))

-- A Start or a Suspend that a packet completes after any run and that is answered with a reject has moved exactly the endpoints
-- listed before the one that failed, and the reply names it.
pub hosts_stopped : (book saved : List ℕ) (asks : List Asked) (said : List Sessions.Answer) (last : List ℕ) → book_number book ≡ 0
    → saved_right (book_of book) saved ≡ true → Runs book saved asks said last
    → (size : ℕ) (p lengths reply room : List ℕ) (t : Told) (next reply' room' : List ℕ)
    → Steps book last (Call.Packet size) p lengths reply room (Answer.Told t) next reply' room'
    → (m : Message) → (gather size (connection_in (length (book_of book)) last).link.gathering p).done ≡ some m → shifts m ≡ true
    → is_empty m.payload ≡ false → t.mtype ≡ 3
    → StoppedSeen (book_of book) (connection_in (length (book_of book)) last).ends reply m
    (record { told = t; saved = next; reply = reply' })
hosts_stopped book saved asks said last ok right runs size p lengths reply room t next reply' room' step m done shift lists
    rejected =
    let legal = (hosts_legal book saved asks said last ok right runs).right in
    let e = packet_made book last p lengths reply room size t next reply' room' step in
    subst (StoppedSeen (book_of book) (connection_in (length (book_of book)) last).ends reply m) (sym e)
    (packet_stopped book size last p reply ok legal m done shift lists
    (sym (ap (λ (a : Answered). a.told.mtype) e) ∙ rejected))

-- ---- Demand 3 of what runs

-- Two hosts over books that differ only in which endpoints offer delay reporting, each fresh or just lost, that make the same
-- calls, with any areas of the same lengths, for a far end that never uses it, get the same answers and the same connection,
-- and no endpoint shows a reported delay.
pub hosts_quiet : (b b' s s' : List ℕ) (asks asks' : List Asked) (said said' : List Sessions.Answer) (last last' : List ℕ)
    → book_number b ≡ 0 → book_number b' ≡ 0 → alike (book_of b) (book_of b') ≡ true → Begins b s → Begins b' s'
    → map cleared (map call_of asks) ≡ map cleared (map call_of asks') → restrained none (map call_of asks) ≡ true
    → Runs b s asks said last → Runs b' s' asks' said' last' → Indistinct b b' said said' last last'
hosts_quiet b b' s s' asks asks' said said' last last' ok ok' same begins begins' lent r runs runs' =
    let d = defined b s asks said last runs in
    let d' = defined b' s' asks' said' last' runs' in
    let q = quiet b b' s s' (map call_of asks) (map call_of asks') ok ok' same begins begins' lent r in
    record {
      answers = ap (map compared) d.told ∙ q.answers ∙ sym (ap (map compared) d'.told);
      connections =
          ap (connection_in (length (book_of b))) d.left
          ∙ q.connections
          ∙ sym (ap (connection_in (length (book_of b'))) d'.left);
      unreported = rw d.left q.unreported;
    }

-- ---- What these theorems ask can be met: for every row of calls there is a run

any_step : (book saved room : List ℕ) (c : Sessions.Call)
    → let k = asked_of room c in
    let x = exit_of (call book saved c) k.area room in
    Steps book saved k.call k.input k.lengths k.area k.room x.answer x.saved x.area x.room
unfolding asked_of call_by
any_step book saved room check = refl
any_step book saved room fresh = refl
any_step book saved room (packet size p reply) = refl
any_step book saved room (burst size octets lengths reply) = refl
any_step book saved room (event e) = refl
any_step book saved room (settings s) = refl
any_step book saved room (delay s) = refl
any_step book saved room (status s) = refl
any_step book saved room (packets size n) = refl
any_step book saved room (cut size m k area) = refl

pub runs_any : (book saved room : List ℕ) (calls : List Sessions.Call)
    → Runs book saved (map (asked_of room) calls) (answers book saved calls) (after book saved calls)
unfolding answers after exit_of
runs_any book saved room [] = ended saved
runs_any book saved room (c ∷ calls) =
    let d = call book saved c in
    let x = exit_of d (asked_of room c).area room in
    subst
    (λ (a : Sessions.Answer).
    Runs book saved (asked_of room c ∷ map (asked_of room) calls) (a ∷ answers book d.saved calls)
    (after book d.saved calls))
    (answer_read d.answer (asked_of room c).area room)
    (goes saved (asked_of room c) x.answer d.saved x.area x.room (map (asked_of room) calls) _ _
    (any_step book saved room c) (runs_any book d.saved room calls))

-- ---- Bursts of what runs

burst_by : Answer → Burst
burst_by (Answer.Number n) = none_told 0
burst_by (Answer.Told t) = none_told 0
burst_by (Answer.Burst b) = b
burst_by (Answer.Shown n size) = none_told 0
burst_by (Answer.Heard h) = none_told 0
burst_by (Answer.Stands t) = none_told 0
burst_by (Answer.Counted n) = none_told 0
burst_by (Answer.CutOff piece) = none_told 0

burst_in : Exit → BurstAnswered
burst_in x = record { burst = burst_by x.answer; saved = x.saved; reply = x.area }

-- A burst that is not refused runs as its packets do, one by one: a host whose steps are its packets, each on its own 64 octets,
-- gets the same answers in the same order and the same saved area, so that what is proved of a packet holds of every packet of
-- every burst.
pub hosts_burst : (book saved octets lengths reply room : List ℕ) (size : ℕ) (each : List Told) (next reply' room' : List ℕ)
    → Steps book saved (Call.Burst size) octets lengths reply room (Answer.Burst (record { number = 0; told = each })) next reply'
    room'
    → BurstRuns book saved size (packets_in octets lengths) reply room each next reply'
unfolding exit_of call_by call answered_each answer_in area_after burst_in burst_by
hosts_burst book saved octets lengths reply room size each next reply' room' e =
    let b = burst_call book size saved octets lengths reply in
    let came : record { burst = record { number = 0; told = each }; saved = next; reply = reply' } ≡ b = ap burst_in e in
    let one = one_by_one book size saved octets lengths reply
    (burst_taken_lem book size saved octets lengths reply (sym (ap (λ (a : BurstAnswered). a.burst.number) came))) in
    let calls = packet_calls size (packets_in octets lengths) reply in
    record {
      told = one.each;
      all = ap (λ (a : BurstAnswered). a.burst.told) came ∙ ap (λ (x : Burst). x.told) one.told;
      runs =
          subst₂ (Runs book saved (map (asked_of room) calls))
          (one.answers ∙ ap (slot_answers one.each) (sym (ap (λ (a : BurstAnswered). a.reply) came)))
          (one.saved' ∙ sym (ap (λ (a : BurstAnswered). a.saved) came))
          (runs_any book saved room calls);
    }
