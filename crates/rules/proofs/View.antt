-- On a right book and a right area each call is a function of the connection that the area shows: of its refusals only 8, 13, 9
-- and 10 can be given, and what it stores is read back.
use Prim.Native.Nat.{ℕ, ◌≤◌, ◌*◌}
use mathlib.Core.Path.{◌≡◌, refl, sym, ap, ap₂, ◌∙◌, subst, subst₂}
use mathlib.Core.List.{List, [], ◌∷◌, ◌++◌, map}
use mathlib.Core.Bool.{true, false}
use lib.ListN.{length, take, drop, length-drop}
use lib.Seq.{length-take-le}
use lib.Dec.{ltb, eqb}
use native.Mathlib.Omega.{arith}
use borrow.Author.Tests.{le-ltb, ltb-false, eqb-true}
use Rattle.rules.proofs.Tests.{Told?, passed, failed, told as whether, clash, and_l, and_r}
use Rattle.rules.proofs.SavedReads.{reads_stored}
use Rattle.rules.proofs.Places.{legal_length}
use Rattle.rules.proofs.RightBook.{right_book}
use Rattle.rules.proofs.Outcomes.{if_arms}
use Rattle.rules.proofs.Bursts.{slots_fit, successive_first}
use Rattle.rules.proofs.Unrefused.{burst_given}
use Rattle.rules.proofs.StaysLegal.{legal_ends_lem, fresh_legal, takes_legal, happens_legal}
use Rattle.rules.proofs.SavedStaysRight.{legal_roomy, stored_right, right_long, right_legal}
use Rattle.rules.specs.Octets.{front}
use Rattle.rules.specs.Book.{Entry, Book, Found, unknown, known, find, book_number, book_of}
use Rattle.rules.specs.Packets.{size_right}
use Rattle.rules.specs.Endpoints.{Endpoint, Ends, Connection, idle, fresh_ends, fresh_connection, forgotten, is_up, end_at}
use Rattle.rules.specs.Endpoints.{legal_end, legal_ends, legal, awaiting, Moved, down_at, happens, fresh_link}
use Rattle.rules.specs.Saved.{area_for, connection_in, store, saved_right}
use Rattle.rules.specs.Host.{check_call, number_or, saved_number, refusal_of, packet_refusal, Kept, fresh_call, nothing_said}
use Rattle.rules.specs.Host.{takes, packet_call, event_call, shown_at, settings_call, heard_at, delay_call, status_call}
use Rattle.rules.specs.Host.{standing_at}
use Rattle.rules.specs.Bursts.{packets_in, slot, Successive, and_then, successive, burst_refusal, filled, none_told}
use Rattle.rules.specs.Bursts.{burst_taken, burst_call}
use Rattle.rules.specs.Sessions.{Call, check, fresh, packet, event, settings, delay, packets, cut, number, shown}
use Rattle.rules.specs.Sessions.{heard, Done, keeping, answered, asked, call, status, stands, burst, told_each}
use Rattle.rules.specs.Sessions.{answered_each}
use Rattle.rules.specs.Views.{packet_number, burst_number, Handed, takes_each, says, goes, View, Stepped}
use Rattle.rules.specs.Alike.{Begins, begun, lost}
use Rattle.rules.specs.declared.OurSeid.{OurSeid}
use Rattle.rules.specs.declared.Told.{Told}
use Rattle.rules.specs.declared.Event.{Event}
use Rattle.rules.specs.declared.Event.TheVariants.{Down, Lost}

-- an event that is refused changes nothing
down_refused : (f : Found) (c : Connection) → eqb (down_at f c).number 0 ≡ false → (down_at f c).connection ≡ c
unfolding down_at
down_refused unknown c = λ refused. refl
down_refused (known i n) c =
    if_arms (λ (m : Moved). eqb m.number 0 ≡ false → m.connection ≡ c) (is_up (end_at c.ends i).head.channel) _ _
    (λ up refused. clash refl refused) (λ down refused. refl)

happens_refused : (book : Book) (c : Connection) (v : Event) → eqb (happens book c v).number 0 ≡ false
    → (happens book c v).connection ≡ c
unfolding happens
happens_refused book c Event.Up =
    if_arms (λ (m : Moved). eqb m.number 0 ≡ false → m.connection ≡ c) (eqb (awaiting c.ends) 0) _ _
    (λ nobody refused. refl) (λ somebody refused. clash refl refused)
happens_refused book c (Down s) = down_refused (find s book) c
happens_refused book c Lost = λ refused. clash refl refused

-- ---- A right area, before and after a call

pub no_number : (size : ℕ) (reply : List ℕ) → size_right size ≡ true → 64 ≤ length reply → eqb (packet_number size reply) 0 ≡ true
unfolding packet_number
no_number size reply sized room = rw (sized, le-ltb (length reply) 64 room)

module _ (b : List ℕ) (ok : book_number b ≡ 0) where
  stored_view : (c : Connection) (s : List ℕ) → legal (book_of b) c ≡ true → area_for (length (book_of b)) ≤ length s
      → View b (store c s) c
  stored_view c s lawful long =
      record {
        right = stored_right (book_of b) c s (right_book b ok) long lawful;
        shows = rw (← legal_length (book_of b) c.ends (legal_ends_lem (book_of b) c lawful).every)
            (reads_stored c s (legal_roomy (book_of b) c s (right_book b ok) long lawful));
      }

  fresh_told : (s : List ℕ) → area_for (length (book_of b)) ≤ length s
      → fresh_call b s ≡ record { number = 0; saved = store (fresh_connection (book_of b)) s }
  unfolding fresh_call number_or
  fresh_told s long = rw (ok, le-ltb (length s) (area_for (length (book_of b))) long)

  module _ (s : List ℕ) (c : Connection) (v : View b s c) where
    long : area_for (length (book_of b)) ≤ length s
    long = right_long (book_of b) s v.right

    lawful : legal (book_of b) c ≡ true
    lawful = rw (← v.shows) (right_legal (book_of b) s v.right)

    no_refusal : refusal_of b s ≡ 0
    unfolding refusal_of number_or saved_number
    no_refusal = rw (ok, v.right)

    packet_refusal_lem : (size : ℕ) (reply : List ℕ) → packet_refusal b size s reply ≡ packet_number size reply
    unfolding packet_refusal packet_number number_or saved_number
    packet_refusal_lem size reply = rw (ok, v.right)

    step : (k : Call) (d : Done) → call b s k ≡ d → d.answer ≡ says (book_of b) c k → View b d.saved (goes (book_of b) c k)
        → Stepped b s c k
    step k d comes said next = record { answer = ap (λ (x : Done). x.answer) comes ∙ said; next = rw comes next }

    fresh_step : Stepped b s c fresh
    unfolding call keeping says goes
    fresh_step =
        step fresh (keeping (record { number = 0; saved = store (fresh_connection (book_of b)) s }))
        (ap keeping (fresh_told s long)) refl
        (stored_view (fresh_connection (book_of b)) s (fresh_legal (book_of b)) long)

    pub packet_comes : (size : ℕ) (p reply : List ℕ) → eqb (packet_number size reply) 0 ≡ true
        → let t = takes (book_of b) size c p in
        packet_call b size s p reply
        ≡ record { told = t.told; saved = store t.connection s; reply = front t.payload reply }
    unfolding packet_call
    packet_comes size p reply taken = rw (packet_refusal_lem size reply, taken, v.shows)

    packet_next : (size : ℕ) (p : List ℕ) → let t = takes (book_of b) size c p in View b (store t.connection s) t.connection
    packet_next size p =
        stored_view (takes (book_of b) size c p).connection s (takes_legal (book_of b) size c p lawful) long

    packet_step : (size : ℕ) (p reply : List ℕ) → Told? (eqb (packet_number size reply) 0) → Stepped b s c (packet size p reply)
    unfolding call answered says goes packet_call
    packet_step size p reply (passed taken) =
        let t = takes (book_of b) size c p in
        step (packet size p reply)
        (answered (record { told = t.told; saved = store t.connection s; reply = front t.payload reply }))
        (ap answered (packet_comes size p reply taken)) (rw taken) (rw taken (packet_next size p))
    packet_step size p reply (failed refused) =
        step (packet size p reply) (answered
        (record { told = nothing_said (packet_number size reply); saved = s; reply = reply }))
        (rw (packet_refusal_lem size reply, refused)) (rw refused) (rw refused v)

    burst_refusal_lem : (size : ℕ) (lengths reply : List ℕ)
        → burst_refusal b size s lengths reply ≡ burst_number size lengths reply
    unfolding burst_refusal burst_number number_or saved_number
    burst_refusal_lem size lengths reply = rw (ok, v.right)

    event_step : (e : Event) → Told? (eqb (happens (book_of b) c e).number 0) → Stepped b s c (event e)
    unfolding call keeping says goes event_call number_or
    event_step e (passed taken) =
        let m = happens (book_of b) c e in
        step (event e) (keeping (record { number = 0; saved = store m.connection s })) (rw (v.shows, no_refusal, taken))
        (ap number (sym (eqb-true m.number 0 taken)))
        (stored_view m.connection s (happens_legal (book_of b) c lawful e) long)
    event_step e (failed refused) =
        step (event e) (keeping (record { number = (happens (book_of b) c e).number; saved = s }))
        (rw (v.shows, no_refusal, refused))
        refl (rw (happens_refused (book_of b) c e refused) v)

    settings_step : (x : OurSeid) → Stepped b s c (settings x)
    unfolding call asked says goes settings_call
    settings_step x =
        step (settings x) (asked s (shown (shown_at (find x (book_of b)) c.ends))) (rw (no_refusal, v.shows)) refl v

    delay_step : (x : OurSeid) → Stepped b s c (delay x)
    unfolding call asked says goes delay_call
    delay_step x =
        step (delay x) (asked s (heard (heard_at (find x (book_of b)) c.ends))) (rw (no_refusal, v.shows)) refl v

    status_step : (x : OurSeid) → Stepped b s c (status x)
    unfolding call asked says goes status_call
    status_step x =
        step (status x) (asked s (stands (standing_at (find x (book_of b)) c.ends))) (rw (no_refusal, v.shows)) refl v

  -- the packets of a burst, one after the other
  record Handing (h : Handed) (a : Successive) : Type 0 where
    told : a.told ≡ h.told
    reply : a.reply ≡ h.reply
    next : View b a.saved h.connection

  handing : (size : ℕ) → size_right size ≡ true → (ps : List (List ℕ)) (reply s : List ℕ) (c : Connection) → View b s c
      → slot * length ps ≤ length reply
      → Handing (takes_each (book_of b) size c ps reply) (successive b size s ps reply)
  unfolding takes_each successive and_then
  handing size sized [] reply s c v room = record { told = refl; reply = refl; next = v }
  handing size sized (p ∷ ps) reply s c v room =
      let t = takes (book_of b) size c p in
      let whole = length-take-le slot reply (omega arith) in
      let comes = packet_comes s c v size p (take slot reply) (no_number size (take slot reply) sized (omega arith)) in
      let less = length-drop slot reply in
      let rest = handing size sized ps (drop slot reply) _ t.connection (packet_next s c v size p) (omega arith) in
      subst (Handing (takes_each (book_of b) size c (p ∷ ps) reply)) (sym (successive_first b size s p ps reply _ comes))
      (record {
        told = ap (λ (l : List Told). t.told ∷ l) rest.told;
        reply = ap (λ (l : List ℕ). front t.payload (take slot reply) ++ l) rest.reply;
        next = rest.next;
      })

  burst_step : (s : List ℕ) (c : Connection) → View b s c → (size : ℕ) (octets lengths reply : List ℕ)
      → Told? (eqb (burst_number size lengths reply) 0) → Stepped b s c (burst size octets lengths reply)
  unfolding call answered_each says goes burst_call burst_taken
  burst_step s c v size octets lengths reply (passed taken) =
      let ps = packets_in octets lengths in
      let unrefused = burst_refusal_lem s c v size lengths reply ∙ eqb-true (burst_number size lengths reply) 0 taken in
      let met = burst_given b size s lengths reply unrefused in
      let all = handing size met.sized ps reply s c v (slots_fit octets lengths reply met.few met.room) in
      step s c v (burst size octets lengths reply) (answered_each (burst_taken b size s ps reply))
      (rw (burst_refusal_lem s c v size lengths reply, taken))
      (rw taken (ap₂ (λ (l : List Told) (r : List ℕ). told_each (record { number = 0; told = filled l }) r) all.told
      all.reply))
      (rw taken all.next)
  burst_step s c v size octets lengths reply (failed refused) =
      let n = burst_number size lengths reply in
      step s c v (burst size octets lengths reply) (answered_each (record { burst = none_told n; saved = s; reply = reply }))
      (rw (burst_refusal_lem s c v size lengths reply, refused)) (rw refused) (rw refused v)

  pub view_step : (s : List ℕ) (c : Connection) → View b s c → (k : Call) → Stepped b s c k
  unfolding call asked says goes check_call
  view_step s c v check = record { answer = ap number ok; next = v }
  view_step s c v fresh = fresh_step s c v
  view_step s c v (packet size p reply) = packet_step s c v size p reply (whether (eqb (packet_number size reply) 0))
  view_step s c v (burst size octets lengths reply) =
      burst_step s c v size octets lengths reply (whether (eqb (burst_number size lengths reply) 0))
  view_step s c v (event e) = event_step s c v e (whether (eqb (happens (book_of b) c e).number 0))
  view_step s c v (settings x) = settings_step s c v x
  view_step s c v (delay x) = delay_step s c v x
  view_step s c v (status x) = status_step s c v x
  view_step s c v (packets size n) = record { answer = refl; next = v }
  view_step s c v (cut size m k area) = record { answer = refl; next = v }

-- ---- Where a bridge begins: fresh or just lost, the area shows the fresh connection

forgotten_fresh : (n : Entry) (e : Endpoint) → legal_end n e ≡ true → forgotten e ≡ idle n.seid
unfolding forgotten legal_end
forgotten_fresh n e lawful =
    let same : e.head.seid.0 ≡ n.seid.0 = eqb-true e.head.seid.0 n.seid.0 (search (and_l, and_r)) in
    λ i. idle (record { 0 = same i })

lost_fresh : (book : Book) (ends : Ends) → legal_ends book ends ≡ true → map forgotten ends ≡ fresh_ends book
unfolding legal_ends fresh_ends
lost_fresh [] [] lawful = refl
lost_fresh [] (e ∷ ends) lawful = clash refl (sym lawful)
lost_fresh (n ∷ book) [] lawful = clash refl (sym lawful)
lost_fresh (n ∷ book) (e ∷ ends) lawful =
    ap₂ ◌∷◌ (forgotten_fresh n e (and_l (legal_end n e) (legal_ends book ends) lawful))
    (lost_fresh book ends (and_r (legal_end n e) (legal_ends book ends) lawful))

all_lost : (book : Book) (c : Connection) → legal book c ≡ true → (happens book c Lost).connection ≡ fresh_connection book
unfolding happens fresh_connection
all_lost book c lawful =
    ap (λ (l : Ends). record { ends = l; link = fresh_link }) (lost_fresh book c.ends (legal_ends_lem book c lawful).every)

-- neither call was refused with 12
begun_long : (b area s : List ℕ) → book_number b ≡ 0 → fresh_call b area ≡ record { number = 0; saved = s }
    → Told? (ltb (length area) (area_for (length (book_of b)))) → area_for (length (book_of b)) ≤ length area
unfolding fresh_call number_or
begun_long b area s ok e (failed enough) = ltb-false (length area) (area_for (length (book_of b))) enough
begun_long b area s ok e (passed short) =
    let refused : (fresh_call b area).number ≡ 12 = rw (ok, short) in
    let twelve : ◌≡◌ {A = ℕ} 12 0 = sym refused ∙ ap (λ (k : Kept). k.number) e in
    absurd (omega arith)

lost_right : (b area s : List ℕ) → book_number b ≡ 0 → event_call b area Lost ≡ record { number = 0; saved = s }
    → Told? (saved_right (book_of b) area) → saved_right (book_of b) area ≡ true
unfolding event_call refusal_of number_or saved_number
lost_right b area s ok e (passed right) = right
lost_right b area s ok e (failed wrong) =
    let refused : (event_call b area Lost).number ≡ 12 = rw (ok, wrong) in
    let twelve : ◌≡◌ {A = ℕ} 12 0 = sym refused ∙ ap (λ (k : Kept). k.number) e in
    absurd (omega arith)

pub begins_view : (b s : List ℕ) → book_number b ≡ 0 → Begins b s → View b s (fresh_connection (book_of b))
unfolding call keeping goes
begins_view b s ok (begun area e) =
    let enough = begun_long b area s ok e (whether (ltb (length area) (area_for (length (book_of b))))) in
    subst (λ (x : List ℕ). View b x (fresh_connection (book_of b)))
    (ap (λ (k : Kept). k.saved) (sym (fresh_told b ok area enough) ∙ e))
    (stored_view b ok (fresh_connection (book_of b)) area (fresh_legal (book_of b)) enough)
begins_view b s ok (lost area e) =
    let right = lost_right b area s ok e (whether (saved_right (book_of b) area)) in
    let past = connection_in (length (book_of b)) area in
    subst₂ (View b) (ap (λ (k : Kept). k.saved) e) (all_lost (book_of b) past (right_legal (book_of b) area right))
    (view_step b ok area past (record { right = right; shows = refl }) (event Lost)).next
