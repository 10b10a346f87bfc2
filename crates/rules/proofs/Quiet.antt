-- Demand 3: both areas begin with the same fresh connection and go on to show one and the same connection, whose endpoints are
-- quiet, so each call is answered alike; and what a lent area holds makes no difference to what is compared.
use Prim.Native.Nat.{ℕ}
use mathlib.Core.Path.{◌≡◌, refl, sym, ap, ap₂, ◌∙◌}
use mathlib.Core.List.{List, [], ◌∷◌, ◌++◌, map}
use mathlib.Core.Bool.{Bool, true, false, not, ◌&&◌}
use mathlib.Core.Option.{Option, none, some}
use lib.ListN.{length, take, drop}
use lib.Dec.{leb, ltb, eqb}
use borrow.Author.Tests.{ltb-true, ltb-false, lt-leb, le-leb}
use Rattle.rules.proofs.Tests.{Told?, passed, failed, told, and_l, and_r, not_passed}
use Rattle.rules.proofs.Outcomes.{if_arms}
use Rattle.rules.proofs.AlikeStep.{alike_shown, AlikeBooks, alike_books, fresh_same, FoundAlike, both_unknown, both_known}
use Rattle.rules.proofs.AlikeStep.{find_alike, answer_same, happens_same}
use Rattle.rules.proofs.QuietStep.{quiet_ends, quiet_unreported, fresh_quiet, answer_quiet, happens_quiet}
use Rattle.rules.proofs.View.{view_step, begins_view}
use Rattle.rules.proofs.LentAreas.{answers_cleared, after_cleared, restrained_cleared}
use Rattle.rules.specs.Octets.{is_empty, each_of, front}
use Rattle.std.specs.Prelude.{if◌then◌else◌}
use Rattle.rules.specs.Elements.{items}
use Rattle.rules.specs.Book.{Entry, Book, Found, unknown, known, find, book_number, book_of, written, up_to_codec, shown_by_02}
use Rattle.rules.specs.Packets.{Message, Gathering, size_right, gather}
use Rattle.rules.specs.Gathered.{Gathered, with_done, gather_all}
use Rattle.rules.specs.Endpoints.{Ends, Connection, fresh_connection, is_up, end_at, awaiting, with_ends, Moved, down_at}
use Rattle.rules.specs.Endpoints.{happens}
use Rattle.rules.specs.Saved.{connection_in}
use Rattle.rules.specs.Host.{Handled, handled_by, takes, settings_of, shown_at, heard_at, standing_at}
use Rattle.rules.specs.Bursts.{packets_in, slot, most_packets, burst_room}
use Rattle.rules.specs.Sessions
use Rattle.rules.specs.Sessions.{Call, check, fresh, packet, event, settings, delay, packets, cut, number, shown, heard}
use Rattle.rules.specs.Sessions.{call, after, status, stands, burst}
use Rattle.rules.specs.Views.{packet_number, burst_number, Handed, takes_each, says, goes, View, Stepped}
use Rattle.rules.specs.Alike.{alike_entry, alike, uses_delay, uses_in, after_event, restrained, Begins, cleared, compared}
use Rattle.rules.specs.Alike.{Alike}
use Rattle.rules.specs.declared.Event.{Event}
use Rattle.rules.specs.declared.Event.TheVariants.{Down, Lost}
use Rattle.rules.specs.declared.Standing.{Standing}
use Rattle.rules.specs.declared.Heard.{Heard}

-- ---- One packet

handled_same : {book book' : Book} (ends : Ends) (g : Option Gathering) (m : Option Message) → AlikeBooks book book'
    → uses_in m ≡ false → handled_by book ends g m ≡ handled_by book' ends g m
unfolding handled_by uses_in
handled_same ends g none same unused = refl
handled_same ends g (some m) same unused = rw (answer_same ends m same unused)

handled_quiet : (book : Book) (ends : Ends) (g : Option Gathering) (m : Option Message) → quiet_ends ends ≡ true
    → uses_in m ≡ false → quiet_ends (handled_by book ends g m).connection.ends ≡ true
unfolding handled_by uses_in
handled_quiet book ends g none q unused = q
handled_quiet book ends g (some m) q unused = answer_quiet book ends m q unused

handled_gathering : (book : Book) (ends : Ends) (g : Option Gathering) (m : Option Message)
    → (handled_by book ends g m).connection.link.gathering ≡ g
unfolding handled_by
handled_gathering book ends g none = refl
handled_gathering book ends g (some m) = refl

-- a packet is taken where it is refused with neither 8 nor 9
packet_taken : (size : ℕ) (reply : List ℕ) → eqb (packet_number size reply) 0 ≡ (size_right size && leb 64 (length reply))
unfolding packet_number
packet_taken size reply = go (size_right size) (told (ltb (length reply) 64))
  where
    go : (right : Bool) → Told? (ltb (length reply) 64)
        → eqb (if not right then 8 else if ltb (length reply) 64 then 9 else 0) 0 ≡ (right && leb 64 (length reply))
    go false t = refl
    go true (passed few) = rw (few, lt-leb 64 (length reply) (ltb-true (length reply) 64 few))
    go true (failed enough) = rw (enough, le-leb 64 (length reply) (ltb-false (length reply) 64 enough))

-- ---- The packets of a burst

-- a burst is taken where it is refused with none of 8, 13 and 9
burst_taken_lem : (size : ℕ) (lengths reply : List ℕ)
    → eqb (burst_number size lengths reply) 0
    ≡ (size_right size && leb (length lengths) most_packets && leb burst_room (length reply))
unfolding burst_number
burst_taken_lem size lengths reply =
    go (size_right size) (told (ltb most_packets (length lengths))) (told (ltb (length reply) burst_room))
  where
    go : (right : Bool) → Told? (ltb most_packets (length lengths)) → Told? (ltb (length reply) burst_room)
        → eqb
        (if not right then 8
        else if ltb most_packets (length lengths) then 13
        else if ltb (length reply) burst_room then 9
        else 0)
        0
        ≡ (right && leb (length lengths) most_packets && leb burst_room (length reply))
    go false many short = refl
    go true (passed many) short =
        rw (many, lt-leb (length lengths) most_packets (ltb-true most_packets (length lengths) many))
    go true (failed few) (passed short) =
        rw (
          few,
          short,
          le-leb (length lengths) most_packets (ltb-false most_packets (length lengths) few),
          lt-leb burst_room (length reply) (ltb-true (length reply) burst_room short),
        )
    go true (failed few) (failed enough) =
        rw (
          few,
          enough,
          le-leb (length lengths) most_packets (ltb-false most_packets (length lengths) few),
          le-leb burst_room (length reply) (ltb-false (length reply) burst_room enough),
        )

abbrev Heeding : List Message → Type 0
Heeding messages = each_of (λ (m : Message). not (uses_delay m)) messages ≡ true

-- neither the message that a packet completed nor one of those completed after it uses delay reporting
done_heeding : (done : Option Message) (after : Gathered) → Heeding (with_done done after).messages
    → (uses_in done ≡ false) × Heeding after.messages
unfolding with_done uses_in each_of
done_heeding none after e = (refl, e)
done_heeding (some m) after e =
    (not_passed (uses_delay m) (and_l (not (uses_delay m)) _ e), and_r (not (uses_delay m)) _ e)

gathering_of : (done : Option Message) (after : Gathered) → (with_done done after).gathering ≡ after.gathering
unfolding with_done
gathering_of none after = refl
gathering_of (some m) after = refl

record EachPaced (book book' : Book) (size : ℕ) (c : Connection) (ps : List (List ℕ)) (reply : List ℕ) : Type 0 where
  handed : takes_each book size c ps reply ≡ takes_each book' size c ps reply
  still : quiet_ends (takes_each book size c ps reply).connection.ends ≡ true
  left : (takes_each book size c ps reply).connection.link.gathering ≡ (gather_all size c.link.gathering ps).gathering

module _ {book book' : Book} (same : AlikeBooks book book') (size : ℕ) where
  each_paced : (ps : List (List ℕ)) (c : Connection) (reply : List ℕ) → quiet_ends c.ends ≡ true
      → Heeding (gather_all size c.link.gathering ps).messages → EachPaced book book' size c ps reply
  unfolding takes_each gather_all takes
  each_paced [] c reply q heeds = record { handed = refl; still = q; left = refl }
  each_paced (p ∷ ps) c reply q heeds =
      let s = gather size c.link.gathering p in
      let t = handled_by book c.ends s.gathering s.done in
      let behind = gather_all size s.gathering ps in
      let both = done_heeding s.done behind heeds in
      let gathers = handled_gathering book c.ends s.gathering s.done in
      let rest =
      each_paced ps t.connection (drop slot reply)
      (handled_quiet book c.ends s.gathering s.done q both.0) (rw gathers both.1) in
      record {
        handed =
            ap (λ (h : Handed).
            record {
              told = t.told ∷ h.told;
              reply = front t.payload (take slot reply) ++ h.reply;
              connection = h.connection;
            })
            rest.handed
            ∙ ap (λ (x : Handled).
            let h = takes_each book' size x.connection ps (drop slot reply) in
            record {
              told = x.told ∷ h.told;
              reply = front x.payload (take slot reply) ++ h.reply;
              connection = h.connection;
            })
            (handled_same c.ends s.gathering s.done same both.0);
        still = rest.still;
        left =
            rest.left
            ∙ ap (λ (g : Option Gathering). (gather_all size g ps).gathering) gathers
            ∙ sym (gathering_of s.done behind);
      }

-- ---- One event, one question

down_gathering : (f : Found) (c : Connection) → (down_at f c).connection.link.gathering ≡ c.link.gathering
unfolding down_at with_ends
down_gathering unknown c = refl
down_gathering (known i n) c =
    if_arms (λ (m : Moved). m.connection.link.gathering ≡ c.link.gathering) (is_up (end_at c.ends i).head.channel) _ _
    (λ up. refl) (λ down. refl)

happens_gathering : (book : Book) (c : Connection) (v : Event)
    → (happens book c v).connection.link.gathering ≡ after_event c.link.gathering v
unfolding happens after_event with_ends
happens_gathering book c Event.Up =
    if_arms (λ (m : Moved). m.connection.link.gathering ≡ c.link.gathering) (eqb (awaiting c.ends) 0) _ _
    (λ nobody. refl) (λ somebody. refl)
happens_gathering book c (Down s) = down_gathering (find s book) c
happens_gathering book c Lost = refl

-- the configuration is the same, and of the offered lists the elements that 02 shows are
settings_same : (n n' : Entry) (config : List ℕ) → alike_entry n n' ≡ true
    → written (up_to_codec (items (if is_empty config then n.caps else config)))
    ≡ written (up_to_codec (items (if is_empty config then n'.caps else config)))
unfolding shown_by_02
settings_same n n' config e = go (is_empty config)
  where
    go : (t : Bool)
        → written (up_to_codec (items (if t then n.caps else config)))
        ≡ written (up_to_codec (items (if t then n'.caps else config)))
    go true = alike_shown n n' e
    go false = refl

shown_same : (f f' : Found) (ends : Ends) → FoundAlike f f'
    → compared (shown (shown_at f ends)) ≡ compared (shown (shown_at f' ends))
unfolding shown_at settings_of compared
shown_same f f' ends both_unknown = refl
shown_same f f' ends (both_known i n n' e) =
    ap (λ (l : List ℕ). shown (record { number = 0; part = l })) (settings_same n n' (end_at ends i).config e)

standing_same : (f f' : Found) (ends : Ends) → FoundAlike f f' → standing_at f ends ≡ standing_at f' ends
unfolding standing_at
standing_same f f' ends both_unknown = refl
standing_same f f' ends (both_known i n n' e) = refl

heard_same : (f f' : Found) (ends : Ends) → FoundAlike f f' → heard_at f ends ≡ heard_at f' ends
unfolding heard_at
heard_same f f' ends both_unknown = refl
heard_same f f' ends (both_known i n n' e) = refl

-- ---- One call over the connection: it is the same for books alike, and the far end stays restrained

record Paced (book book' : Book) (c : Connection) (k : Call) (calls : List Call) : Type 0 where
  said : compared (says book c k) ≡ compared (says book' c k)
  gone : goes book c k ≡ goes book' c k
  still : quiet_ends (goes book c k).ends ≡ true
  restrains : restrained (goes book c k).link.gathering calls ≡ true

module _ {book book' : Book} (same : AlikeBooks book book') (c : Connection) (q : quiet_ends c.ends ≡ true)
    (calls : List Call) where
  packet_paced : (size : ℕ) (p reply : List ℕ) → Told? (eqb (packet_number size reply) 0)
      → restrained c.link.gathering (packet size p reply ∷ calls) ≡ true → Paced book book' c (packet size p reply) calls
  unfolding restrained says goes takes
  packet_paced size p reply (passed taken) r =
      let s = gather size c.link.gathering p in
      let heeds : not (uses_in s.done) && restrained s.gathering calls ≡ true = rw (← packet_taken size reply, taken) at r in
      let unused = not_passed (uses_in s.done) (and_l (not (uses_in s.done)) (restrained s.gathering calls) heeds) in
      let handled = handled_same c.ends s.gathering s.done same unused in
      record {
        said = rw (taken, handled);
        gone = rw (taken, handled);
        still = rw taken (handled_quiet book c.ends s.gathering s.done q unused);
        restrains = rw (taken, handled_gathering book c.ends s.gathering s.done)
            (and_r (not (uses_in s.done)) (restrained s.gathering calls) heeds);
      }
  packet_paced size p reply (failed refused) r =
      record {
        said = rw refused;
        gone = rw refused;
        still = rw refused q;
        restrains = rw refused (rw (← packet_taken size reply, refused) at r);
      }

  burst_paced : (size : ℕ) (octets lengths reply : List ℕ) → Told? (eqb (burst_number size lengths reply) 0)
      → restrained c.link.gathering (burst size octets lengths reply ∷ calls) ≡ true
      → Paced book book' c (burst size octets lengths reply) calls
  unfolding restrained says goes
  burst_paced size octets lengths reply (passed taken) r =
      let ps = packets_in octets lengths in
      let all = gather_all size c.link.gathering ps in
      let heeds = each_of (λ (m : Message). not (uses_delay m)) all.messages in
      let both : heeds && restrained all.gathering calls ≡ true = rw (← burst_taken_lem size lengths reply, taken) at r in
      let each = each_paced same size ps c reply q (and_l heeds (restrained all.gathering calls) both) in
      record {
        said = rw (taken, each.handed);
        gone = rw (taken, each.handed);
        still = rw taken each.still;
        restrains = rw (taken, each.left) (and_r heeds (restrained all.gathering calls) both);
      }
  burst_paced size octets lengths reply (failed refused) r =
      record {
        said = rw refused;
        gone = rw refused;
        still = rw refused q;
        restrains = rw refused (rw (← burst_taken_lem size lengths reply, refused) at r);
      }

  paced : (k : Call) → restrained c.link.gathering (k ∷ calls) ≡ true → Paced book book' c k calls
  unfolding restrained says goes fresh_connection
  paced check r = record { said = refl; gone = refl; still = q; restrains = r }
  paced fresh r = record { said = refl; gone = fresh_same same; still = fresh_quiet book; restrains = r }
  paced (packet size p reply) r = packet_paced size p reply (told (eqb (packet_number size reply) 0)) r
  paced (burst size octets lengths reply) r =
      burst_paced size octets lengths reply (told (eqb (burst_number size lengths reply) 0)) r
  paced (event v) r =
      record {
        said = ap (λ (m : Moved). compared (number m.number)) (happens_same c v same);
        gone = ap (λ (m : Moved). m.connection) (happens_same c v same);
        still = happens_quiet book c v q;
        restrains = rw (happens_gathering book c v) r;
      }
  paced (settings s) r =
      record { said = shown_same _ _ c.ends (find_alike s same); gone = refl; still = q; restrains = r }
  paced (delay s) r =
      record {
        said = ap (λ (h : Heard). compared (heard h)) (heard_same _ _ c.ends (find_alike s same));
        gone = refl;
        still = q;
        restrains = r;
      }
  paced (status s) r =
      record {
        said = ap (λ (t : Standing). compared (stands t)) (standing_same _ _ c.ends (find_alike s same));
        gone = refl;
        still = q;
        restrains = r;
      }
  paced (packets size n) r = record { said = refl; gone = refl; still = q; restrains = r }
  paced (cut size m i area) r = record { said = refl; gone = refl; still = q; restrains = r }

-- ---- Sequences over octets

alike_more : (b b' s s' : List ℕ) (c : Connection) (k : Call) (calls : List Call) → Stepped b s c k → Stepped b' s' c k
    → Paced (book_of b) (book_of b') c k calls → Alike b b' (call b s k).saved (call b' s' k).saved calls calls
    → Alike b b' s s' (k ∷ calls) (k ∷ calls)
unfolding Sessions.answers after
alike_more b b' s s' c k calls step step' pace rest =
    record {
      answers = ap₂ ◌∷◌ (ap compared step.answer ∙ pace.said ∙ sym (ap compared step'.answer)) rest.answers;
      connections = rest.connections;
      unreported = rest.unreported;
    }

module _ (b b' : List ℕ) (ok : book_number b ≡ 0) (ok' : book_number b' ≡ 0) (same : AlikeBooks (book_of b) (book_of b')) where
  alike_on : (calls : List Call) (s s' : List ℕ) (c : Connection) → View b s c → View b' s' c → quiet_ends c.ends ≡ true
      → restrained c.link.gathering calls ≡ true → Alike b b' s s' calls calls
  unfolding Sessions.answers after
  alike_on [] s s' c v v' q r =
      record {
        answers = refl;
        connections = v.shows ∙ sym v'.shows;
        unreported = rw v.shows (quiet_unreported c.ends q);
      }
  alike_on (k ∷ calls) s s' c v v' q r =
      let step = view_step b ok s c v k in
      let step' = view_step b' ok' s' c v' k in
      let pace = paced same c q calls k r in
      alike_more b b' s s' c k calls step step' pace
      (alike_on calls (call b s k).saved (call b' s' k).saved (goes (book_of b) c k) step.next
      (rw pace.gone step'.next) pace.still pace.restrains)

begun_alike : (b b' s s' : List ℕ) (calls : List Call) → book_number b ≡ 0 → book_number b' ≡ 0
    → alike (book_of b) (book_of b') ≡ true → Begins b s → Begins b' s' → restrained none calls ≡ true
    → Alike b b' s s' calls calls
unfolding fresh_connection
begun_alike b b' s s' calls ok ok' e begins begins' r =
    let same = alike_books (book_of b) (book_of b') e in
    alike_on b b' ok ok' same calls s s' (fresh_connection (book_of b)) (begins_view b s ok begins)
    (rw (fresh_same same) (begins_view b' s' ok' begins')) (fresh_quiet (book_of b)) r

-- Two bridges whose books differ only in which endpoints offer delay reporting, each fresh or just lost, behave alike towards a
-- far end that never uses delay reporting, whatever the areas hold that their hosts lend them, and no endpoint shows a reported
-- delay.
pub quiet : (b b' s s' : List ℕ) (calls calls' : List Call) → book_number b ≡ 0 → book_number b' ≡ 0
    → alike (book_of b) (book_of b') ≡ true → Begins b s → Begins b' s' → map cleared calls ≡ map cleared calls'
    → restrained none calls ≡ true → Alike b b' s s' calls calls'
quiet b b' s s' calls calls' ok ok' e begins begins' lent r =
    let q = begun_alike b b' s s' (map cleared calls) ok ok' e begins begins' (rw (restrained_cleared none calls) r) in
    record {
      answers =
          answers_cleared b s calls
          ∙ q.answers
          ∙ ap (λ (k : List Call). map compared (Sessions.answers b' s' k)) lent
          ∙ sym (answers_cleared b' s' calls');
      connections =
          ap (connection_in (length (book_of b))) (after_cleared b s calls)
          ∙ q.connections
          ∙ ap (λ (k : List Call). connection_in (length (book_of b')) (after b' s' k)) lent
          ∙ sym (ap (connection_in (length (book_of b'))) (after_cleared b' s' calls'));
      unreported = rw (after_cleared b s calls) q.unreported;
    }
