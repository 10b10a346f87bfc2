-- Every answer is a reply, silence, or a number of the list, for every call and every input: a call's number comes out of a
-- chain of tests, each of which gives one of the call's numbers, and what is answered without a refusal is told on a legal
-- connection.
use Prim.Native.Nat.{ℕ, zero, suc, ◌+◌, ◌-◌, ◌*◌, ◌≤◌}
use native.Mathlib.Nat.{div-lt_iff_lt-mul}
use native.Mathlib.Omega.{arith}
use mathlib.Core.Path.{◌≡◌, refl, sym, ◌∙◌, subst}
use mathlib.Core.List.{List, [], ◌∷◌, ◌++◌}
use mathlib.Core.Bool.{Bool, true, false, not, ◌&&◌, ◌||◌}
use mathlib.Core.Option.{Option, none, some}
use lib.ListN.{length, take, drop, get_or, replicate, length-drop}
use lib.Seq.{length-take-le}
use lib.Dec.{leb, ltb, eqb, lit≤}
use borrow.Author.Tests.{leb-true, eqb-true, not-false}
use Rattle.rules.specs.Computed.{computed}
use Rattle.rules.specs.Octets.{between, same_octets, member, is_empty, front}
use Rattle.std.specs.Prelude.{if◌then◌else◌}
use Rattle.rules.specs.Elements.{items}
use Rattle.rules.specs.Book.{Entry, Book, kind_right, media_type, list_right, entries_number, book_number, book_of, Found}
use Rattle.rules.specs.Book.{unknown, known, find}
use Rattle.rules.specs.Packets.{Message, Gathering, size_right, longest, gather}
use Rattle.rules.specs.Cutting.{avdtp, packets_for, count_of, packet_at}
use Rattle.rules.specs.Endpoints.{Ends, Connection, is_up, awaiting, end_at, Moved, down_at, happens}
use Rattle.rules.specs.Saved.{area_for, connection_in, saved_right}
use Rattle.rules.specs.Commands.{Reply, silence, general_reject, accept, reject, answer}
use Rattle.rules.specs.Host.{check_call, number_or, saved_number, refusal_of, packet_refusal, Kept, fresh_call, said, told_of}
use Rattle.rules.specs.Host.{payload_of, handled_by, takes, Answered, packet_call, event_call, settings_of, Shown, shown_at}
use Rattle.rules.specs.Host.{settings_call, heard_at, delay_call, packets_call, Cut, cut_refusal, cut_call, standing_at}
use Rattle.rules.specs.Host.{status_call}
use Rattle.rules.specs.Bursts.{packets_in, slot, most_packets, burst_room, and_then, successive, burst_refusal}
use Rattle.rules.specs.Bursts.{BurstAnswered, burst_taken, burst_call}
use Rattle.rules.specs.Sessions.{Call, check, fresh, packet, event, settings, delay, packets, cut, number, shown}
use Rattle.rules.specs.Sessions.{heard, cut_off, keeping, answered, asked, call, answers, status, stands, burst}
use Rattle.rules.specs.Sessions.{answered_each}
use Rattle.rules.specs.Table.{trace_book}
use Rattle.rules.specs.Listed.{number_in, book_numbers, refusals, refused_with, Listed, refused, checked, begun, silent}
use Rattle.rules.specs.Listed.{replied, happened, shows, hears, counts, cuts, EachListed, none as nothing, more, tells}
use Rattle.rules.specs.Listed.{PacketAnswer, PacketAnswers, behind, first, handles, handles_each}
use Rattle.rules.specs.declared.OurSeid.{OurSeid}
use Rattle.rules.specs.declared.Event.{Event}
use Rattle.rules.specs.declared.Event.TheVariants.{Up, Down, Lost}
use Rattle.rules.specs.declared.Standing.{Standing}
use Rattle.rules.specs.declared.Heard.{Heard}
use Rattle.rules.proofs.Tests.{Told?, passed, failed, told as whether, and_l, and_r, between_least, clash}
use Rattle.rules.proofs.Unrefused.{Unrefused, none_refused, packet_unrefused, burst_given}
use Rattle.rules.proofs.Bursts.{packets_counted, told_counted, slots_fit}
use Rattle.rules.proofs.OneByOne.{comes, next_right}
use Rattle.rules.proofs.SettingsShown.{settings_there, settings_short}
use Rattle.rules.proofs.RightBook.{not_failed, entry_right, right_book}
use Rattle.rules.proofs.Places.{find_known}
use Rattle.rules.proofs.Outcomes.{if_arms}
use Rattle.rules.proofs.RightMessages.{Bounded, completed_bounded}
use Rattle.rules.proofs.ShortReplies.{entry_at, answer_short}
use Rattle.rules.proofs.StaysLegal.{legal_ends_lem, legal_gathering_lem}
use Rattle.rules.proofs.SavedStaysRight.{right_legal}
use Rattle.rules.proofs.ReadsBack.{packets_fit}
use Rattle.rules.proofs.Refused.{nothing_written}

-- ---- Numbers that a chain of tests can give: 0, or one of a list

abbrev Among : List ℕ → ℕ → Type 0
Among l n = member n (0 ∷ l) ≡ true

-- a number that is not 0 is one of the list
among_refused : (l : List ℕ) (n : ℕ) → Among l n → eqb n 0 ≡ false → member n l ≡ true
unfolding member
among_refused l n a f = rw f at a

member_more : (n : ℕ) (l k : List ℕ) → member n l ≡ true → member n (l ++ k) ≡ true
unfolding member
member_more n [] k m = clash refl (sym m)
member_more n (x ∷ l) k m = go (eqb n x) (member_more n l k) m
  where
    go : (t : Bool) → (member n l ≡ true → member n (l ++ k) ≡ true) → t || member n l ≡ true → t || member n (l ++ k) ≡ true
    go true rest e = refl
    go false rest e = rest e

among_more : (l k : List ℕ) (n : ℕ) → Among l n → Among (l ++ k) n
among_more l k n a = member_more n (0 ∷ l) k a

or_among : (l : List ℕ) (n next : ℕ) → Among l n → Among l next → Among l (number_or n next)
unfolding number_or
or_among l zero next a b = b
or_among l (suc n) next a b = a

-- ---- The book's numbers

abbrev OfBook : ℕ → Type 0
OfBook n = Among book_numbers n

entries_number_lem : (n before : ℕ) (l : List ℕ) → OfBook (entries_number n before l)
unfolding entries_number member
entries_number_lem zero before l = if_arms OfBook (is_empty l) 0 1 (λ t. refl) (λ f. refl)
entries_number_lem (suc n) before l =
    let seid = get_or l 0 0 in
    let kind = get_or l 1 0 in
    let size = get_or l 2 0 in
    let body = drop 3 l in
    if_arms OfBook (ltb (length l) 3) 1 _ (λ t. refl) λ f.
    if_arms OfBook (not (ltb before seid && leb seid 62)) 5 _ (λ t. refl) λ f.
    if_arms OfBook (not (kind_right kind)) 6 _ (λ t. refl) λ f.
    if_arms OfBook (ltb 64 size) 7 _ (λ t. refl) λ f.
    if_arms OfBook (ltb (length body) size) 1 _ (λ t. refl) λ f.
    if_arms OfBook (not (list_right (media_type kind) (items (take size body)))) 7 _ (λ t. refl) λ f.
    entries_number_lem n seid (drop size body)

book_number_lem : (b : List ℕ) → OfBook (book_number b)
unfolding book_number member
book_number_lem b =
    if_arms OfBook (ltb (length b) 6) 1 _ (λ t. refl) λ f.
    if_arms OfBook (not (same_octets (take 3 b) (0x48 ∷ 0x4C ∷ 0x42 ∷ []))) 2 _ (λ t. refl) λ f.
    if_arms OfBook (not (same_octets (take 2 (drop 3 b)) (0 ∷ 1 ∷ []))) 3 _ (λ t. refl) λ f.
    if_arms OfBook (not (between 1 16 (get_or b 5 0))) 4 _ (λ t. refl) λ f.
    entries_number_lem (get_or b 5 0) 0 (drop 6 b)

-- the book's numbers, and then those of a list
book_or : (k b : List ℕ) (next : ℕ) → Among (book_numbers ++ k) next
    → Among (book_numbers ++ k) (number_or (book_number b) next)
book_or k b next a = or_among (book_numbers ++ k) (book_number b) next
    (among_more book_numbers k (book_number b) (book_number_lem b)) a

-- ---- What the calls that are given a saved area test

module _ (b saved : List ℕ) where
  saved_among : Among (book_numbers ++ (12 ∷ [])) (saved_number b saved)
  unfolding saved_number member
  saved_among = if_arms (Among (book_numbers ++ (12 ∷ []))) (saved_right (book_of b) saved) 0 12 (λ t. refl) (λ f. refl)

  refusal_among : Among (book_numbers ++ (12 ∷ [])) (refusal_of b saved)
  unfolding refusal_of
  refusal_among = book_or (12 ∷ []) b (saved_number b saved) saved_among

  asked_among : Among (book_numbers ++ (12 ∷ 10 ∷ [])) (refusal_of b saved)
  asked_among = among_more (book_numbers ++ (12 ∷ [])) (10 ∷ []) (refusal_of b saved) refusal_among

-- ---- check and fresh

module _ (b saved : List ℕ) where
  check_listed : Told? (eqb (book_number b) 0) → Listed saved check (record { answer = number (book_number b); saved = saved })
  unfolding refusals refused_with
  check_listed (passed t) = rw (eqb-true (book_number b) 0 t) checked
  check_listed (failed f) = refused check (book_number b) (among_refused book_numbers (book_number b) (book_number_lem b) f)

  fresh_listed : Listed saved fresh (keeping (fresh_call b saved))
  unfolding fresh_call keeping refusals refused_with member
  fresh_listed =
      let short = ltb (length saved) (area_for (length (book_of b))) in
      let n = number_or (book_number b) (if short then 12 else 0) in
      if_arms (λ (k : Kept). Listed saved fresh (keeping k)) (eqb n 0) _ _ (λ t. begun _)
      (λ f. refused fresh n
      (among_refused (book_numbers ++ (12 ∷ [])) n
      (book_or (12 ∷ []) b _ (if_arms (Among (book_numbers ++ (12 ∷ []))) short 12 0 (λ t. refl) (λ t. refl))) f))

-- ---- packet

module _ (reply : List ℕ) where
  reply_answers : (m : Message) (r : Reply) → Bounded m → length (payload_of r) ≤ 64
      → PacketAnswer reply (told_of m r) (front (payload_of r) reply)
  unfolding told_of payload_of said between
  reply_answers m silence small short = rw nothing_written silent
  reply_answers m general_reject small short =
      replied m.header.label 1 m.header.signal [] small.label refl small.signal short
  reply_answers m (accept q) small short =
      replied m.header.label 2 m.header.signal q small.label refl small.signal short
  reply_answers m (reject q) small short =
      replied m.header.label 3 m.header.signal q small.label refl small.signal short

  handled_answers : (book : Book) (ends : Ends) (g : Option Gathering) (done : Option Message)
      → ((m : Message) → done ≡ some m → Bounded m) → ((m : Message) → length (payload_of (answer book ends m).reply) ≤ 64)
      → let t = handled_by book ends g done in PacketAnswer reply t.told (front t.payload reply)
  unfolding handled_by
  handled_answers book ends g none small short = rw nothing_written silent
  handled_answers book ends g (some m) small short = reply_answers m (answer book ends m).reply (small m refl) (short m)

module _ (b : List ℕ) (size : ℕ) (saved p reply : List ℕ) where
  packet_among : Among (book_numbers ++ (8 ∷ 9 ∷ 12 ∷ [])) (packet_refusal b size saved reply)
  unfolding packet_refusal saved_number member
  packet_among =
      let numbers = book_numbers ++ (8 ∷ 9 ∷ 12 ∷ []) in
      book_or (8 ∷ 9 ∷ 12 ∷ []) b _
      (if_arms (Among numbers) (not (size_right size)) 8 _ (λ t. refl) λ f.
      if_arms (Among numbers) (ltb (length reply) 64) 9 _ (λ t. refl) λ f.
      if_arms (Among numbers) (saved_right (book_of b) saved) 0 12 (λ t. refl) (λ f. refl))

  packet_answered : Unrefused b saved
      → let t = takes (book_of b) size (connection_in (length (book_of b)) saved) p in
      PacketAnswer reply t.told (front t.payload reply)
  unfolding takes
  packet_answered ok =
      let book = book_of b in
      let c = connection_in (length book) saved in
      let s = gather size c.link.gathering p in
      let lawful = right_legal book saved ok.right in
      handled_answers reply book c.ends s.gathering s.done
      (λ m e. completed_bounded size c.link.gathering p m (legal_gathering_lem book c lawful) e)
      (answer_short book c.ends (right_book b ok.book) (legal_ends_lem book c lawful).every)

  packet_listed : Listed saved (packet size p reply) (answered (packet_call b size saved p reply))
  unfolding packet_call answered refusals refused_with
  packet_listed =
      let n = packet_refusal b size saved reply in
      if_arms (λ (a : Answered). Listed saved (packet size p reply) (answered a)) (eqb n 0) _ _
      (λ t. handles size p reply _ _ _ (packet_answered (packet_unrefused b size saved reply (eqb-true n 0 t))))
      (λ f. refused (packet size p reply) n (among_refused (book_numbers ++ (8 ∷ 9 ∷ 12 ∷ [])) n packet_among f))

-- ---- burst

each_answers : (b : List ℕ) (size : ℕ) → size_right size ≡ true → (ps : List (List ℕ)) (saved reply : List ℕ) → Unrefused b saved
    → slot * length ps ≤ length reply
    → let all = successive b size saved ps reply in PacketAnswers reply all.told all.reply
unfolding successive and_then
each_answers b size sized [] saved reply ok room = behind reply
each_answers b size sized (p ∷ ps) saved reply ok room =
    let whole = length-take-le slot reply (omega arith) in
    let less = length-drop slot reply in
    let a = packet_call b size saved p (take slot reply) in
    let come = comes b size ok.book sized saved p (take slot reply) ok.right (omega arith) in
    let next = next_right b size ok.book sized saved p (take slot reply) ok.right (omega arith) in
    first reply a.told a.reply _ _
    (subst (λ (x : Answered). PacketAnswer (take slot reply) x.told x.reply) (sym come)
    (packet_answered b size saved p (take slot reply) ok))
    (each_answers b size sized ps a.saved (drop slot reply) (record { book = ok.book; right = next }) (omega arith))

module _ (b : List ℕ) (size : ℕ) (saved octets lengths reply : List ℕ) where
  burst_among : Among (book_numbers ++ (8 ∷ 13 ∷ 9 ∷ 12 ∷ [])) (burst_refusal b size saved lengths reply)
  unfolding burst_refusal saved_number member
  burst_among =
      let numbers = book_numbers ++ (8 ∷ 13 ∷ 9 ∷ 12 ∷ []) in
      book_or (8 ∷ 13 ∷ 9 ∷ 12 ∷ []) b _
      (if_arms (Among numbers) (not (size_right size)) 8 _ (λ t. refl) λ f.
      if_arms (Among numbers) (ltb most_packets (length lengths)) 13 _ (λ t. refl) λ f.
      if_arms (Among numbers) (ltb (length reply) burst_room) 9 _ (λ t. refl) λ f.
      if_arms (Among numbers) (saved_right (book_of b) saved) 0 12 (λ t. refl) (λ f. refl))

  burst_listed : Listed saved (burst size octets lengths reply) (answered_each (burst_call b size saved octets lengths reply))
  unfolding burst_call burst_taken answered_each refusals refused_with
  burst_listed =
      let n = burst_refusal b size saved lengths reply in
      let ps = packets_in octets lengths in
      if_arms (λ (a : BurstAnswered). Listed saved (burst size octets lengths reply) (answered_each a)) (eqb n 0) _ _
      (λ t.
      let met = burst_given b size saved lengths reply (eqb-true n 0 t) in
      handles_each size octets lengths reply _ _ _ (told_counted b size saved ps reply ∙ packets_counted octets lengths)
      (each_answers b size met.sized ps saved reply met.given
      (slots_fit octets lengths reply met.few met.room)))
      (λ f. refused (burst size octets lengths reply) n
      (among_refused (book_numbers ++ (8 ∷ 13 ∷ 9 ∷ 12 ∷ [])) n burst_among f))

-- ---- event

down_among : (f : Found) (c : Connection) → Among (book_numbers ++ (12 ∷ 10 ∷ [])) (down_at f c).number
unfolding down_at member
down_among unknown c = refl
down_among (known i n) c =
    if_arms (λ (m : Moved). Among (book_numbers ++ (12 ∷ 10 ∷ [])) m.number) (is_up (end_at c.ends i).head.channel) _ _
    (λ t. refl) (λ f. refl)

happens_among : (book : Book) (c : Connection) (e : Event) → Among (refusals (event e)) (happens book c e).number
unfolding happens refusals member
happens_among book c Up =
    if_arms (λ (m : Moved). Among (refusals (event Up)) m.number) (eqb (awaiting c.ends) 0) _ _ (λ t. refl) (λ f. refl)
happens_among book c (Down s) = down_among (find s book) c
happens_among book c Lost = refl

event_among : (b saved : List ℕ) (e : Event) → Among (refusals (event e)) (refusal_of b saved)
unfolding refusals
event_among b saved Up = asked_among b saved
event_among b saved (Down s) = asked_among b saved
event_among b saved Lost = refusal_among b saved

event_listed : (b saved : List ℕ) (e : Event) → Listed saved (event e) (keeping (event_call b saved e))
unfolding event_call keeping refused_with
event_listed b saved e =
    let m = happens (book_of b) (connection_in (length (book_of b)) saved) e in
    let n = number_or (refusal_of b saved) m.number in
    let among =
    or_among (refusals (event e)) (refusal_of b saved) m.number (event_among b saved e) (happens_among (book_of b) _ e) in
    if_arms (λ (k : Kept). Listed saved (event e) (keeping k)) (eqb n 0) _ _ (λ t. happened e _)
    (λ f. refused (event e) n (among_refused (refusals (event e)) n among f))

-- ---- settings and delay

module _ (b saved : List ℕ) (s : OurSeid) where
  found_listed : (f : Found) (ends : Ends) → ((i : ℕ) (n : Entry) → f ≡ known i n → entry_right n ≡ true)
      → length (shown_at f ends).part ≤ 64
      → Listed saved (settings s) (record { answer = shown (shown_at f ends); saved = saved })
  unfolding shown_at refusals refused_with member
  found_listed unknown ends right short = refused (settings s) 10 refl
  found_listed (known i n) ends right short =
      shows s (settings_of n (end_at ends i)) (settings_there n (end_at ends i) (right i n refl)) short

  settings_listed : Listed saved (settings s) (asked saved (shown (settings_call b saved s)))
  unfolding settings_call asked refusals refused_with
  settings_listed =
      let n = refusal_of b saved in
      if_arms (λ (x : Shown). Listed saved (settings s) (record { answer = shown x; saved = saved })) (eqb n 0) _ _
      (λ t.
      let right = right_book b (none_refused b saved (eqb-true n 0 t)).book in
      found_listed (find s (book_of b)) _ (λ i e f. entry_at (find_known s (book_of b) i e f).place right.entries)
      (rw t at (settings_short b saved s)))
      (λ f. refused (settings s) n (among_refused (book_numbers ++ (12 ∷ 10 ∷ [])) n (asked_among b saved) f))

  delay_found : (f : Found) (ends : Ends) → Listed saved (delay s) (record { answer = heard (heard_at f ends); saved = saved })
  unfolding heard_at refusals refused_with member
  delay_found unknown ends = refused (delay s) 10 refl
  delay_found (known i n) ends = hears s (end_at ends i).head.delay

  delay_listed : Listed saved (delay s) (asked saved (heard (delay_call b saved s)))
  unfolding delay_call asked refusals refused_with
  delay_listed =
      let n = refusal_of b saved in
      if_arms (λ (x : Heard). Listed saved (delay s) (record { answer = heard x; saved = saved })) (eqb n 0) _ _
      (λ t. delay_found (find s (book_of b)) _)
      (λ f. refused (delay s) n (among_refused (book_numbers ++ (12 ∷ 10 ∷ [])) n (asked_among b saved) f))

  status_found : (f : Found) (ends : Ends)
      → Listed saved (status s) (record { answer = stands (standing_at f ends); saved = saved })
  unfolding standing_at refusals refused_with member
  status_found unknown ends = refused (status s) 10 refl
  status_found (known i n) ends = tells s (end_at ends i).head

  status_listed : Listed saved (status s) (asked saved (stands (status_call b saved s)))
  unfolding status_call asked refusals refused_with
  status_listed =
      let n = refusal_of b saved in
      if_arms (λ (x : Standing). Listed saved (status s) (record { answer = stands x; saved = saved })) (eqb n 0) _ _
      (λ t. status_found (find s (book_of b)) _)
      (λ f. refused (status s) n (among_refused (book_numbers ++ (12 ∷ 10 ∷ [])) n (asked_among b saved) f))

-- ---- packets and cut

-- a message has at most 11 packets
few_packets : (size n : ℕ) → 48 ≤ size → n ≤ 512 → packets_for avdtp size n ≤ 11
unfolding packets_for
few_packets size n s l =
    if_arms (λ k. k ≤ 11) (leb n (size - 2)) 1 _ (λ t. lit≤ tt)
    (λ f. (div-lt_iff_lt-mul {k = size - 1} {x = n - (size - 3) + (size - 1 - 1)} {y = 11} (omega arith)).1 (omega arith))

packets_few : (size n : ℕ) → packets_call size n ≤ 11
unfolding packets_call size_right longest
packets_few size n =
    if_arms (λ k. k ≤ 11) (size_right size && leb n longest) _ 0
    (λ t.
    let least = between_least 48 672 size (and_l (between 48 672 size) (leb n 512) t) in
    few_packets size n least (leb-true n 512 (and_r (between 48 672 size) _ t)))
    (λ f. lit≤ tt)

abbrev OfCut : ℕ → Type 0
OfCut n = Among (8 ∷ 11 ∷ 9 ∷ []) n

cut_among : (size : ℕ) (m : Message) (k : ℕ) (area : List ℕ) → OfCut (cut_refusal size m k area)
unfolding cut_refusal member
cut_among size m k area =
    if_arms OfCut (not (size_right size)) 8 _ (λ t. refl) λ f.
    if_arms OfCut (not (ltb k (count_of size m))) 11 _ (λ t. refl) λ f.
    if_arms OfCut (ltb longest (length m.payload)) 11 _ (λ t. refl) λ f.
    if_arms OfCut (not (ltb m.header.label 16)) 11 _ (λ t. refl) λ f.
    if_arms OfCut (not (ltb m.header.mtype 4)) 11 _ (λ t. refl) λ f.
    if_arms OfCut (not (ltb m.header.signal 64)) 11 _ (λ t. refl) λ f.
    if_arms OfCut (ltb (length area) (length (packet_at size m k))) 9 0 (λ t. refl) λ f. refl

cut_sized : (size : ℕ) (m : Message) (k : ℕ) (area : List ℕ) → cut_refusal size m k area ≡ 0 → size_right size ≡ true
unfolding cut_refusal
cut_sized size m k area e = not-false (size_right size) (not_failed (not (size_right size)) 8 _ refl e).0

cut_listed : (saved : List ℕ) (size : ℕ) (m : Message) (k : ℕ) (area : List ℕ)
    → Listed saved (cut size m k area) (asked saved (cut_off (cut_call size m k area)))
unfolding cut_call asked refusals refused_with
cut_listed saved size m k area =
    let n = cut_refusal size m k area in
    if_arms (λ (x : Cut). Listed saved (cut size m k area) (record { answer = cut_off x; saved = saved })) (eqb n 0) _ _
    (λ t. cuts size m k area (packet_at size m k) (packets_fit size m k (cut_sized size m k area (eqb-true n 0 t))))
    (λ f. refused (cut size m k area) n (among_refused (8 ∷ 11 ∷ 9 ∷ []) n (cut_among size m k area) f))

-- ---- Every call, and every call of a sequence

pub every_answer : (b saved : List ℕ) (c : Call) → Listed saved c (call b saved c)
unfolding call asked check_call
every_answer b saved check = check_listed b saved (whether (eqb (book_number b) 0))
every_answer b saved fresh = fresh_listed b saved
every_answer b saved (packet size p reply) = packet_listed b size saved p reply
every_answer b saved (burst size octets lengths reply) = burst_listed b size saved octets lengths reply
every_answer b saved (event e) = event_listed b saved e
every_answer b saved (settings s) = settings_listed b saved s
every_answer b saved (delay s) = delay_listed b saved s
every_answer b saved (status s) = status_listed b saved s
every_answer b saved (packets size n) = counts size n (packets_call size n) (packets_few size n)
every_answer b saved (cut size m k area) = cut_listed saved size m k area

pub all_answers : (b saved : List ℕ) (calls : List Call) → EachListed saved calls (answers b saved calls)
unfolding answers
all_answers b saved [] = nothing saved
all_answers b saved (c ∷ calls) =
    more saved c (call b saved c) calls _ (every_answer b saved c) (all_answers b (call b saved c).saved calls)

-- ---- Each number of the list is given

abbrev book_head : List ℕ
book_head = 0x48 ∷ 0x4C ∷ 0x42 ∷ 0x00 ∷ 0x01 ∷ []

abbrev fresh_area : List ℕ
fresh_area = (fresh_call trace_book (replicate (area_for 2) 0xDD)).saved

abbrev discover : List ℕ
discover = 0x10 ∷ 0x01 ∷ []

abbrev number_of : List ℕ → List ℕ → Call → ℕ
number_of book saved c = number_in (call book saved c).answer

pub numbers_given :
    number_of [] [] check
    ∷ number_of (0 ∷ 0 ∷ 0 ∷ 0 ∷ 1 ∷ 1 ∷ []) [] check
    ∷ number_of (0x48 ∷ 0x4C ∷ 0x42 ∷ 0 ∷ 2 ∷ 1 ∷ []) [] check
    ∷ number_of (book_head ++ (0 ∷ [])) [] check
    ∷ number_of (book_head ++ (1 ∷ 0 ∷ 0 ∷ 0 ∷ [])) [] check
    ∷ number_of (book_head ++ (1 ∷ 1 ∷ 1 ∷ 0 ∷ [])) [] check
    ∷ number_of (book_head ++ (1 ∷ 1 ∷ 0 ∷ 65 ∷ [])) [] check
    ∷ number_of trace_book fresh_area (packet 47 discover (replicate 64 0))
    ∷ number_of trace_book fresh_area (packet 48 discover (replicate 63 0))
    ∷ number_of trace_book fresh_area (event Event.Up)
    ∷ number_of trace_book fresh_area
    (cut 48 (record { header = record { label = 1; mtype = 2; signal = 1 }; payload = [] }) 1 (replicate 48 0))
    ∷ number_of trace_book [] (packet 48 discover (replicate 64 0))
    ∷ number_of trace_book fresh_area (burst 48 discover (replicate 17 2) [])
    ∷ []
    ≡ 1 ∷ 2 ∷ 3 ∷ 4 ∷ 5 ∷ 6 ∷ 7 ∷ 8 ∷ 9 ∷ 10 ∷ 11 ∷ 12 ∷ 13 ∷ []
unfolding computed trace_book number_in
numbers_given = refl
