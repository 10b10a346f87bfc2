-- On a right saved area no call answers number 12: where it could come from, the area passes, and every other number is at most
-- 11, or 13.
use Prim.Native.Nat.{ℕ, zero, suc, ◌≤◌}
use native.Mathlib.Nat.{le_trans}
use native.Mathlib.Omega.{arith}
use mathlib.Core.Path.{◌≡◌, refl, sym, ap, ◌∙◌}
use mathlib.Core.List.{List, [], ◌∷◌}
use mathlib.Core.Bool.{true, false, not, ◌&&◌}
use lib.ListN.{length, take, drop, get_or}
use lib.Dec.{leb, ltb, eqb, lit≤}
use borrow.Author.Tests.{ne_eqb, le-ltb}
use Rattle.rules.specs.Octets.{between, same_octets, is_empty, some_of}
use Rattle.std.specs.Prelude.{if◌then◌else◌}
use Rattle.rules.specs.Elements.{items}
use Rattle.rules.specs.Book.{Book, kind_right, media_type, list_right, entries_number, book_number, book_of, Found, unknown}
use Rattle.rules.specs.Book.{known, find}
use Rattle.rules.specs.Packets.{Message, size_right, longest}
use Rattle.rules.specs.Cutting.{count_of, packet_at}
use Rattle.rules.specs.Endpoints.{Ends, Connection, is_up, awaiting, end_at, Moved, down_at, happens}
use Rattle.rules.specs.Saved.{area_for, connection_in, saved_right}
use Rattle.rules.specs.Host
use Rattle.rules.specs.Host.{check_call, number_or, saved_number, refusal_of, packet_refusal, Kept, fresh_call, nothing_said}
use Rattle.rules.specs.Host.{Answered, packet_call, event_call, Shown, shown_at, settings_call, heard_at, delay_call, Cut}
use Rattle.rules.specs.Host.{cut_refusal, cut_call, standing_at, status_call, nowhere, standing}
use Rattle.rules.specs.Sessions.{Call, check, fresh, packet, event, settings, delay, packets, cut, keeping, answered, asked}
use Rattle.rules.specs.Sessions.{call, answers, status, burst, answered_each}
use Rattle.rules.specs.Bursts.{most_packets, burst_room, burst_refusal, none_told, BurstAnswered, burst_taken, burst_call}
use Rattle.rules.specs.Listed.{number_in, is12}
use Rattle.rules.specs.declared.OurSeid.{OurSeid}
use Rattle.rules.specs.Delays.{Delay}
use Rattle.std.specs.Prelude.{None, Some}
use Rattle.rules.specs.declared.Event.{Event}
use Rattle.rules.specs.declared.Event.TheVariants.{Up, Down, Lost}
use Rattle.rules.specs.declared.Standing.{Standing}
use Rattle.rules.specs.declared.Heard.{Heard}
use Rattle.rules.proofs.Refused.{refused_packet}
use Rattle.rules.proofs.Outcomes.{if_arms}
use Rattle.rules.proofs.SavedStaysRight.{right_long, stays_legal}

abbrev Not12 : ℕ → Type 0
Not12 n = n ≡ 12 → ⊥

abbrev UpTo11 : ℕ → Type 0
UpTo11 n = n ≤ 11

below_12 : (n : ℕ) → n ≤ 11 → Not12 n
below_12 n h e = omega arith

or_not_12 : (n next : ℕ) → Not12 n → Not12 next → Not12 (number_or n next)
unfolding number_or
or_not_12 zero next h k = k
or_not_12 (suc n) next h k = h

-- ---- The book's numbers are 0 to 7

abbrev UpTo7 : ℕ → Type 0
UpTo7 n = n ≤ 7

entries_number_lem : (n before : ℕ) (l : List ℕ) → entries_number n before l ≤ 7
unfolding entries_number
entries_number_lem zero before l = if_arms UpTo7 (is_empty l) 0 1 (λ t. lit≤ tt) (λ f. lit≤ tt)
entries_number_lem (suc n) before l =
    let seid = get_or l 0 0 in
    let kind = get_or l 1 0 in
    let size = get_or l 2 0 in
    let body = drop 3 l in
    if_arms UpTo7 (ltb (length l) 3) 1 _ (λ t. lit≤ tt) λ f.
    if_arms UpTo7 (not (ltb before seid && leb seid 62)) 5 _ (λ t. lit≤ tt) λ f.
    if_arms UpTo7 (not (kind_right kind)) 6 _ (λ t. lit≤ tt) λ f.
    if_arms UpTo7 (ltb 64 size) 7 _ (λ t. lit≤ tt) λ f.
    if_arms UpTo7 (ltb (length body) size) 1 _ (λ t. lit≤ tt) λ f.
    if_arms UpTo7 (not (list_right (media_type kind) (items (take size body)))) 7 _ (λ t. lit≤ tt) λ f.
    entries_number_lem n seid (drop size body)

pub book_number_lem : (b : List ℕ) → book_number b ≤ 7
unfolding book_number
book_number_lem b =
    if_arms UpTo7 (ltb (length b) 6) 1 _ (λ t. lit≤ tt) λ f.
    if_arms UpTo7 (not (same_octets (take 3 b) (0x48 ∷ 0x4C ∷ 0x42 ∷ []))) 2 _ (λ t. lit≤ tt) λ f.
    if_arms UpTo7 (not (same_octets (take 2 (drop 3 b)) (0 ∷ 1 ∷ []))) 3 _ (λ t. lit≤ tt) λ f.
    if_arms UpTo7 (not (between 1 16 (get_or b 5 0))) 4 _ (λ t. lit≤ tt) λ f.
    entries_number_lem (get_or b 5 0) 0 (drop 6 b)

book_not_12 : (b : List ℕ) → Not12 (book_number b)
book_not_12 b = below_12 (book_number b) (le_trans (book_number_lem b) (lit≤ tt))

-- ---- What the calls find: 0 or 10

down_not_12 : (f : Found) (c : Connection) → Not12 (down_at f c).number
unfolding down_at
down_not_12 unknown c = below_12 10 (lit≤ tt)
down_not_12 (known i n) c =
    if_arms (λ (m : Moved). Not12 m.number) (is_up (end_at c.ends i).head.channel) _ _ (λ t. below_12 0 (lit≤ tt))
    (λ f. below_12 10 (lit≤ tt))

happens_not_12 : (book : Book) (c : Connection) (e : Event) → Not12 (happens book c e).number
unfolding happens
happens_not_12 book c Up =
    if_arms (λ (m : Moved). Not12 m.number) (eqb (awaiting c.ends) 0) _ _ (λ t. below_12 10 (lit≤ tt))
    (λ f. below_12 0 (lit≤ tt))
happens_not_12 book c (Down s) = down_not_12 (find s book) c
happens_not_12 book c Lost = below_12 0 (lit≤ tt)

shown_not_12 : (f : Found) (ends : Ends) → Not12 (shown_at f ends).number
unfolding shown_at
shown_not_12 unknown ends = below_12 10 (lit≤ tt)
shown_not_12 (known i n) ends = below_12 0 (lit≤ tt)

heard_number : (n : ℕ) (d : Delay) → Not12 n → Not12 (Host.heard n d).number
unfolding Host.heard
heard_number n None h = h
heard_number n (Some d) h = h

standing_not_12 : (f : Found) (ends : Ends) → Not12 (standing_at f ends).number
unfolding standing_at nowhere standing
standing_not_12 unknown ends = below_12 10 (lit≤ tt)
standing_not_12 (known i n) ends = below_12 0 (lit≤ tt)

heard_not_12 : (f : Found) (ends : Ends) → Not12 (heard_at f ends).number
unfolding heard_at
heard_not_12 unknown ends = heard_number 10 None (below_12 10 (lit≤ tt))
heard_not_12 (known i n) ends = heard_number 0 (end_at ends i).head.delay (below_12 0 (lit≤ tt))

-- ---- What the calls test on a right area

module _ (b saved : List ℕ) (h : saved_right (book_of b) saved ≡ true) where
  saved_number_lem : saved_number b saved ≡ 0
  unfolding saved_number
  saved_number_lem = rw h

  saved_not_12 : Not12 (saved_number b saved)
  saved_not_12 = below_12 (saved_number b saved) (rw saved_number_lem (lit≤ tt))

  refusal_not_12 : Not12 (refusal_of b saved)
  unfolding refusal_of
  refusal_not_12 = or_not_12 (book_number b) (saved_number b saved) (book_not_12 b) saved_not_12

  fresh_not_12 : Not12 (fresh_call b saved).number
  unfolding fresh_call
  fresh_not_12 =
      let too_short = ltb (length saved) (area_for (length (book_of b))) in
      let n = number_or (book_number b) (if too_short then 12 else 0) in
      let long = le-ltb (length saved) (area_for (length (book_of b))) (right_long (book_of b) saved h) in
      if_arms (λ (k : Kept). Not12 k.number) (eqb n 0) _ _ (λ t. below_12 0 (lit≤ tt))
      (λ f. or_not_12 (book_number b) (if too_short then 12 else 0) (book_not_12 b) (rw long (below_12 0 (lit≤ tt))))

  packet_not_12 : (size : ℕ) (p reply : List ℕ) → Not12 (packet_call b size saved p reply).told.number
  unfolding packet_refusal nothing_said
  packet_not_12 size p reply e =
      let refused = refused_packet b size saved p reply (λ z. omega arith) in
      or_not_12 (book_number b) _ (book_not_12 b)
      (if_arms Not12 (not (size_right size)) 8 _ (λ t. below_12 8 (lit≤ tt)) λ f.
      if_arms Not12 (ltb (length reply) 64) 9 _ (λ t. below_12 9 (lit≤ tt)) λ f. saved_not_12)
      (sym (ap (λ (a : Answered). a.told.number) refused) ∙ e)

  burst_not_12 : (size : ℕ) (octets lengths reply : List ℕ)
      → Not12 (burst_call b size saved octets lengths reply).burst.number
  unfolding burst_call burst_taken burst_refusal none_told
  burst_not_12 size octets lengths reply =
      let n = burst_refusal b size saved lengths reply in
      if_arms (λ (a : BurstAnswered). Not12 a.burst.number) (eqb n 0) _ _ (λ t. below_12 0 (lit≤ tt))
      (λ f. or_not_12 (book_number b) _ (book_not_12 b)
      (if_arms Not12 (not (size_right size)) 8 _ (λ t. below_12 8 (lit≤ tt)) λ f.
      if_arms Not12 (ltb most_packets (length lengths)) 13 _ (λ t e. omega arith) λ f.
      if_arms Not12 (ltb (length reply) burst_room) 9 _ (λ t. below_12 9 (lit≤ tt)) λ f. saved_not_12))

  event_not_12 : (e : Event) → Not12 (event_call b saved e).number
  unfolding event_call
  event_not_12 e =
      let m = happens (book_of b) (connection_in (length (book_of b)) saved) e in
      let n = number_or (refusal_of b saved) m.number in
      if_arms (λ (k : Kept). Not12 k.number) (eqb n 0) _ _ (λ t. below_12 0 (lit≤ tt))
      (λ f. or_not_12 (refusal_of b saved) m.number refusal_not_12 (happens_not_12 (book_of b) _ e))

  settings_not_12 : (s : OurSeid) → Not12 (settings_call b saved s).number
  unfolding settings_call
  settings_not_12 s =
      if_arms (λ (k : Shown). Not12 k.number) (eqb (refusal_of b saved) 0) _ _
      (λ t. shown_not_12 (find s (book_of b)) _) (λ f. refusal_not_12)

  delay_not_12 : (s : OurSeid) → Not12 (delay_call b saved s).number
  unfolding delay_call
  delay_not_12 s =
      if_arms (λ (k : Heard). Not12 k.number) (eqb (refusal_of b saved) 0) _ _
      (λ t. heard_not_12 (find s (book_of b)) _) (λ f. heard_number (refusal_of b saved) None refusal_not_12)

  status_not_12 : (s : OurSeid) → Not12 (status_call b saved s).number
  unfolding status_call nowhere standing
  status_not_12 s =
      if_arms (λ (k : Standing). Not12 k.number) (eqb (refusal_of b saved) 0) _ _
      (λ t. standing_not_12 (find s (book_of b)) _) (λ f. refusal_not_12)

-- ---- The cutter

cut_refusal_small : (size : ℕ) (m : Message) (k : ℕ) (area : List ℕ) → cut_refusal size m k area ≤ 11
unfolding cut_refusal
cut_refusal_small size m k area =
    if_arms UpTo11 (not (size_right size)) 8 _ (λ t. lit≤ tt) λ f.
    if_arms UpTo11 (not (ltb k (count_of size m))) 11 _ (λ t. lit≤ tt) λ f.
    if_arms UpTo11 (ltb longest (length m.payload)) 11 _ (λ t. lit≤ tt) λ f.
    if_arms UpTo11 (not (ltb m.header.label 16)) 11 _ (λ t. lit≤ tt) λ f.
    if_arms UpTo11 (not (ltb m.header.mtype 4)) 11 _ (λ t. lit≤ tt) λ f.
    if_arms UpTo11 (not (ltb m.header.signal 64)) 11 _ (λ t. lit≤ tt) λ f.
    if_arms UpTo11 (ltb (length area) (length (packet_at size m k))) 9 0 (λ t. lit≤ tt) λ f. lit≤ tt

cut_not_12 : (size : ℕ) (m : Message) (k : ℕ) (area : List ℕ) → Not12 (cut_call size m k area).piece.number
unfolding cut_call
cut_not_12 size m k area =
    let n = cut_refusal size m k area in
    if_arms (λ (c : Cut). Not12 c.piece.number) (eqb n 0) _ _ (λ t. below_12 0 (lit≤ tt))
    (λ f. below_12 n (cut_refusal_small size m k area))

-- ---- Every call, and every call of a sequence

pub never_12 : (b saved : List ℕ) → saved_right (book_of b) saved ≡ true → (c : Call) → number_in (call b saved c).answer ≡ 12 → ⊥
unfolding call asked keeping answered answered_each number_in check_call
never_12 b saved h check = book_not_12 b
never_12 b saved h fresh = fresh_not_12 b saved h
never_12 b saved h (packet size p reply) = packet_not_12 b saved h size p reply
never_12 b saved h (burst size octets lengths reply) = burst_not_12 b saved h size octets lengths reply
never_12 b saved h (event e) = event_not_12 b saved h e
never_12 b saved h (settings s) = settings_not_12 b saved h s
never_12 b saved h (delay s) = delay_not_12 b saved h s
never_12 b saved h (status s) = status_not_12 b saved h s
never_12 b saved h (packets size n) = below_12 0 (lit≤ tt)
never_12 b saved h (cut size m k area) = cut_not_12 size m k area

pub none_answers_12 : (b saved : List ℕ) → book_number b ≡ 0 → saved_right (book_of b) saved ≡ true → (calls : List Call)
    → some_of is12 (answers b saved calls) ≡ false
unfolding some_of answers is12
none_answers_12 b saved right h [] = refl
none_answers_12 b saved right h (c ∷ calls) =
    let first = ne_eqb (number_in (call b saved c).answer) 12 (never_12 b saved h c) in
    rw first (none_answers_12 b (call b saved c).saved right (stays_legal b saved right h c) calls)
