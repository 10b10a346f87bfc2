-- No call of the host makes a right saved area wrong: a legal connection that is stored reads back as it was, and every step on a
-- legal one leaves a legal one.
use Prim.Native.Nat.{ℕ, ◌≤◌}
use mathlib.Core.Path.{◌≡◌, refl, sym, ◌∙◌}
use mathlib.Core.List.{List, [], ◌∷◌}
use mathlib.Core.Bool.{true}
use lib.ListN.{length, take, drop, replicate}
use lib.Dec.{leb, ltb, eqb}
use borrow.Author.Tests.{leb-true, le-leb, ltb-false, eq-eqb, eqb-true, eqb-false}
use Rattle.std.specs.Prelude.{if◌then◌else◌}
use Rattle.rules.specs.Book.{Book, book_number, book_of}
use Rattle.rules.specs.Endpoints.{Connection, legal, fresh_connection, happens}
use Rattle.rules.specs.Saved.{area_for, count_in, connection_in, store, saved_right}
use Rattle.rules.specs.Host.{number_or, refusal_of, packet_refusal, Kept, fresh_call, Answered, packet_call, event_call}
use Rattle.rules.specs.Bursts.{packets_in, slot, and_then, successive, burst_refusal, BurstAnswered, burst_taken, burst_call}
use Rattle.rules.specs.Computed.{computed}
use Rattle.rules.specs.Table.{trace_book}
use Rattle.rules.specs.Sessions.{Call, check, fresh, packet, event, settings, delay, packets, cut, keeping, answered, asked}
use Rattle.rules.specs.Sessions.{call, after, status, burst, answered_each}
use Rattle.rules.specs.declared.Event.{Event}
use Rattle.rules.proofs.Tests.{and_l, and_r}
use Rattle.rules.proofs.SavedReads.{payload_fits, Roomy, length_store, reads_stored, count_stored, stored_octets_right}
use Rattle.rules.proofs.Places.{legal_length}
use Rattle.rules.proofs.RightBook.{RightBook, right_book, not_failed}
use Rattle.rules.proofs.Unrefused.{none_first}
use Rattle.rules.proofs.Outcomes.{if_arms}
use Rattle.rules.proofs.StaysLegal.{legal_ends_lem, legal_gathering_lem, fresh_legal, takes_legal, happens_legal}
use Rattle.rules.proofs.ShortReplies.{config_short}

-- ---- Storing a legal connection

module _ (book : Book) (c : Connection) (l : List ℕ) (right : RightBook book) (area : area_for (length book) ≤ length l)
    (h : legal book c ≡ true) where
  same_count : length c.ends ≡ length book
  same_count = legal_length book c.ends (legal_ends_lem book c h).every

  pub legal_roomy : Roomy c l
  legal_roomy =
      record {
        area = rw same_count area;
        configs = config_short book c.ends right.entries (legal_ends_lem book c h).every;
        payload = payload_fits c.link.gathering (legal_gathering_lem book c h);
      }

  pub stored_right : saved_right book (store c l) ≡ true
  unfolding saved_right
  stored_right =
      let fits : leb (area_for (length c.ends)) (length (store c l)) ≡ true =
      le-leb (area_for (length c.ends)) (length (store c l)) (rw (length_store c l legal_roomy, same_count) area) in
      let count : count_in (store c l) ≡ length c.ends = count_stored c l legal_roomy in
      let octets = stored_octets_right c l legal_roomy in
      let reads : legal book (connection_in (length c.ends) (store c l)) ≡ true = rw (reads_stored c l legal_roomy) h in
      rw (← same_count) (rw (count, eq-eqb (length c.ends) _ refl, fits, octets.0, octets.1, reads))

-- what a right area says
module _ (book : Book) (l : List ℕ) (h : saved_right book l ≡ true) where
  pub right_long : area_for (length book) ≤ length l
  unfolding saved_right
  right_long = leb-true (area_for (length book)) (length l) (search (and_l, and_r))

  pub right_count : count_in l ≡ length book
  unfolding saved_right
  right_count = eqb-true (count_in l) (length book) (search (and_l, and_r))

  pub right_legal : legal book (connection_in (length book) l) ≡ true
  unfolding saved_right
  right_legal = search (and_l, and_r)

-- One record per book entry: an area that is right for two books has as many records as either has entries.
pub one_count : (book book' : Book) (l : List ℕ) → saved_right book l ≡ true → saved_right book' l ≡ true
    → length book ≡ length book'
one_count book book' l h h' = sym (right_count book l h) ∙ right_count book' l h'

-- ---- Each call

module _ (b saved : List ℕ) (right : book_number b ≡ 0) (h : saved_right (book_of b) saved ≡ true) where
  store_right : (c : Connection) → legal (book_of b) c ≡ true → saved_right (book_of b) (store c saved) ≡ true
  store_right c l = stored_right (book_of b) c saved (right_book b right) (right_long (book_of b) saved h) l

  fresh_keeps : saved_right (book_of b) (fresh_call b saved).saved ≡ true
  unfolding fresh_call
  fresh_keeps =
      if_arms (λ (k : Kept). saved_right (book_of b) k.saved ≡ true)
      (eqb (number_or (book_number b) (if ltb (length saved) (area_for (length (book_of b))) then 12 else 0)) 0) _ _
      (λ t. store_right (fresh_connection (book_of b)) (fresh_legal (book_of b))) (λ f. h)

  packet_keeps : (size : ℕ) (p reply : List ℕ) → saved_right (book_of b) (packet_call b size saved p reply).saved ≡ true
  unfolding packet_call
  packet_keeps size p reply =
      if_arms (λ (a : Answered). saved_right (book_of b) a.saved ≡ true) (eqb (packet_refusal b size saved reply) 0) _ _
      (λ t. store_right _ (takes_legal (book_of b) size _ p (right_legal (book_of b) saved h))) (λ f. h)

  event_keeps : (e : Event) → saved_right (book_of b) (event_call b saved e).saved ≡ true
  unfolding event_call
  event_keeps e =
      let c = connection_in (length (book_of b)) saved in
      if_arms (λ (k : Kept). saved_right (book_of b) k.saved ≡ true)
      (eqb (number_or (refusal_of b saved) (happens (book_of b) c e).number) 0) _ _
      (λ t. store_right _ (happens_legal (book_of b) c (right_legal (book_of b) saved h) e)) (λ f. h)

-- the packets of a burst, one after the other
pub successive_keeps : (b : List ℕ) (size : ℕ) (saved : List ℕ) (ps : List (List ℕ)) (reply : List ℕ) → book_number b ≡ 0
    → saved_right (book_of b) saved ≡ true → saved_right (book_of b) (successive b size saved ps reply).saved ≡ true
unfolding successive and_then
successive_keeps b size saved [] reply right h = h
successive_keeps b size saved (p ∷ ps) reply right h =
    successive_keeps b size (packet_call b size saved p (take slot reply)).saved ps (drop slot reply) right
    (packet_keeps b saved right h size p (take slot reply))

burst_keeps : (b : List ℕ) (size : ℕ) (saved octets lengths reply : List ℕ) → book_number b ≡ 0
    → saved_right (book_of b) saved ≡ true → saved_right (book_of b) (burst_call b size saved octets lengths reply).saved ≡ true
unfolding burst_call burst_taken
burst_keeps b size saved octets lengths reply right h =
    if_arms (λ (a : BurstAnswered). saved_right (book_of b) a.saved ≡ true) (eqb (burst_refusal b size saved lengths reply) 0) _ _
    (λ t. successive_keeps b size saved (packets_in octets lengths) reply right h) (λ f. h)

pub stays_legal : (b saved : List ℕ) → book_number b ≡ 0 → saved_right (book_of b) saved ≡ true → (c : Call)
    → saved_right (book_of b) (call b saved c).saved ≡ true
unfolding call asked keeping answered answered_each
stays_legal b saved right h check = h
stays_legal b saved right h fresh = fresh_keeps b saved right h
stays_legal b saved right h (packet size p reply) = packet_keeps b saved right h size p reply
stays_legal b saved right h (burst size octets lengths reply) = burst_keeps b size saved octets lengths reply right h
stays_legal b saved right h (event e) = event_keeps b saved right h e
stays_legal b saved right h (settings s) = h
stays_legal b saved right h (delay s) = h
stays_legal b saved right h (status s) = h
stays_legal b saved right h (packets size n) = h
stays_legal b saved right h (cut size m k area) = h

pub always_legal : (b saved : List ℕ) → book_number b ≡ 0 → saved_right (book_of b) saved ≡ true → (calls : List Call)
    → saved_right (book_of b) (after b saved calls) ≡ true
unfolding after
always_legal b saved right h [] = h
always_legal b saved right h (c ∷ calls) =
    always_legal b (call b saved c).saved right (stays_legal b saved right h c) calls

-- ---- A fresh area

pub fresh_right : (b area : List ℕ) → (fresh_call b area).number ≡ 0 → saved_right (book_of b) (fresh_call b area).saved ≡ true
unfolding fresh_call
fresh_right b area =
    let book = book_of b in
    let too_short = ltb (length area) (area_for (length book)) in
    let n = number_or (book_number b) (if too_short then 12 else 0) in
    if_arms (λ (k : Kept). k.number ≡ 0 → saved_right book k.saved ≡ true) (eqb n 0) _ _
    (λ t z.
    let both = none_first (book_number b) _ (eqb-true n 0 t) in
    let long = ltb-false (length area) (area_for (length book)) (not_failed too_short 12 0 refl both.1).0 in
    stored_right book (fresh_connection book) area (right_book b both.0) long (fresh_legal book))
    (λ f z. absurd (eqb-false n 0 f z))

-- ---- The hypotheses can be met: the trace book is right, and so is an area once it is fresh

pub trace_book_right : book_number trace_book ≡ 0
unfolding computed trace_book
trace_book_right = refl

fresh_answers_0 : (fresh_call trace_book (replicate (area_for 2) 0xDD)).number ≡ 0
unfolding computed trace_book
fresh_answers_0 = refl

pub trace_area_right : saved_right (book_of trace_book) (fresh_call trace_book (replicate (area_for 2) 0xDD)).saved ≡ true
trace_area_right = fresh_right trace_book (replicate (area_for 2) 0xDD) fresh_answers_0
