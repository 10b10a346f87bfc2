-- What the checks come to, against the definitions: by the length, by the SEID's place in the book, and by the state that the
-- record there tells.
use Rattle.std.proofs.Common.{◌≡◌, ℕ, ◌+◌, ◌*◌, ◌<◌, ◌≤◌, Bool, true, false, List, length, get_or, if◌then◌else◌, Some, None, Ok}
use Rattle.std.proofs.Common.{Err, Option, ok_or, sym, refl, ap, ◌∙◌, subst, arith, eqb-true, leb-true}
use Rattle.rules.specs.Book.{Entry, book_number, book_of}
use Rattle.rules.specs.Endpoints.{Ends, end_at, legal_end}
use Rattle.rules.specs.Saved.{record_room, config_room, head_in, ends_in, record_at}
use Rattle.rules.specs.Commands.{Outcome, stays, rejects, length_right, our_in, may, wrong_state, met_at, preamble, at_met, named}
use Rattle.rules.specs.Commands.{Met as MetBy, refused, here, meets as meetsBy}
use Rattle.rules.specs.declared.OurSeid.{OurSeid}
use Rattle.rules.specs.declared.Head.{Head}
use Rattle.rules.specs.declared.Signal.{Signal}
use Rattle.rules.specs.declared.Signal.TheVariants.{Discover, GetCapabilities, SetConfiguration, GetConfiguration, Reconfigure}
use Rattle.rules.specs.declared.Signal.TheVariants.{OpenUp, Start, Close, Suspend, Abort, SecurityControl, GetAllCapabilities}
use Rattle.rules.specs.declared.Signal.TheVariants.{DelayReport, Unassigned}
use Rattle.rules.proofs.Tests.{Told?, told, passed, failed, clash}
use Rattle.rules.proofs.Places.{legal_at}
use Rattle.rules.proofs.ShortReplies.{end_short}
use Rattle.book.specs.Places.{place_in, found_by}
use Rattle.book.specs.declared.places.Place.{Place}
use Rattle.book.proofs.Found.{entry_by, found_as, Placed, placed as placed-in}
use Rattle.saved.specs.Records.{config_size_at, config_at}
use Rattle.saved.specs.Held.{Held}
use Rattle.saved.proofs.OneStore.{loaded_one, record_inside, length_told}
use Rattle.commands_reply.specs.Obeys.{ends_of}
use Rattle.commands_reply.specs.declared.Code.{Code}
use Rattle.commands_reply.specs.declared.Code.TheVariants.{NoEndpoint}
use Rattle.commands_checks.specs.Met.{names_one, Met, met_told, met_by, met_of, met_in}
use Rattle.commands_checks.specs.Named.{Named}

-- ---- What the code answers

pub names_some : (s : Signal) → names_one s ≡ true → (n : ℕ) → length_right s n ≡ true → 1 ≤ n
unfolding names_one length_right
names_some Discover o n h = clash refl (sym o)
names_some GetCapabilities o n h = let e = eqb-true n 1 h in omega arith
names_some SetConfiguration o n h = let e = leb-true 2 n h in omega arith
names_some GetConfiguration o n h = let e = eqb-true n 1 h in omega arith
names_some Reconfigure o n h = let e = leb-true 3 n h in omega arith
names_some OpenUp o n h = let e = eqb-true n 1 h in omega arith
names_some Start o n h = clash refl (sym o)
names_some Close o n h = let e = eqb-true n 1 h in omega arith
names_some Suspend o n h = clash refl (sym o)
names_some Abort o n h = let e = eqb-true n 1 h in omega arith
names_some SecurityControl o n h = leb-true 1 n h
names_some GetAllCapabilities o n h = let e = eqb-true n 1 h in omega arith
names_some DelayReport o n h = let e = eqb-true n 3 h in omega arith
names_some Unassigned o n h = clash refl (sym o)

module _ (signal : Signal) (book records : List ℕ) (s : OurSeid) where
  pub met_unknown : {located : Option Place} {e : Code} → located ≡ place_in s book → located ≡ None
      → Err e ≡ ok_or located NoEndpoint → met_told (Err e) ≡ met_of signal book records s
  unfolding met_of met_by
  met_unknown {located} {e} l none told =
      let unknown : e ≡ NoEndpoint = let r = rw none at told in cc in
      rw (← l, none, unknown)

  module _ (right : book_number book ≡ 0) (held : Held (length (book_of book)) records) {at : Place}
      (k : place_in s book ≡ Some at) where
    inside : at.index < length (book_of book)
    inside = (placed-in s book at.index at.kind at.from at.size right k).counted

    pub met_inside : (at.index + 1) * record_room ≤ length records
    met_inside = record_inside (length (book_of book)) at.index records inside held

    module _ {h : Head} (got : h ≡ head_in (record_at at.index records)) {b : Bool}
        (test : b ≡ may signal h.state h.channel) where
      shown : end_at (ends_of book records) at.index ≡ record { head = h; config = config_at at.index records }
      shown =
          loaded_one (length (book_of book)) at.index records inside
          ∙ ap (λ (x : Head). record { head = x; config = config_at at.index records }) (sym got)

      pub met_here : b ≡ true → Ok at ≡ met_of signal book records s
      unfolding met_of met_by
      met_here t = rw (k, shown, ← test, t)

      pub met_wrong : b ≡ false → {code : ℕ} → code ≡ wrong_state signal h.state → Err code ≡ met_of signal book records s
      unfolding met_of met_by
      met_wrong f c = rw (k, shown, ← test, f, ← c)

module _ (signal : Signal) (book records p : List ℕ) {b : Bool} (test : b ≡ length_right signal (length p)) where
  pub met_long : b ≡ true → {m : Met} → m ≡ met_of signal book records (our_in (get_or p 0 0)) → m ≡ met_in signal book records p
  unfolding met_in
  met_long t e = rw (← test, t) e

  pub met_short : b ≡ false → Err 0x11 ≡ met_in signal book records p
  unfolding met_in
  met_short f = rw (← test, f)

-- ---- What it comes to in the definitions

unfoldable pub met_as : OurSeid → List ℕ → Met → MetBy
met_as s b (Err code) = refused code
met_as s b (Ok at) = here at.index (entry_by s b at.kind at.from at.size)

by_may : (s : OurSeid) (b : List ℕ) (t : Bool) (at : Place) (code : ℕ)
    → (if t then here at.index (entry_by s b at.kind at.from at.size) else refused code)
    ≡ met_as s b (if t then Ok at else Err code)
unfolding met_as
by_may s b true at code = refl
by_may s b false at code = refl

by_place : (signal : Signal) (ends : Ends) (s : OurSeid) (b : List ℕ) (place : Option Place)
    → met_at signal ends (found_by s place b) ≡ met_as s b (met_by signal ends place)
unfolding met_at found_by met_by met_as
by_place signal ends s b None = refl
by_place signal ends s b (Some at) =
    by_may s b (may signal (end_at ends at.index).head.state (end_at ends at.index).head.channel) at
    (wrong_state signal (end_at ends at.index).head.state)

pub meets_as : (signal : Signal) (book records : List ℕ) (s : OurSeid)
    → meetsBy signal (book_of book) (ends_of book records) s ≡ met_as s book (met_of signal book records s)
unfolding meetsBy met_of
meets_as signal book records s =
    ap (met_at signal (ends_of book records)) (found_as s book (place_in s book) refl)
    ∙ by_place signal (ends_of book records) s book (place_in s book)

by_length : (b : Bool) (s : OurSeid) (book : List ℕ) (x : MetBy) (m : Met) → x ≡ met_as s book m
    → (if b then x else refused 0x11) ≡ met_as s book (if b then m else Err 0x11)
unfolding met_as
by_length true s book x m e = e
by_length false s book x m e = refl

preamble_as : (signal : Signal) (book records p : List ℕ)
    → preamble signal (book_of book) (ends_of book records) p ≡ met_as (our_in (get_or p 0 0)) book (met_in signal book records p)
unfolding preamble met_in
preamble_as signal book records p =
    by_length (length_right signal (length p)) (our_in (get_or p 0 0)) book _ _
    (meets_as signal book records (our_in (get_or p 0 0)))

-- ---- What the command leads to

-- the entry that a payload names
abbrev pub entry_in : List ℕ → List ℕ → Place → Entry
entry_in book p at = entry_by (our_in (get_or p 0 0)) book at.kind at.from at.size

module _ (signal : Signal) (book records p : List ℕ) (on : ℕ → Entry → Outcome) where
  outcome : {m : Met} → met_in signal book records p ≡ m
      → named signal (book_of book) (ends_of book records) p on
      ≡ at_met signal (ends_of book records) on (met_as (our_in (get_or p 0 0)) book m)
  unfolding named
  outcome e =
      ap (at_met signal (ends_of book records) on)
      (preamble_as signal book records p ∙ ap (met_as (our_in (get_or p 0 0)) book) e)

  pub refused_as : {code : ℕ} → met_in signal book records p ≡ Err code
      → named signal (book_of book) (ends_of book records) p on ≡ stays (ends_of book records) (rejects signal 0 code)
  unfolding met_as at_met
  refused_as e = outcome e

  pub acts_as : {at : Place} → met_in signal book records p ≡ Ok at
      → named signal (book_of book) (ends_of book records) p on ≡ on at.index (entry_in book p at)
  unfolding met_as at_met
  acts_as e = outcome e

-- ---- The endpoint that was met

-- what is known of it
pub record Stands (signal : Signal) (book records p : List ℕ) (at : Place) : Type 0 where
  pub long : length_right signal (length p) ≡ true
  pub placed : Placed (our_in (get_or p 0 0)) book at.index at.kind at.from at.size
  pub inside : (at.index + 1) * record_room ≤ length records
  pub told : config_size_at at.index records ≤ config_room
  pub shows : end_at (ends_of book records) at.index
      ≡ record { head = head_in (record_at at.index records); config = config_at at.index records }
  pub lawful : legal_end (entry_in book p at) (end_at (ends_of book records) at.index) ≡ true
  pub takes : let h = (end_at (ends_of book records) at.index).head in may signal h.state h.channel ≡ true

record Seen (signal : Signal) (ends : Ends) (place : Option Place) (at : Place) : Type 0 where
  there : place ≡ Some at
  takes : may signal (end_at ends at.index).head.state (end_at ends at.index).head.channel ≡ true

seen_may : (signal : Signal) (ends : Ends) (known at : Place)
    → Told? (may signal (end_at ends known.index).head.state (end_at ends known.index).head.channel)
    → met_by signal ends (Some known) ≡ Ok at → Seen signal ends (Some known) at
unfolding met_by
seen_may signal ends known at (passed t) e =
    let e' : ◌≡◌ {A = Met} (Ok known) (Ok at) = rw t at e in
    let same : known ≡ at = cc in
    subst (λ (x : Place). Seen signal ends (Some known) x) same (record { there = refl; takes = t })
seen_may signal ends known at (failed f) e =
    let e' : ◌≡◌ {A = Met} (Err (wrong_state signal (end_at ends known.index).head.state)) (Ok at) = rw f at e in
    cc

seen_place : (signal : Signal) (ends : Ends) (place : Option Place) (at : Place) → met_by signal ends place ≡ Ok at
    → Seen signal ends place at
unfolding met_by
seen_place signal ends None at e = cc
seen_place signal ends (Some known) at e =
    let h = (end_at ends known.index).head in
    seen_may signal ends known at (told (may signal h.state h.channel)) e

-- where a SEID that passed stands
pub met_placed : (signal : Signal) (book records : List ℕ) (s : OurSeid) (at : Place) → book_number book ≡ 0
    → met_of signal book records s ≡ Ok at → Placed s book at.index at.kind at.from at.size
unfolding met_of
met_placed signal book records s at right e =
    placed-in s book at.index at.kind at.from at.size right (seen_place signal (ends_of book records) _ at e).there

seen_long : (signal : Signal) (book records p : List ℕ) (at : Place) → Told? (length_right signal (length p))
    → met_in signal book records p ≡ Ok at
    → (length_right signal (length p) ≡ true) × Seen signal (ends_of book records) (place_in (our_in (get_or p 0 0)) book) at
unfolding met_in met_of
seen_long signal book records p at (passed t) e = (t, seen_place signal (ends_of book records) _ at (rw t at e))
seen_long signal book records p at (failed f) e =
    let e' : ◌≡◌ {A = Met} (Err 0x11) (Ok at) = rw f at e in cc

pub stands : {signal : Signal} {book records p reply : List ℕ} {at : Place} → Named signal book records p reply at
    → Stands signal book records p at
stands {signal} {book} {records} {p} {reply} {at} call =
    let s = our_in (get_or p 0 0) in
    let n = length (book_of book) in
    let seen = seen_long signal book records p at (told (length_right signal (length p))) call.met in
    let where_it_is = placed-in s book at.index at.kind at.from at.size call.serves.right seen.1.there in
    record {
      long = seen.0;
      placed = where_it_is;
      inside = record_inside n at.index records where_it_is.counted call.serves.held;
      told = length_told n at.index records where_it_is.counted call.serves.held;
      shows = loaded_one n at.index records where_it_is.counted;
      lawful = legal_at where_it_is.place (ends_in n records) call.serves.lawful;
      takes = seen.1.takes;
    }

-- Its record lies in the records, with a configuration.
module _ {signal : Signal} {book records p reply : List ℕ} {at : Place} (call : Named signal book records p reply at) where
  pub record_there : (at.index + 1) * record_room ≤ length records
  record_there = (stands call).inside

  pub config_there : config_size_at at.index records ≤ config_room
  config_there = (stands call).told

-- Its configuration is no longer than a reply may be.
pub config_short : {signal : Signal} {book records p : List ℕ} {at : Place} → Stands signal book records p at
    → length (config_at at.index records) ≤ 64
config_short {book = book} {records = records} {p = p} {at = at} it =
    rw it.shows at
    (end_short (entry_in book p at) (end_at (ends_of book records) at.index) it.placed.right it.lawful)
