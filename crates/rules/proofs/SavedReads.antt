-- The saved connection through its octets: a stored record begins with octets that are written out, so reading it computes, and
-- the records are cut from one another, and from the gathering before them, at seams whose places are known by the lengths.
use Prim.Native.Nat.{ℕ, zero, suc, ◌+◌, ◌*◌, ◌/◌, ◌%◌, ◌≤◌, ◌<◌}
use native.Mathlib.Nat.{div-add-mod'}
use native.Mathlib.Omega.{arith}
use mathlib.Core.Path.{◌≡◌, refl, sym, ap, ap₂, ◌∙◌}
use mathlib.Core.List.{List, [], ◌∷◌, ◌++◌}
use mathlib.Core.Bool.{Bool, true, false, ◌&&◌, ◌||◌}
use mathlib.Core.Option.{Option, none, some}
use mathlib.Core.Logic.{◌⊎◌, inl, inr}
use lib.ListN.{length, take, drop, get_or, replicate, length-append, length-take, length-drop, take-append-drop}
use lib.Seq.{length-take-le, take-append_seam, take_at, drop_at, drop-drop, drop-cons, take-suc, take-add}
use lib.Seq.{length_front as length-joined}
use lib.Dec.{leb, ltb, eqb, lit<, lit≤}
use lib.Arith.{digits_div, digits_mod}
use borrow.Author.Tests.{leb-true, le-leb, ltb-true, lt-ltb, eqb-true}
use Rattle.rules.specs.Octets.{octets_in, same_octets, each_of, front}
use Rattle.rules.specs.Book.{book_of}
use Rattle.rules.specs.Packets.{Gathering, longest, gathering_right}
use Rattle.rules.specs.Endpoints.{Endpoint, Ends, Connection, fresh_connection, legal_gathering}
use Rattle.rules.specs.Saved.{count_room, gathering_room, link_room, records_place, record_room, head_room, config_room, area_for}
use Rattle.rules.specs.Saved.{count_in, link_of, records_of, unused, pair_in, state_in, state_octet, channel_in, channel_octet}
use Rattle.rules.specs.Saved.{payload_length_in, delay_in, delay_mark, delay_tenths, head_in, config_in, endpoint_in}
use Rattle.rules.specs.Saved.{record_right}
use Rattle.rules.specs.Saved.{head_octets, store_end, ends_in, records_right, store_ends, gathering_at, gathering_in}
use Rattle.rules.specs.Saved.{gathering_octets_right, gathering_head, store_gathering, connection_in, store}
use Rattle.rules.specs.Computed.{computed}
use Rattle.rules.specs.Table.{trace_book}
use Rattle.rules.specs.declared.State.{State}
use Rattle.rules.specs.declared.State.TheVariants.{Idle, Configured, Open, Streaming, Closing, Aborting}
use Rattle.rules.specs.declared.Channel.{Channel}
use Rattle.rules.specs.declared.Channel.TheVariants.{Absent, Awaited, Up}
use Rattle.rules.specs.Delays.{Delay}
use Rattle.std.specs.Prelude.{None, Some}
use Rattle.rules.proofs.Tests.{and_l, and_r, and_both, same_octets_lem}

-- ---- Room: what an area must have, and a connection keep to, for the connection to be stored there

abbrev pub short_configs : Ends → Bool
short_configs ends = each_of (λ (e : Endpoint). leb (length e.config) 64) ends

abbrev pub PayloadFits : Option Gathering → Type 0
PayloadFits none = Unit {0}
PayloadFits (some g) = length g.message.payload ≤ 512

pub payload_fits : (g : Option Gathering) → legal_gathering g ≡ true → PayloadFits g
unfolding legal_gathering gathering_right longest
payload_fits none h = tt
payload_fits (some g) h = leb-true (length g.message.payload) 512 (search (and_l, and_r) depth 7)

pub record Roomy (c : Connection) (l : List ℕ) : Type 0 where
  pub area : area_for (length c.ends) ≤ length l
  pub configs : short_configs c.ends ≡ true
  pub payload : PayloadFits c.link.gathering

-- ---- What is read of one stored record, and of the stored gathering

pub front_length : (s r : List ℕ) → length s ≤ length r → length (front s r) ≡ length r
unfolding front
front_length s r h = length-joined r s (length s) (sym (length-take-le (length s) r h))

state_back : (s : State) → state_in (state_octet s) ≡ s
state_back Idle = refl
state_back Configured = refl
state_back Open = refl
state_back Streaming = refl
state_back Closing = refl
state_back Aborting = refl

channel_back : (c : Channel) → channel_in (channel_octet c) ≡ c
channel_back Absent = refl
channel_back Awaited = refl
channel_back Up = refl

delay_back : (d : Delay) → delay_in (delay_mark d) (pair_in (delay_tenths d / 256) (delay_tenths d % 256)) ≡ d
delay_back None = refl
delay_back (Some d) = ap Some (div-add-mod' d 256)

pub end_back : (e : Endpoint) (r : List ℕ) → endpoint_in (store_end e r) ≡ e
unfolding endpoint_in head_in config_in store_end head_octets front
end_back e r = λ i.
    record {
      head =
          record {
            seid = e.head.seid;
            state = state_back e.head.state i;
            channel = channel_back e.head.channel i;
            far = e.head.far;
            delay = delay_back e.head.delay i;
          };
      config = take-append_seam e.config (drop (length (head_octets e.head (length e.config) ++ e.config)) r) i;
    }

pub gathering_back : (g : Option Gathering) (r : List ℕ) → gathering_in (store_gathering g r) ≡ g
unfolding gathering_in gathering_at store_gathering gathering_head front
gathering_back none r = refl
gathering_back (some g) r = λ i.
    some (record {
      message =
          record {
            header = g.message.header;
            payload =
                take_at g.message.payload (drop (length (gathering_head g ++ g.message.payload)) r) _
                (sym (div-add-mod' (length g.message.payload) 256)) i;
          };
      count = g.count;
      parts = g.parts;
    })

-- a stored record is as long as what it replaces, and its octets are right
pub end_length : (e : Endpoint) (r : List ℕ) → length e.config ≤ 64 → length r ≡ record_room → length (store_end e r)
    ≡ record_room
unfolding store_end head_octets
end_length e r short long =
    front_length (head_octets e.head (length e.config) ++ e.config) r (omega arith) ∙ long

pub gathering_length : (g : Option Gathering) (r : List ℕ) → PayloadFits g → length r ≡ gathering_room
    → length (store_gathering g r) ≡ gathering_room
unfolding store_gathering gathering_head
gathering_length none r fits long = front_length (0 ∷ []) r (omega arith) ∙ long
gathering_length (some g) r fits long = front_length (gathering_head g ++ g.message.payload) r (omega arith) ∙ long

state_written : (s : State) → leb (state_octet s) 5 ≡ true
state_written Idle = refl
state_written Configured = refl
state_written Open = refl
state_written Streaming = refl
state_written Closing = refl
state_written Aborting = refl

channel_written : (c : Channel) → leb (channel_octet c) 2 ≡ true
channel_written Absent = refl
channel_written Awaited = refl
channel_written Up = refl

delay_written : (d : Delay)
    → eqb (delay_mark d) 1 || (eqb (delay_mark d) 0 && eqb (delay_tenths d / 256) 0 && eqb (delay_tenths d % 256) 0) ≡ true
delay_written None = refl
delay_written (Some d) = refl

pub end_right : (e : Endpoint) (r : List ℕ) → leb (length e.config) 64 ≡ true → record_right (store_end e r) ≡ true
unfolding record_right store_end head_octets front same_octets
end_right e r short =
    simp (state_written e.head.state, channel_written e.head.channel, delay_written e.head.delay, short) refl

pub gathering_right_lem : (g : Option Gathering) (r : List ℕ) → PayloadFits g
    → gathering_octets_right (store_gathering g r) ≡ true
unfolding gathering_octets_right store_gathering gathering_head front longest
gathering_right_lem none r fits = refl
gathering_right_lem (some g) r fits = rw (div-add-mod' (length g.message.payload) 256) (le-leb _ _ fits)

-- ---- All records

-- the endpoints have room in these octets, one record each
pub record Fits (ends : Ends) (l : List ℕ) : Type 0 where
  pub short : short_configs ends ≡ true
  pub room : length ends * record_room ≤ length l

pub first_room : (n : ℕ) (l : List ℕ) → suc n * record_room ≤ length l → length (take record_room l) ≡ record_room
first_room n l room = length-take-le record_room l (omega arith)

pub rest_room : (n : ℕ) (l : List ℕ) → suc n * record_room ≤ length l → n * record_room ≤ length (drop record_room l)
rest_room n l room = rw length-drop (omega arith)

pub drop_first : (n : ℕ) (l : List ℕ) → drop (suc n * record_room) l ≡ drop (n * record_room) (drop record_room l)
drop_first n l =
    let e : suc n * record_room ≡ record_room + n * record_room = omega arith in
    ap (λ (k : ℕ). drop k l) e ∙ sym (drop-drop (n * record_room) record_room l)

module _ (e : Endpoint) (ends : Ends) (l : List ℕ) (fits : Fits (e ∷ ends) l) where
  first_short : leb (length e.config) 64 ≡ true
  unfolding each_of
  first_short = and_l (leb (length e.config) 64) (short_configs ends) fits.short

  rest_fits : Fits ends (drop record_room l)
  unfolding each_of
  rest_fits =
      record {
        short = and_r (leb (length e.config) 64) (short_configs ends) fits.short;
        room = rest_room (length ends) l fits.room;
      }

  first_length : length (store_end e (take record_room l)) ≡ record_room
  first_length =
      end_length e (take record_room l) (leb-true (length e.config) 64 first_short) (first_room (length ends) l fits.room)

  first_stored : take record_room (store_ends (e ∷ ends) l) ≡ store_end e (take record_room l)
  unfolding store_ends
  first_stored = take_at (store_end e (take record_room l)) (store_ends ends (drop record_room l)) record_room first_length

  rest_stored : drop record_room (store_ends (e ∷ ends) l) ≡ store_ends ends (drop record_room l)
  unfolding store_ends
  rest_stored = drop_at (store_end e (take record_room l)) (store_ends ends (drop record_room l)) record_room first_length

pub ends_length : (ends : Ends) (l : List ℕ) → Fits ends l → length (store_ends ends l) ≡ length l
unfolding store_ends
ends_length [] l fits = refl
ends_length (e ∷ ends) l fits =
    let rest = ends_length ends (drop record_room l) (rest_fits e ends l fits) in
    simp (length-append, first_length e ends l fits, rest, length-drop) (omega arith)

pub ends_back : (ends : Ends) (l : List ℕ) → Fits ends l → ends_in (length ends) (store_ends ends l) ≡ ends
unfolding ends_in store_ends
ends_back [] l fits = refl
ends_back (e ∷ ends) l fits =
    rw (first_stored e ends l fits, rest_stored e ends l fits)
    (ap₂ ◌∷◌ (end_back e (take record_room l)) (ends_back ends (drop record_room l) (rest_fits e ends l fits)))

pub ends_right : (ends : Ends) (l : List ℕ) → Fits ends l → records_right (length ends) (store_ends ends l) ≡ true
unfolding records_right store_ends
ends_right [] l fits = refl
ends_right (e ∷ ends) l fits =
    rw (first_stored e ends l fits, rest_stored e ends l fits)
    (and_both _ _ (end_right e (take record_room l) (first_short e ends l fits))
    (ends_right ends (drop record_room l) (rest_fits e ends l fits)))

pub ends_behind : (ends : Ends) (l : List ℕ) → Fits ends l
    → drop (length ends * record_room) (store_ends ends l) ≡ drop (length ends * record_room) l
unfolding store_ends
ends_behind [] l fits = refl
ends_behind (e ∷ ends) l fits =
    drop_first (length ends) (store_ends (e ∷ ends) l)
    ∙ ap (λ (r : List ℕ). drop (length ends * record_room) r) (rest_stored e ends l fits)
    ∙ ends_behind ends (drop record_room l) (rest_fits e ends l fits)
    ∙ sym (drop_first (length ends) l)

-- ---- The connection

-- octets for the gathering, and for the records behind it
pub gathering_room_lem : (n : ℕ) (l : List ℕ) → area_for n ≤ length l → length (link_of l) ≡ link_room
unfolding area_for link_of
gathering_room_lem n l area = length-take-le link_room (drop count_room l) (rw length-drop (omega arith))

pub records_room : (n : ℕ) (l : List ℕ) → area_for n ≤ length l → n * record_room ≤ length (records_of l)
unfolding area_for records_of
records_room n l area = rw length-drop (omega arith)

module _ (c : Connection) (l : List ℕ) (roomy : Roomy c l) where
  records_fit : Fits c.ends (records_of l)
  records_fit = record { short = roomy.configs; room = records_room (length c.ends) l roomy.area }

  gathering_stored_length : length (store_gathering c.link.gathering (link_of l)) ≡ link_room
  gathering_stored_length =
      gathering_length c.link.gathering (link_of l) roomy.payload
      (gathering_room_lem (length c.ends) l roomy.area)

  gathering_stored : link_of (store c l) ≡ store_gathering c.link.gathering (link_of l)
  unfolding store link_of
  gathering_stored =
      take_at (store_gathering c.link.gathering (link_of l)) (store_ends c.ends (records_of l)) link_room
      gathering_stored_length

  ends_stored : records_of (store c l) ≡ store_ends c.ends (records_of l)
  unfolding store records_of
  ends_stored =
      drop_at (store_gathering c.link.gathering (link_of l)) (store_ends c.ends (records_of l)) link_room
      gathering_stored_length

  pub length_store : length (store c l) ≡ length l
  unfolding store area_for records_of
  length_store =
      simp (length-append, gathering_stored_length, ends_length c.ends (records_of l) records_fit, length-drop)
      (omega (arith, roomy.area))

  -- what was stored is what is read
  pub reads_stored : connection_in (length c.ends) (store c l) ≡ c
  unfolding connection_in
  reads_stored = λ i.
      record {
        ends = (ap (ends_in (length c.ends)) ends_stored ∙ ends_back c.ends (records_of l) records_fit) i;
        link = record { gathering = (ap gathering_in gathering_stored ∙ gathering_back c.link.gathering (link_of l)) i };
      }

  -- and what is stored is never refused for its octets
  pub stored_octets_right : (gathering_octets_right (link_of (store c l)) ≡ true)
      × (records_right (length c.ends) (records_of (store c l)) ≡ true)
  stored_octets_right = (
    rw gathering_stored (gathering_right_lem c.link.gathering (link_of l) roomy.payload),
    rw ends_stored (ends_right c.ends (records_of l) records_fit),
  )

  -- the count is that of the endpoints
  pub count_stored : count_in (store c l) ≡ length c.ends
  unfolding store count_in
  count_stored = refl

  -- octets behind the layout are never touched
  pub behind_untouched : drop (area_for (length c.ends)) (store c l) ≡ drop (area_for (length c.ends)) l
  unfolding area_for records_of
  behind_untouched =
      sym (drop-drop (length c.ends * record_room) records_place (store c l))
      ∙ ap (λ (r : List ℕ). drop (length c.ends * record_room) r) ends_stored
      ∙ ends_behind c.ends (records_of l) records_fit
      ∙ drop-drop (length c.ends * record_room) records_place l

-- ---- Storing what was read

-- an octet past the end is read as 0
pub octet_at_lem : (l : List ℕ) (i : ℕ) → octets_in l ≡ true → get_or l i 0 < 256
unfolding each_of
octet_at_lem [] i e = lit< tt
octet_at_lem (o ∷ l) zero e = ltb-true o 256 (and_l (ltb o 256) (octets_in l) e)
octet_at_lem (o ∷ l) (suc i) e = octet_at_lem l i (and_r (ltb o 256) (octets_in l) e)

-- and the other way: a list whose places hold octets
pub octets_known : (l : List ℕ) → ((i : ℕ) → get_or l i 0 < 256) → octets_in l ≡ true
unfolding each_of
octets_known [] h = refl
octets_known (o ∷ l) h =
    and_both (ltb o 256) (octets_in l) (lt-ltb o 256 (h 0)) (octets_known l (λ i. h (suc i)))

pub octets_take : (n : ℕ) (l : List ℕ) → octets_in l ≡ true → octets_in (take n l) ≡ true
unfolding each_of
octets_take zero l e = refl
octets_take (suc n) [] e = refl
octets_take (suc n) (o ∷ l) e =
    and_both (ltb o 256) (octets_in (take n l)) (and_l (ltb o 256) (octets_in l) e)
    (octets_take n l (and_r (ltb o 256) (octets_in l) e))

pub octets_drop : (n : ℕ) (l : List ℕ) → octets_in l ≡ true → octets_in (drop n l) ≡ true
unfolding each_of
octets_drop zero l e = e
octets_drop (suc n) [] e = refl
octets_drop (suc n) (o ∷ l) e = octets_drop n l (and_r (ltb o 256) (octets_in l) e)

-- writing what is there changes nothing
pub front_same : (s r : List ℕ) (n : ℕ) → s ≡ take n r → n ≤ length r → front s r ≡ r
unfolding front
front_same s r n e h = rw e (rw (length-take-le n r h) (take-append-drop n r))

-- n octets from place k on, read one by one
unfoldable pub octets_from : ℕ → ℕ → List ℕ → List ℕ
octets_from zero k r = []
octets_from (suc n) k r = get_or r k 0 ∷ octets_from n (suc k) r

pub octets_from_lem : (n k : ℕ) (r : List ℕ) → k + n ≤ length r → octets_from n k r ≡ take n (drop k r)
unfolding octets_from
octets_from_lem zero k r h = refl
octets_from_lem (suc n) k r h =
    ap (◌∷◌ (get_or r k 0)) (octets_from_lem n (suc k) r (omega arith)) ∙ ap (take (suc n)) (sym (drop-cons r k 0 (omega arith)))

first_eight : (r : List ℕ) → 8 ≤ length r
    → get_or r 0 0 ∷ get_or r 1 0 ∷ get_or r 2 0 ∷ get_or r 3 0 ∷ get_or r 4 0 ∷ get_or r 5 0 ∷ get_or r 6 0 ∷ get_or r 7 0 ∷ []
    ≡ take 8 r
unfolding octets_from
first_eight r h = octets_from_lem 8 0 r h

either : (a b : Bool) → a || b ≡ true → (a ≡ true) ⊎ (b ≡ true)
either true b e = inl refl
either false b e = inr e

state_kept : (o : ℕ) → o ≤ 5 → state_octet (state_in o) ≡ o
state_kept zero h = refl
state_kept (suc zero) h = refl
state_kept (suc (suc zero)) h = refl
state_kept (suc (suc (suc zero))) h = refl
state_kept (suc (suc (suc (suc zero)))) h = refl
state_kept (suc (suc (suc (suc (suc zero))))) h = refl
state_kept (suc (suc (suc (suc (suc (suc o)))))) h = omega arith

channel_kept : (o : ℕ) → o ≤ 2 → channel_octet (channel_in o) ≡ o
channel_kept zero h = refl
channel_kept (suc zero) h = refl
channel_kept (suc (suc zero)) h = refl
channel_kept (suc (suc (suc o))) h = omega arith

-- a delay's three octets, as they are written
abbrev delay_octets : Delay → List ℕ
delay_octets d = delay_mark d ∷ delay_tenths d / 256 ∷ delay_tenths d % 256 ∷ []

delay_kept : (mark high low : ℕ) → low < 256 → eqb mark 1 || (eqb mark 0 && eqb high 0 && eqb low 0) ≡ true
    → delay_octets (delay_in mark (pair_in high low)) ≡ mark ∷ high ∷ low ∷ []
delay_kept mark high low small e = go (either (eqb mark 1) (eqb mark 0 && eqb high 0 && eqb low 0) e)
  where
    go : (eqb mark 1 ≡ true) ⊎ (eqb mark 0 && eqb high 0 && eqb low 0 ≡ true)
        → delay_octets (delay_in mark (pair_in high low)) ≡ mark ∷ high ∷ low ∷ []
    go (inl t) = rw (eqb-true mark 1 t, digits_div high small, digits_mod high small)
    go (inr t) =
        rw (
          eqb-true mark 0 (search (and_l, and_r)),
          eqb-true high 0 (search (and_l, and_r)),
          eqb-true low 0 (search (and_l, and_r)),
        )

-- what the test of a record's octets says of each
module _ (r : List ℕ) (right : record_right r ≡ true) where
  state_right : get_or r 1 0 ≤ 5
  unfolding record_right
  state_right = leb-true _ _ (search (and_l, and_r))

  channel_right_lem : get_or r 2 0 ≤ 2
  unfolding record_right
  channel_right_lem = leb-true _ _ (search (and_l, and_r))

  delay_right_lem : eqb (get_or r 4 0) 1 || (eqb (get_or r 4 0) 0 && eqb (get_or r 5 0) 0 && eqb (get_or r 6 0) 0) ≡ true
  unfolding record_right
  delay_right_lem = search (and_l, and_r)

  config_right : get_or r 7 0 ≤ config_room
  unfolding record_right
  config_right = leb-true _ _ (search (and_l, and_r))

  unused_right : take 8 (drop 8 r) ≡ unused
  unfolding record_right
  unused_right = same_octets_lem (take 8 (drop 8 r)) unused (search (and_l, and_r))

-- what lies behind a head of n octets, where its length is k
body_length : (n k : ℕ) (r : List ℕ) → n + k ≤ length r → length (take k (drop n r)) ≡ k
body_length n k r h = length-take-le k (drop n r) (rw length-drop (omega arith))

body_kept : (n : ℕ) (s : List ℕ) (k : ℕ) (r : List ℕ) → s ≡ take n r → n + k ≤ length r → front (s ++ take k (drop n r)) r ≡ r
body_kept n s k r e h = front_same (s ++ take k (drop n r)) r (n + k) (rw e (sym (take-add n k r))) h

module _ (r : List ℕ) (long : length r ≡ record_room) (right : record_right r ≡ true) (octets : octets_in r ≡ true) where
  config_room_lem : head_room + get_or r 7 0 ≤ length r
  config_room_lem = let short = config_right r right in omega arith

  pub head_kept : head_octets (head_in r) (length (config_in r)) ≡ take head_room r
  unfolding head_octets head_in config_in
  head_kept =
      rw (
        state_kept _ (state_right r right),
        channel_kept _ (channel_right_lem r right),
        body_length head_room (get_or r 7 0) r config_room_lem,
      )
      (ap (λ (t : List ℕ). get_or r 0 0 ∷ get_or r 1 0 ∷ get_or r 2 0 ∷ get_or r 3 0 ∷ (t ++ (get_or r 7 0 ∷ unused)))
      (delay_kept (get_or r 4 0) (get_or r 5 0) (get_or r 6 0) (octet_at_lem r 6 octets) (delay_right_lem r right))
      ∙ ap₂ ◌++◌ (first_eight r (omega arith)) (sym (unused_right r right))
      ∙ sym (take-add 8 8 r))

  pub end_kept : store_end (endpoint_in r) r ≡ r
  unfolding store_end endpoint_in config_in
  end_kept = body_kept head_room (head_octets (head_in r) (length (config_in r))) (get_or r 7 0) r head_kept config_room_lem

gathering_head_kept : (r : List ℕ) → get_or r 0 0 ≡ 1 → 8 + payload_length_in r ≤ length r → octets_in r ≡ true
    → gathering_head (gathering_at r) ≡ take 8 r
unfolding gathering_head gathering_at
gathering_head_kept r mark room octets =
    rw (
      ← first_eight r (omega arith),
      mark,
      body_length 8 (payload_length_in r) r room,
      digits_div (get_or r 6 0) (octet_at_lem r 7 octets),
      digits_mod (get_or r 6 0) (octet_at_lem r 7 octets),
    )

pub gathering_kept : (r : List ℕ) → length r ≡ gathering_room → gathering_octets_right r ≡ true → octets_in r ≡ true
    → store_gathering (gathering_in r) r ≡ r
unfolding gathering_octets_right gathering_in store_gathering gathering_at longest
gathering_kept r long right octets =
    go (either (eqb (get_or r 0 0) 0) (eqb (get_or r 0 0) 1 && leb (payload_length_in r) longest) right)
  where
    go : (eqb (get_or r 0 0) 0 ≡ true) ⊎ (eqb (get_or r 0 0) 1 && leb (payload_length_in r) longest ≡ true)
        → store_gathering (gathering_in r) r ≡ r
    go (inl t) =
        let first = take-suc r 0 0 (omega arith) in
        rw t (front_same (0 ∷ []) r 1 (sym (rw (eqb-true (get_or r 0 0) 0 t) at first)) (omega arith))
    go (inr t) =
        let mark = eqb-true (get_or r 0 0) 1 (and_l _ (leb (payload_length_in r) longest) t) in
        let fits = leb-true (payload_length_in r) 512 (and_r (eqb (get_or r 0 0) 1) _ t) in
        let room : 8 + payload_length_in r ≤ length r = omega arith in
        rw mark
        (body_kept 8 (gathering_head (gathering_at r)) (payload_length_in r) r (gathering_head_kept r mark room octets) room)

pub ends_kept : (n : ℕ) (l : List ℕ) → n * record_room ≤ length l → records_right n l ≡ true → octets_in l ≡ true
    → store_ends (ends_in n l) l ≡ l
unfolding ends_in records_right store_ends
ends_kept zero l room right octets = refl
ends_kept (suc n) l room right octets =
    ap₂ ◌++◌
    (end_kept (take record_room l) (first_room n l room) (and_l _ (records_right n (drop record_room l)) right)
    (octets_take record_room l octets))
    (ends_kept n (drop record_room l) (rest_room n l room) (and_r (record_right (take record_room l)) _ right)
    (octets_drop record_room l octets))
    ∙ take-append-drop record_room l

pub length_ends_in : (n : ℕ) (l : List ℕ) → length (ends_in n l) ≡ n
unfolding ends_in
length_ends_in zero l = refl
length_ends_in (suc n) l = ap suc (length_ends_in n (drop record_room l))

-- an area by its parts
parts_joined : (l : List ℕ) → records_place ≤ length l → count_in l ∷ (link_of l ++ records_of l) ≡ l
unfolding count_in link_of records_of
parts_joined l long =
    ap (λ (t : List ℕ). get_or l 0 0 ∷ (take link_room (drop count_room l) ++ t)) (sym (drop-drop link_room count_room l))
    ∙ ap (λ (t : List ℕ). get_or l 0 0 ∷ t) (take-append-drop link_room (drop count_room l))
    ∙ sym (drop-cons l 0 0 (omega (arith, long)))

-- what stands before the records
pub front_parts : (l : List ℕ) → count_room ≤ length l → take records_place l ≡ count_in l ∷ link_of l
unfolding count_in link_of
front_parts [] long = absurd (omega arith)
front_parts (x ∷ l) long = refl

-- storing what was read changes no octet
pub store_read : (n : ℕ) (l : List ℕ) → count_in l ≡ n → area_for n ≤ length l → gathering_octets_right (link_of l) ≡ true
    → records_right n (records_of l) ≡ true → octets_in l ≡ true → store (connection_in n l) l ≡ l
unfolding store connection_in area_for link_of records_of
store_read n l count area gathering records octets =
    ap₂ (λ (k : ℕ) (t : List ℕ). k ∷ t) (length_ends_in n (records_of l) ∙ sym count)
    (ap₂ ◌++◌
    (gathering_kept (link_of l) (gathering_room_lem n l area) gathering
    (octets_take link_room _ (octets_drop count_room l octets)))
    (ends_kept n (records_of l) (records_room n l area) records (octets_drop records_place l octets)))
    ∙ parts_joined l (omega arith)

-- ---- What has room

pub read_config : (r : List ℕ) → record_right r ≡ true → length (endpoint_in r).config ≤ 64
unfolding endpoint_in config_in
read_config r right = omega (arith, config_right r right, length-take (get_or r 7 0) (drop head_room r))

pub read_short : (n : ℕ) (l : List ℕ) → records_right n l ≡ true → short_configs (ends_in n l) ≡ true
unfolding ends_in records_right each_of
read_short zero l right = refl
read_short (suc n) l right =
    and_both _ _
    (le-leb _ 64 (read_config (take record_room l) (and_l _ (records_right n (drop record_room l)) right)))
    (read_short n (drop record_room l) (and_r (record_right (take record_room l)) _ right))

-- the fresh connection of the traces' book has room in an area for its two endpoints
pub fresh_roomy : Roomy (fresh_connection (book_of trace_book)) (replicate (area_for 2) 0xDD)
unfolding computed trace_book
fresh_roomy = record { area = lit≤ tt; configs = refl; payload = tt }

-- and an area with all that `store_read` asks: a count of two and zeros, read as idle endpoints of SEID 0
pub zeros_kept : let l : List ℕ = 2 ∷ replicate 680 0 in store (connection_in 2 l) l ≡ l
unfolding computed
zeros_kept = store_read 2 (2 ∷ replicate 680 0) refl (lit≤ tt) refl refl refl
