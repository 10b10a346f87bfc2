-- Every step on a legal connection leaves a legal one: endpoints and gathering are looked at apart, and a link event moves each
-- endpoint by a legal move or not at all.
use Prim.Native.Nat.{ℕ, ◌≤◌}
use native.Mathlib.Omega.{arith}
use mathlib.Core.Path.{◌≡◌, refl, sym}
use mathlib.Core.List.{List, [], ◌∷◌, map}
use mathlib.Core.Bool.{true, not}
use mathlib.Core.Option.{Option, none, some}
use lib.ListN.{set}
use lib.Dec.{eqb}
use borrow.Author.Tests.{leb-true, le-leb, eqb-true, eq-eqb}
use Rattle.rules.specs.Octets.{is_empty}
use Rattle.rules.specs.Book.{Entry, Book, Found, unknown, known, find}
use Rattle.rules.specs.Packets.{Message, Gathering, gather}
use Rattle.rules.specs.Endpoints.{Endpoint, Ends, Connection, idle, fresh_ends, fresh_connection, is_absent, is_awaited, is_up}
use Rattle.rules.specs.Endpoints.{is_idle, is_reported, channel_right, keeps_nothing, legal_end, legal_ends, awaiting}
use Rattle.rules.specs.Endpoints.{legal_gathering, legal, with_channel, forgotten, end_at, Moved, up_in, with_ends, down_at}
use Rattle.rules.specs.Endpoints.{happens, moved_by, fresh_link}
use Rattle.rules.specs.Host.{handled_by, takes}
use Rattle.rules.specs.declared.State.TheVariants.{Idle}
use Rattle.rules.specs.declared.Channel.{Channel}
use Rattle.rules.specs.declared.Channel.TheVariants.{Absent, Awaited, Up}
use Rattle.rules.specs.Delays.{Delay}
use Rattle.std.specs.Prelude.{None, Some}
use Rattle.rules.specs.declared.Event.{Event}
use Rattle.rules.specs.declared.Event.TheVariants.{Down, Lost}
use Rattle.rules.proofs.Tests.{clash, and_l, and_r, and_both}
use Rattle.rules.proofs.Places.{At, find_known, legal_at, awaits}
use Rattle.rules.proofs.Outcomes.{if_arms}
use Rattle.rules.proofs.LegalMoves.{idle_legal, forgotten_legal, came_up_legal, idle_keeps, legal_channel}
use Rattle.rules.proofs.CommandsLegal.{LegalEnds, put_legal, answer_legal}
use Rattle.rules.proofs.RightMessages.{gather_right}

-- ---- A legal connection taken apart and put together

module _ (book : Book) (c : Connection) where
  pub legal_ends_lem : legal book c ≡ true → LegalEnds book c.ends
  unfolding legal
  legal_ends_lem h = record { every = search (and_l, and_r); one = search (and_l, and_r) }

  pub legal_gathering_lem : legal book c ≡ true → legal_gathering c.link.gathering ≡ true
  unfolding legal
  legal_gathering_lem h = search (and_l, and_r)

  pub both_legal : LegalEnds book c.ends → legal_gathering c.link.gathering ≡ true → legal book c ≡ true
  unfolding legal
  both_legal h g = rw (h.every, h.one, g)

-- ---- A fresh connection

fresh_ends_legal : (book : Book) → legal_ends book (fresh_ends book) ≡ true
unfolding legal_ends fresh_ends
fresh_ends_legal [] = refl
fresh_ends_legal (n ∷ book) =
    and_both (legal_end n (idle n.seid)) (legal_ends book (fresh_ends book))
    (idle_legal n n.seid (eq-eqb n.seid.0 n.seid.0 refl)) (fresh_ends_legal book)

fresh_awaits : (book : Book) → awaiting (fresh_ends book) ≡ 0
unfolding awaiting fresh_ends idle is_awaited
fresh_awaits [] = refl
fresh_awaits (n ∷ book) = let r = fresh_awaits book in omega arith

pub fresh_legal : (book : Book) → legal book (fresh_connection book) ≡ true
unfolding fresh_connection legal_gathering
fresh_legal book =
    both_legal book (fresh_connection book) (record { every = fresh_ends_legal book; one = rw (fresh_awaits book) refl }) refl

-- ---- A packet

handled_legal : (book : Book) (ends : Ends) (g : Option Gathering) (done : Option Message) → LegalEnds book ends
    → legal_gathering g ≡ true → legal book (handled_by book ends g done).connection ≡ true
unfolding handled_by
handled_legal book ends g none h l = both_legal book (record { ends = ends; link = record { gathering = g } }) h l
handled_legal book ends g (some m) h l = both_legal book _ (answer_legal book ends h m) l

pub takes_legal : (book : Book) (size : ℕ) (c : Connection) (p : List ℕ) → legal book c ≡ true
    → legal book (takes book size c p).connection ≡ true
unfolding takes
takes_legal book size c p h =
    let s = gather size c.link.gathering p in
    handled_legal book c.ends s.gathering s.done (legal_ends_lem book c h)
    (gather_right size c.link.gathering p (legal_gathering_lem book c h)).gathering

-- ---- The link events

up_legal : (book : Book) (ends : Ends) → legal_ends book ends ≡ true → legal_ends book (up_in ends) ≡ true
unfolding up_in legal_ends
up_legal [] [] h = h
up_legal (n ∷ book) [] h = h
up_legal [] (e ∷ ends) h = clash refl (sym h)
up_legal (n ∷ book) (e ∷ ends) h =
    let first = and_l (legal_end n e) (legal_ends book ends) h in
    let rest = and_r (legal_end n e) (legal_ends book ends) h in
    if_arms (λ es. legal_ends (n ∷ book) es ≡ true) (is_awaited e.head.channel) (moved_by (with_channel Up) e ∷ ends)
    (e ∷ up_in ends)
    (λ a. and_both (legal_end n (moved_by (with_channel Up) e)) (legal_ends book ends) (came_up_legal n e first a) rest)
    (λ f. and_both (legal_end n e) (legal_ends book (up_in ends)) first (up_legal book ends rest))

up_awaits : (ends : Ends) → awaiting (up_in ends) ≤ awaiting ends
unfolding up_in awaiting moved_by is_awaited
up_awaits [] = omega arith
up_awaits (e ∷ ends) =
    let rest = up_awaits ends in
    if_arms (λ es. awaiting es ≤ awaiting (e ∷ ends)) (is_awaited e.head.channel) (moved_by (with_channel Up) e ∷ ends)
    (e ∷ up_in ends)
    (λ a. omega arith) (λ f. omega arith)

lost_legal : (book : Book) (ends : Ends) → legal_ends book ends ≡ true → legal_ends book (map forgotten ends) ≡ true
unfolding legal_ends
lost_legal [] [] h = h
lost_legal (n ∷ book) [] h = h
lost_legal [] (e ∷ ends) h = h
lost_legal (n ∷ book) (e ∷ ends) h =
    and_both (legal_end n (forgotten e)) (legal_ends book (map forgotten ends))
    (forgotten_legal n e (and_l (legal_end n e) (legal_ends book ends) h))
    (lost_legal book ends (and_r (legal_end n e) (legal_ends book ends) h))

lost_awaits : (ends : Ends) → awaiting (map forgotten ends) ≡ 0
unfolding awaiting forgotten idle is_awaited
lost_awaits [] = refl
lost_awaits (e ∷ ends) = let rest = lost_awaits ends in omega arith

module _ (book : Book) (c : Connection) (h : legal book c ≡ true) where
  with_ends_legal : (ends : Ends) → LegalEnds book ends → legal book (with_ends ends c) ≡ true
  unfolding with_ends
  with_ends_legal ends l = both_legal book (with_ends ends c) l (legal_gathering_lem book c h)

  down_legal : (f : Found) → ((i : ℕ) (n : Entry) → f ≡ known i n → At book i n) → legal book (down_at f c).connection ≡ true
  unfolding down_at awaits forgotten idle is_awaited
  down_legal unknown k = h
  down_legal (known i n) k =
      let ends = c.ends in
      let e = end_at ends i in
      let l = legal_ends_lem book c h in
      if_arms (λ (m : Moved). legal book m.connection ≡ true) (is_up e.head.channel) _ _
      (λ u. with_ends_legal (set ends i (forgotten e))
      (put_legal book ends l i n (forgotten e) (k i n refl) (forgotten_legal n e (legal_at (k i n refl) ends l.every))
      (omega arith)))
      (λ f. h)

  pub happens_legal : (e : Event) → legal book (happens book c e).connection ≡ true
  unfolding happens legal_gathering
  happens_legal Event.Up =
      let l = legal_ends_lem book c h in
      let fewer = up_awaits c.ends in
      let one = leb-true (awaiting c.ends) 1 l.one in
      if_arms (λ (m : Moved). legal book m.connection ≡ true) (eqb (awaiting c.ends) 0) _ _ (λ n. h)
      (λ a. with_ends_legal (up_in c.ends)
      (record { every = up_legal book c.ends l.every; one = le-leb (awaiting (up_in c.ends)) 1 (omega arith) }))
  happens_legal (Down s) = down_legal (find s book) (λ i n e. (find_known s book i n e).place)
  happens_legal Lost =
      both_legal book (record { ends = map forgotten c.ends; link = fresh_link })
      (record { every = lost_legal book c.ends (legal_ends_lem book c h).every; one = rw (lost_awaits c.ends) refl }) refl

-- ---- Idle endpoints are all alike

absent_is : (c : Channel) → is_absent c ≡ true → c ≡ Absent
unfolding is_absent
absent_is Absent h = refl
absent_is Awaited h = clash h refl
absent_is Up h = clash h refl

unreported_is : (d : Delay) → not (is_reported d) ≡ true → d ≡ None
unfolding is_reported
unreported_is None h = refl
unreported_is (Some d) h = clash h refl

pub empty_is : (l : List ℕ) → is_empty l ≡ true → l ≡ []
unfolding is_empty
empty_is [] h = refl
empty_is (x ∷ l) h = clash h refl

pub idle_forgets : (n : Entry) (e : Endpoint) → legal_end n e ≡ true → e.head.state ≡ Idle → e ≡ idle e.head.seid
unfolding idle keeps_nothing channel_right is_idle
idle_forgets n e h i =
    let nothing = idle_keeps n e h (rw i refl) in
    let channel = absent_is e.head.channel (rw i at (legal_channel n e h)) in
    let far = eqb-true e.head.far.0 0 (search (and_l, and_r)) in
    let config = empty_is e.config (search (and_l, and_r)) in
    let delay = unreported_is e.head.delay (search (and_l, and_r)) in
    λ k.
    record {
      head =
          record { seid = e.head.seid; state = i k; channel = channel k; far = record { 0 = far k }; delay = delay k };
      config = config k;
    }
