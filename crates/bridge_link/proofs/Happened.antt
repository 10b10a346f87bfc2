-- The link events over the whole saved area: what happens to the records behind the gathering is what happens to the connection,
-- and storing the gathering that was read changes none of its octets.
use Prim.Native.Nat.{ℕ, ◌-◌}
use native.Mathlib.Omega.{arith}
use mathlib.Core.Path.{◌≡◌, refl, sym, ap, ap₂, ◌∙◌, subst}
use mathlib.Core.List.{List, ◌∷◌, ◌++◌}
use mathlib.Core.Bool.{true}
use mathlib.Core.Option.{none}
use lib.ListN.{length, take, drop, set, take-append-drop}
use lib.Dec.{eqb}
use borrow.Author.Tests.{ne_eqb}
use borrow.Rule.Slice.PartMut.{put_mid}
use Rattle.rules.specs.Book.{book_of, Entry, Found, unknown, known, find}
use Rattle.rules.specs.Endpoints.{Ends, Connection, end_at, awaiting, is_up, up_in, forgotten, with_ends, legal, Moved, down_at}
use Rattle.rules.specs.Endpoints.{happens}
use Rattle.rules.specs.Saved.{count_room, link_room, records_place, link_of, records_of, ends_in, store_ends, gathering_in}
use Rattle.rules.specs.Saved.{store_gathering, connection_in, store}
use Rattle.rules.specs.Host.{number_or, refusal_of, event_call}
use Rattle.rules.specs.Refusals.{number_of}
use Rattle.rules.specs.declared.OurSeid.{OurSeid}
use Rattle.rules.specs.declared.refusals.Refusal.{Refusal}
use Rattle.rules.specs.declared.Event.{Event}
use Rattle.rules.specs.declared.Event.TheVariants.{Up, Down, Lost}
use Rattle.rules.proofs.Refusing.{never_0, refused_first}
use Rattle.rules.proofs.Tests.{Told?, told, passed, failed}
use Rattle.rules.proofs.SavedReads.{octets_take, octets_drop, gathering_kept, front_parts}
use Rattle.rules.proofs.Places.{legal_length}
use Rattle.rules.proofs.StaysLegal.{legal_ends_lem, happens_legal}
use Rattle.rules.proofs.SavedStaysRight.{right_legal}
use Rattle.saved.specs.Held.{Held}
use Rattle.saved_events.specs.Events.{MovedRecords, upped, downed, downed_at, all_idle}
use Rattle.rules.specs.Calls.{Happens}
use Rattle.octets.proofs.Tails.{behind_whole, tail_back}
use Rattle.bridge_link.proofs.RecordsBack.{cleared_back}
use Rattle.bridge_refusals.proofs.Refusing.{Calm}

module _ (book saved : List ℕ) where
  pub event_refused : (e : Event) (refusal : Refusal) → number_of refusal ≡ refusal_of book saved
      → Happens book saved e (number_of refusal) saved
  unfolding event_call
  event_refused e refusal r =
      let m = happens (book_of book) (connection_in (length (book_of book)) saved) e in
      let same : number_of refusal ≡ number_or (refusal_of book saved) m.number =
      sym (refused_first refusal m.number) ∙ ap (λ (k : ℕ). number_or k m.number) r in
      rw (← same, ne_eqb (number_of refusal) 0 (never_0 refusal))

  module _ (calm : Calm book saved) where
    abbrev lent : List ℕ
    lent = take (length saved - records_place) (drop records_place saved)

    abbrev behind : List ℕ
    behind = records_of saved

    abbrev connection : Connection
    connection = connection_in (length (book_of book)) saved

    -- the records as they are lent
    pub lent_held : (b : List ℕ) (n : ℕ) → b ≡ book → n ≡ length (book_of b) → Held n lent
    unfolding records_of
    lent_held b n same e = rw (e, same, behind_whole records_place saved) calm.inside.held

    -- ---- An event that leaves the gathering

    abbrev room : List ℕ
    room = link_of saved

    gathering_stays : store_gathering (gathering_in room) room ≡ room
    unfolding link_of
    gathering_stays =
        let right = calm.inside.room in
        gathering_kept room right.long right.octets
        (octets_take link_room (drop count_room saved) (octets_drop count_room saved calm.octets))

    -- what stands before the records is what is stored there with as many endpoints
    front_stays : (ends : Ends) → length ends ≡ length (book_of book)
        → take records_place saved ≡ length ends ∷ store_gathering (gathering_in room) room
    front_stays ends counted =
        front_parts saved (omega (arith, calm.long))
        ∙ ap₂ ◌∷◌ (calm.inside.count ∙ sym counted) (sym gathering_stays)

    -- no event changes how many there are
    same_count : (e : Event) (c : Connection) → (happens (book_of book) connection e).connection ≡ c
        → length c.ends ≡ length (book_of book)
    same_count e c h =
        let was = right_legal (book_of book) saved calm.lawful in
        let lawful =
        subst (λ (x : Connection). legal (book_of book) x ≡ true) h (happens_legal (book_of book) connection was e) in
        legal_length (book_of book) c.ends (legal_ends_lem (book_of book) c lawful).every

    module _ (e : Event) (number : ℕ) (m : List ℕ) where
      abbrev back : List ℕ
      back = put_mid records_place (length saved - records_place) saved m

      not_moved : happens (book_of book) connection e ≡ record { number = 10; connection = connection }
          → ◌≡◌ {A = MovedRecords} (record { number = number; records = m }) (record { number = 10; records = behind })
          → Happens book saved e number back
      unfolding event_call number_or records_of
      not_moved h t =
          ap (λ (x : MovedRecords). record
          { number = x.number; saved = put_mid records_place (length saved - records_place) saved x.records }) t
          ∙ ap (λ (x : List ℕ). record { number = 10; saved = x })
          (tail_back records_place saved behind ∙ take-append-drop records_place saved)
          ∙ sym (rw (calm.allowed, h))

      moved : (ends : Ends)
          → happens (book_of book) connection e ≡ record { number = 0; connection = with_ends ends connection }
          → ◌≡◌ {A = MovedRecords} (record { number = number; records = m })
          (record { number = 0; records = store_ends ends behind })
          → Happens book saved e number back
      unfolding event_call number_or store with_ends connection_in records_of
      moved ends h t =
          let counted = same_count e (with_ends ends connection) (ap (λ (x : Moved). x.connection) h) in
          ap (λ (x : MovedRecords). record
          { number = x.number; saved = put_mid records_place (length saved - records_place) saved x.records }) t
          ∙ ap (λ (x : List ℕ). record { number = 0; saved = x })
          (tail_back records_place saved (store_ends ends behind)
          ∙ ap (λ (x : List ℕ). x ++ store_ends ends behind) (front_stays ends counted))
          ∙ sym (rw (calm.allowed, h))

    -- Channel up
    pub up_happens : (event : Event) (b : List ℕ) (n number : ℕ) (m : List ℕ) → event ≡ Up → b ≡ book → n ≡ length (book_of b)
        → ◌≡◌ {A = MovedRecords} (record { number = number; records = m }) (upped n lent)
        → Happens book saved event number (put_mid records_place (length saved - records_place) saved m)
    unfolding upped happens connection_in records_of
    up_happens event b n number m is same e t = go (told (eqb (awaiting ends) 0))
      where
        ends : Ends
        ends = ends_in (length (book_of book)) behind

        this : happens (book_of book) connection event ≡ happens (book_of book) connection Up
        this = ap (happens (book_of book) connection) is

        stands : ◌≡◌ {A = MovedRecords} (record { number = number; records = m }) (upped (length (book_of book)) behind)
        stands = t ∙ rw (e, same, behind_whole records_place saved)

        go : Told? (eqb (awaiting ends) 0)
            → Happens book saved event number (put_mid records_place (length saved - records_place) saved m)
        go (passed p) = not_moved event number m (this ∙ rw p) (stands ∙ rw p)
        go (failed p) = moved event number m (up_in ends) (this ∙ rw p) (stands ∙ rw p)

    -- Channel down
    pub down_happens : (event : Event) (b : List ℕ) (s : OurSeid) (number : ℕ) (m : List ℕ) → event ≡ Down s → b ≡ book
        → ◌≡◌ {A = MovedRecords} (record { number = number; records = m }) (downed s (book_of b) lent)
        → Happens book saved event number (put_mid records_place (length saved - records_place) saved m)
    unfolding downed downed_at happens down_at connection_in records_of
    down_happens event b s number m is same t = go (find s (book_of book)) refl
      where
        ends : Ends
        ends = ends_in (length (book_of book)) behind

        this : happens (book_of book) connection event ≡ happens (book_of book) connection (Down s)
        this = ap (happens (book_of book) connection) is

        stands : ◌≡◌ {A = MovedRecords} (record { number = number; records = m }) (downed s (book_of book) behind)
        stands = t ∙ rw (same, behind_whole records_place saved)

        by_channel : (i : ℕ) (n : Entry) → find s (book_of book) ≡ known i n → Told? (is_up (end_at ends i).head.channel)
            → Happens book saved event number (put_mid records_place (length saved - records_place) saved m)
        by_channel i n e (passed p) =
            moved event number m (set ends i (forgotten (end_at ends i))) (this ∙ rw (e, p)) (stands ∙ rw (e, p))
        by_channel i n e (failed p) = not_moved event number m (this ∙ rw (e, p)) (stands ∙ rw (e, p))

        go : (f : Found) → find s (book_of book) ≡ f
            → Happens book saved event number (put_mid records_place (length saved - records_place) saved m)
        go unknown e = not_moved event number m (this ∙ rw e) (stands ∙ rw e)
        go (known i n) e = by_channel i n e (told (is_up (end_at ends i).head.channel))

    -- Link lost
    pub lost_happens : (event : Event) (b : List ℕ) (n : ℕ) (m : List ℕ) → event ≡ Lost → b ≡ book → n ≡ length (book_of b)
        → m ≡ all_idle n lent
        → Happens book saved event 0 (set (put_mid records_place (length saved - records_place) saved m) 1 0)
    unfolding event_call number_or happens store all_idle connection_in records_of
    lost_happens event b n m is same e t =
        let after : Connection = (happens (book_of book) connection Lost).connection in
        ap (λ (x : List ℕ). record { number = 0; saved = x })
        (cleared_back saved m (omega (arith, calm.long))
        ∙ ap₂ (λ (k : ℕ) (x : List ℕ). k ∷ (store_gathering none room ++ x))
        (calm.inside.count ∙ sym (same_count Lost after refl))
        (t ∙ ap₂ all_idle (e ∙ ap (λ (x : List ℕ). length (book_of x)) same) (behind_whole records_place saved)))
        ∙ sym (ap (event_call book saved) is ∙ rw calm.allowed)
