-- One record against its entry, by the head that the code loads of it; and the records one by one with the entries of the book.
use Rattle.std.proofs.Common.{ℕ, zero, suc, ◌+◌, ◌-◌, ◌*◌, ◌≤◌, suc-ne-zero, add_assoc, add-zero, arith, ◌≡◌, refl, sym, ap, ◌∙◌}
use Rattle.std.proofs.Common.{List, [], ◌∷◌, Bool, true, false, not, ◌&&◌, length, take, drop, get_or, length-drop, drop-drop}
use Rattle.std.proofs.Common.{leb, eqb, leb-true, ne_eqb, if◌then◌else◌, None, Some, Option}
use Rattle.rules.specs.Octets.{is_empty}
use Rattle.rules.specs.Book.{Entry, Book, media_type, entries_in, book_of}
use Rattle.rules.specs.Endpoints.{is_reported, is_idle, is_awaited, channel_right, takes_delay, delay_right, keeps_nothing}
use Rattle.rules.specs.Endpoints.{keeps_settings, legal_end, legal_ends, awaiting}
use Rattle.rules.specs.Saved.{record_room, head_room, config_room, channel_in, head_in, config_in, endpoint_in}
use Rattle.rules.specs.Saved.{record_right, ends_in, records_right, record_at}
use Rattle.rules.proofs.Tests.{and_l, and_r, Told?, told, passed, failed}
use Rattle.rules.proofs.Places.{at_most_one}
use Rattle.elements_reader.specs.Orders.{TransportFirst}
use Rattle.elements_reader.proofs.InOrder.{transport_first}
use Rattle.octets.specs.Patch.{part}
use Rattle.book.specs.Entries.{RightEntry}
use Rattle.book.proofs.Found.{entry_by, entries_first, book_length, all_counted}
use Rattle.rules.specs.declared.OurSeid.{OurSeid}
use Rattle.saved_keeps.specs.Settings.{settings_right}
use Rattle.saved_legal.specs.Legal.{awaits_in, awaited_in, record_legal, records_legal}

-- ---- One record

-- an entry's list begins with the media transport
pub entry_first : (b : List ℕ) (at : ℕ) → RightEntry b at → TransportFirst (part (at + 3) (get_or b (at + 2) 0) b)
unfolding part
entry_first b at r = transport_first (media_type (get_or b (at + 1) 0)) (take (get_or b (at + 2) 0) (drop (at + 3) b)) r.listed

empty_taken : (k : ℕ) (l : List ℕ) → 1 ≤ length l → is_empty (take k l) ≡ eqb k 0
unfolding is_empty
empty_taken zero l h = refl
empty_taken (suc k) [] h = absurd (omega arith)
empty_taken (suc k) (x ∷ l) h = sym (ne_eqb (suc k) 0 (suc-ne-zero k))

pub octets_wrong : (n : Entry) (r : List ℕ) → record_right r ≡ false → record_legal n r ≡ false
unfolding record_legal
octets_wrong n r e = rw e

pub config_short : (r : List ℕ) → record_right r ≡ true → get_or r 7 0 ≤ 64
unfolding record_right
config_short r right = leb-true (get_or r 7 0) config_room (search (and_l, and_r))

-- what an idle endpoint has to keep, and another
abbrev nothing_in : List ℕ → Bool
nothing_in r =
    let h = head_in r in eqb h.far.0 0 && eqb (get_or r 7 0) 0 && not (is_reported h.delay)

abbrev settings_in : Entry → List ℕ → Bool
settings_in n r =
    let h = head_in r in settings_right n.caps n.kind h.far (config_in r) h.delay

nothing_kept : (r : List ℕ) → length r ≡ record_room → keeps_nothing (endpoint_in r) ≡ nothing_in r
unfolding keeps_nothing endpoint_in config_in
nothing_kept r long = rw (empty_taken (get_or r 7 0) (drop head_room r) (rw length-drop (omega arith)))

settings_kept : (n : Entry) (r : List ℕ) → keeps_settings n (endpoint_in r) ≡ settings_in n r
unfolding settings_right keeps_settings delay_right takes_delay endpoint_in
settings_kept n r = refl

-- a record whose octets are right, by its head
pub by_head : (n : Entry) (r : List ℕ) → length r ≡ record_room → record_right r ≡ true
    → record_legal n r
    ≡ eqb (head_in r).seid.0 n.seid.0 && channel_right (head_in r).state (head_in r).channel
    && (if is_idle (head_in r).state then nothing_in r else settings_in n r)
unfolding record_legal legal_end endpoint_in
by_head n r long right = rw (right, ← nothing_kept r long, ← settings_kept n r)

-- all that the test of a record goes by
pub ruleset one_record = (octets_wrong, by_head, config_short)

-- ---- The first record and those behind it

pairwise : (a b c d e : Bool) → ((a && b) && (c && d)) && e ≡ (a && c) && ((b && d) && e)
pairwise false b c d e = refl
pairwise true false false d e = refl
pairwise true false true d e = refl
pairwise true true false d e = refl
pairwise true true true d e = refl

awaits_few : (o : ℕ) → awaits_in o ≤ 1
unfolding awaits_in
awaits_few o = at_most_one (is_awaited (channel_in o))

-- what it says of a record that it awaits some channels, or that it is not legal
record Awaits (n : Entry) (r : List ℕ) (k : ℕ) : Type 0 where
  pub legal : record_legal n r ≡ true
  pub told : k ≡ awaits_in (get_or r 2 0)

awaits_some : (n : Entry) (r : List ℕ) (k : ℕ) → Told? (record_legal n r) → awaited_in n r ≡ Some k → Awaits n r k
unfolding awaited_in
awaits_some n r k (passed t) e =
    let same : Some (awaits_in (get_or r 2 0)) ≡ Some k = rw t at e in record { legal = t; told = cc }
awaits_some n r k (failed f) e =
    let none : None ≡ Some k = rw f at e in let z : ◌≡◌ {A = ℕ} 0 1 = cc in absurd (omega arith)

awaits_none : (n : Entry) (r : List ℕ) → Told? (record_legal n r) → awaited_in n r ≡ None → record_legal n r ≡ false
unfolding awaited_in
awaits_none n r (passed t) e =
    let some : Some (awaits_in (get_or r 2 0)) ≡ None = rw t at e in let z : ◌≡◌ {A = ℕ} 0 1 = cc in absurd (omega arith)
awaits_none n r (failed f) e = f

first_legal : (n : Entry) (book : Book) (k before : ℕ) (l : List ℕ)
    → records_legal (n ∷ book) (suc k) before l
    ≡ record_legal n (take record_room l)
    && records_legal book k (before + awaits_in (get_or (take record_room l) 2 0)) (drop record_room l)
unfolding records_legal record_legal records_right ends_in legal_ends awaiting awaits_in endpoint_in head_in
first_legal n book k before l =
    let r = take record_room l in
    let rest = ends_in k (drop record_room l) in
    ap (λ (x : ℕ). (record_right r && records_right k (drop record_room l))
    && (legal_end n (endpoint_in r) && legal_ends book rest) && leb x 1)
    (sym (add_assoc before (awaits_in (get_or r 2 0)) (awaiting rest)))
    ∙ pairwise (record_right r) (records_right k (drop record_room l)) (legal_end n (endpoint_in r)) (legal_ends book rest)
    (leb (before + awaits_in (get_or r 2 0) + awaiting rest) 1)

-- the records from record i on, with the entries from a place of the book on
abbrev pub legal_from : List ℕ → ℕ → ℕ → ℕ → ℕ → List ℕ → Bool
legal_from b at left before i l = records_legal (entries_in left (drop at b)) left before (drop (i * record_room) l)

-- the entry at a place of the book
abbrev pub entry_at : List ℕ → ℕ → Entry
entry_at b at = entry_by (record { 0 = get_or b at 0 }) b (get_or b (at + 1) 0) (at + 3) (get_or b (at + 2) 0)

-- the record at hand against the entry at hand, as the code takes them from the two areas
pub at_hand : (b : List ℕ) (at i : ℕ) (l p q : List ℕ) (s : OurSeid) (kind : ℕ) {t : Option ℕ} → p ≡ record_at i l
    → s ≡ record { 0 = get_or b at 0 } → kind ≡ get_or b (at + 1) 0 → q ≡ part (at + 3) (get_or b (at + 2) 0) b
    → t ≡ awaited_in (record { seid = s; kind = kind; caps = q }) p → t ≡ awaited_in (entry_at b at) (record_at i l)
unfolding part
at_hand b at i l p q s kind e f g h t = cc

module _ (n left : ℕ) (b : List ℕ) (at before i : ℕ) (l : List ℕ) (e : left ≡ suc n) where
  turn : legal_from b at left before i l
      ≡ record_legal (entry_at b at) (record_at i l)
      && legal_from b (at + 3 + get_or b (at + 2) 0) n (before + awaits_in (get_or (record_at i l) 2 0)) (i + 1) l
  turn =
      let r = record_at i l in
      let rest = entries_in n (drop (at + 3 + get_or b (at + 2) 0) b) in
      let next : i * record_room + record_room ≡ (i + 1) * record_room = omega arith in
      rw (e, entries_first n b at)
      (first_legal (entry_at b at) rest n before (drop (i * record_room) l)
      ∙ ap (λ (x : List ℕ). record_legal (entry_at b at) r && records_legal rest n (before + awaits_in (get_or r 2 0)) x)
      (drop-drop record_room (i * record_room) l ∙ ap (λ (k : ℕ). drop k l) next))

  pub turn_ends : awaited_in (entry_at b at) (record_at i l) ≡ None → legal_from b at left before i l ≡ false
  turn_ends f =
      turn ∙ rw (awaits_none (entry_at b at) (record_at i l) (told (record_legal (entry_at b at) (record_at i l))) f)

  module _ (k : ℕ) (t : awaited_in (entry_at b at) (record_at i l) ≡ Some k) where
    awaits : Awaits (entry_at b at) (record_at i l) k
    awaits = awaits_some (entry_at b at) (record_at i l) k (told (record_legal (entry_at b at) (record_at i l))) t

    pub turn_few : k ≤ 1
    turn_few = omega (arith, awaits.told, awaits_few (get_or (record_at i l) 2 0))

    pub turn_goes_on : legal_from b at left before i l ≡ legal_from b (at + 3 + get_or b (at + 2) 0) n (before + k) (i + 1) l
    turn_goes_on = turn ∙ rw (awaits.legal, awaits.told)

-- all of them, of a book with as many entries
pub all_left : (b l : List ℕ) → records_legal (book_of b) (length (book_of b)) 0 l ≡ legal_from b 6 (length (book_of b) - 0) 0 0 l
unfolding book_of
all_left b l =
    let all = all_counted b (length (book_of b)) refl in
    ap (λ (k : ℕ). records_legal (book_of b) k 0 l) (book_length b)
    ∙ ap (λ (k : ℕ). records_legal (entries_in k (drop 6 b)) k 0 l) all

pub none_left : (b : List ℕ) (at left before i : ℕ) (l : List ℕ) → left ≡ 0 → legal_from b at left before i l ≡ leb before 1
unfolding entries_in records_legal records_right ends_in legal_ends awaiting
none_left b at left before i l e = rw (e, add-zero)
