-- Discover's answer entry by entry: what is left of it is told by the place of the next entry and by how many were passed.
use Rattle.std.proofs.Common.{◌≡◌, ℕ, zero, suc, ◌+◌, ◌-◌, ◌*◌, ◌≤◌, Bool, true, false, ◌&&◌, List, [], ◌∷◌, length, get_or, drop}
use Rattle.std.proofs.Common.{set, if◌then◌else◌, sym, refl, ap, ◌∙◌, subst, ap₂, arith, length-set, drop-drop}
use Rattle.rules.specs.Octets.{each_of, front}
use Rattle.rules.specs.Book.{Entry, Book, book_number, entries_in, book_of}
use Rattle.rules.specs.Saved.{record_room, endpoint_in, ends_in, record_at}
use Rattle.rules.specs.Commands.{accept, reject, stays, rejects, length_right, in_use, discovered, discover, obey}
use Rattle.rules.specs.declared.Signal.TheVariants.{Discover}
use Rattle.rules.specs.Host.{payload_of}
use Rattle.commands_reply.specs.declared.Said.TheVariants.{Accept}
use Rattle.rules.proofs.Tests.{and_l, and_r, between_most}
use Rattle.rules.proofs.RightBook.{entry_right, right_book}
use Rattle.octets.specs.Patch.{patch}
use Rattle.octets.proofs.Patches.{front_patch, patch_none, patch_behind}
use Rattle.book.specs.Entries.{RightEntry}
use Rattle.book.proofs.Entries.{RightEntries, first_entry, other_entries, right_head}
use Rattle.book.proofs.Found.{entry_by, entries_first, book_length}
use Rattle.saved.specs.Serves.{Serves}
use Rattle.commands_reply.specs.Answers.{said_of}
use Rattle.commands_reply.specs.declared.Said.{Said}
use Rattle.commands_reply.specs.Obeys.{ends_of, Obeys}
use Rattle.commands_reply.proofs.Serving.{obeys_stay}
use Rattle.commands_show.specs.Shown.{all}

-- ---- The entries that are left

pub record Left (n : ℕ) (b : List ℕ) (at : ℕ) : Type 0 where
  pub entries : RightEntries n b at
  pub seids : each_of entry_right (entries_in n (drop at b)) ≡ true

-- all of a right book
pub all_left : (b : List ℕ) (n : ℕ) → book_number b ≡ 0 → n ≡ length (book_of b) → Left (n - 0) b 6
unfolding book_of
all_left b n right e =
    let counted = book_length b in
    let all : get_or b 5 0 ≡ n - 0 = omega arith in
    subst (λ k. Left k b 6) all (record { entries = (right_head b right).entries; seids = (right_book b right).entries })

module _ (n left : ℕ) (b : List ℕ) (at : ℕ) (e : left ≡ suc n) (h : Left left b at) where
  pub first_left : RightEntry b at
  first_left = first_entry n left b at e h.entries

  abbrev first : Entry
  first = entry_by (record { 0 = get_or b at 0 }) b (get_or b (at + 1) 0) (at + 3) (get_or b (at + 2) 0)

  both_right : entry_right first && each_of entry_right (entries_in n (drop (at + 3 + get_or b (at + 2) 0) b)) ≡ true
  unfolding each_of
  both_right =
      ap (each_of entry_right) (sym (ap (λ (k : ℕ). entries_in k (drop at b)) e ∙ entries_first n b at)) ∙ h.seids

  pub seid_left : get_or b at 0 ≤ 62
  unfolding entry_right
  seid_left = between_most 1 62 (get_or b at 0) (search (and_l, and_r, and_l (entry_right first) _ both_right))

  pub rest_left : Left n b (at + 3 + get_or b (at + 2) 0)
  rest_left =
      record {
        entries = other_entries n left b at e h.entries;
        seids = and_r (entry_right first) (each_of entry_right (entries_in n (drop (at + 3 + get_or b (at + 2) 0) b))) both_right;
      }

-- ---- The octets that are left

abbrev pub octets_left : ℕ → List ℕ → ℕ → List ℕ → ℕ → List ℕ
octets_left n b at l i = discovered (entries_in n (drop at b)) (ends_in n (drop (i * record_room) l))

pub all_octets : (b l : List ℕ) (n : ℕ) → n ≡ length (book_of b) → octets_left (n - 0) b 6 l 0 ≡ all b l
unfolding book_of
all_octets b l n e =
    let counted = book_length b in
    let one : n - 0 ≡ get_or b 5 0 = omega arith in
    let two : n - 0 ≡ length (book_of b) = omega arith in
    ap₂ (λ (x y : ℕ). discovered (entries_in x (drop 6 b)) (ends_in y l)) one two

octets_length : (n : ℕ) (b l : List ℕ) → length (discovered (entries_in n b) (ends_in n l)) ≡ n * 2
unfolding discovered entries_in ends_in
octets_length zero b l = refl
octets_length (suc n) b l = let h = octets_length n (drop (get_or b 2 0) (drop 3 b)) (drop record_room l) in omega arith

module _ (n left : ℕ) (b : List ℕ) (at : ℕ) (l : List ℕ) (i : ℕ) (e : left ≡ suc n) where
  octets_step : octets_left left b at l i
      ≡ (get_or b at 0 * 4 + in_use (endpoint_in (record_at i l))) ∷ get_or b (at + 1) 0
      ∷ octets_left n b (at + 3 + get_or b (at + 2) 0) l (i + 1)
  unfolding discovered ends_in
  octets_step =
      let next : i * record_room + record_room ≡ (i + 1) * record_room = omega arith in
      let behind = entries_in n (drop (at + 3 + get_or b (at + 2) 0) b) in
      ap (λ (k : ℕ). octets_left k b at l i) e
      ∙ ap (λ (x : Book). discovered x (ends_in (suc n) (drop (i * record_room) l))) (entries_first n b at)
      ∙ ap (λ (x : List ℕ).
      (get_or b at 0 * 4 + in_use (endpoint_in (record_at i l))) ∷ get_or b (at + 1) 0 ∷ discovered behind (ends_in n x))
      (drop-drop record_room (i * record_room) l ∙ ap (λ (k : ℕ). drop k l) next)

  -- two octets are written, and the others behind them
  pub octets_turn : (d : List ℕ) {used : ℕ} {whole : List ℕ} → used ≡ in_use (endpoint_in (record_at i l))
      → i * 2 + left * 2 ≤ length d
      → patch (i * 2) (octets_left left b at l i) d ≡ whole
      → patch ((i + 1) * 2) (octets_left n b (at + 3 + get_or b (at + 2) 0) l (i + 1))
      (set (set d (i * 2) (get_or b at 0 * 4 + used)) (i * 2 + 1) (get_or b (at + 1) 0))
      ≡ whole
  octets_turn d {used} u room inv =
      let rest = octets_left n b (at + 3 + get_or b (at + 2) 0) l (i + 1) in
      let x = get_or b at 0 * 4 + used in
      let y = get_or b (at + 1) 0 in
      let size : length rest ≡ n * 2 = octets_length n _ _ in
      let place : (i + 1) * 2 ≡ i * 2 + 1 + 1 = omega arith in
      ap (λ (k : ℕ). patch k rest (set (set d (i * 2) x) (i * 2 + 1) y)) place
      ∙ patch_behind (i * 2 + 1) y rest (set d (i * 2) x) (simp length-set (omega arith))
      ∙ patch_behind (i * 2) x (y ∷ rest) d (omega arith)
      ∙ ap (λ (o : ℕ). patch (i * 2) ((get_or b at 0 * 4 + o) ∷ y ∷ rest) d) u
      ∙ ap (λ (s : List ℕ). patch (i * 2) s d) (sym octets_step)
      ∙ inv

-- none is left, so that all is said
pub octets_said : (left : ℕ) (b : List ℕ) (at : ℕ) (l : List ℕ) (i n : ℕ) (d before : List ℕ) → left ≡ 0 → n ≡ length (book_of b)
    → patch (i * 2) (octets_left left b at l i) d ≡ patch 0 (all b l) before
    → (Accept (n * 2) ≡ said_of (accept (all b l))) × (d ≡ front (all b l) before)
unfolding discovered entries_in
octets_said left b at l i n d before none e inv =
    let size : (n - 0) * 2 ≡ n * 2 = omega arith in (
      ap Accept (sym (octets_length (n - 0) (drop 6 b) l ∙ size) ∙ ap length (all_octets b l n e)),
      patch_none (i * 2) d
          ∙ ap (λ (k : ℕ). patch (i * 2) (octets_left k b at l i) d) (sym none)
          ∙ inv ∙ sym (front_patch (all b l) before),
    )

-- ---- The command

module _ {book l p area : List ℕ} (serves : Serves book l p area) {right : Bool}
    (test : right ≡ length_right Discover (length p)) where
  by_length : {b : Bool} → right ≡ b
      → obey Discover (book_of book) (ends_of book l) p
      ≡ stays (ends_of book l) (if b then accept (all book l) else rejects Discover 0 0x11)
  unfolding obey discover
  by_length is =
      ap (λ (t : Bool). stays (ends_of book l) (if t then accept (all book l) else rejects Discover 0 0x11)) (sym test ∙ is)

  pub shows_entries : {said : Said} {area' : List ℕ} → right ≡ true → said ≡ said_of (accept (all book l))
      → area' ≡ front (all book l) area
      → Obeys (obey Discover) book l p area said l area'
  unfolding payload_of
  shows_entries is s w = obeys_stay (obey Discover) serves (accept (all book l)) (by_length is) s w

  pub shows_too_long : {said : Said} {area' : List ℕ} → right ≡ false → said ≡ said_of (reject (0x11 ∷ []))
      → area' ≡ front (0x11 ∷ []) area
      → Obeys (obey Discover) book l p area said l area'
  unfolding rejects payload_of
  shows_too_long is s w = obeys_stay (obey Discover) serves (rejects Discover 0 0x11) (by_length is) s w
