-- Start and Suspend, SEID by SEID: the records show the endpoints that the definition has reached, and hold what storing those
-- over the first records gives. So what is left of the listed SEIDs decides, and a stop leaves what was shifted.
use Rattle.std.proofs.Common.{◌≡◌, ℕ, suc, ◌+◌, ◌*◌, ◌/◌, ◌<◌, ◌≤◌, true, false, List, [], length, get_or, drop, set, Ok, Err}
use Rattle.std.proofs.Common.{sym, refl, ap, ◌∙◌, add-one, drop-cons}
use lib.Seq.{drop-length}
use Rattle.rules.specs.Octets.{front}
use Rattle.rules.specs.Book.{book_number, book_of}
use Rattle.rules.specs.Endpoints.{Ends, in_state, moved_by, end_at}
use Rattle.rules.specs.Saved.{record_room, head_in, head_octets, records_right, ends_in, store_ends, record_at}
use Rattle.rules.specs.Commands.{Reply, accept, stays, rejects, length_right, our_in, shift_one, shift_each, shift}
use Rattle.rules.specs.Host.{payload_of}
use Rattle.commands_reply.specs.Answers.{said_of}
use Rattle.commands_reply.specs.declared.Said.{Said}
use Rattle.rules.specs.declared.State.{State}
use Rattle.rules.specs.declared.Signal.{Signal}
use Rattle.rules.proofs.SavedReads.{Fits, ends_length, ends_back, ends_right, length_ends_in, read_short, octets_known}
use Rattle.octets.specs.Patch.{patch}
use Rattle.book.specs.declared.places.Place.{Place}
use Rattle.saved.specs.Records.{config_size_at}
use Rattle.saved.specs.Held.{Held}
use Rattle.saved.specs.Serves.{Serves}
use Rattle.saved.proofs.OneStore.{record_inside}
use Rattle.commands_reply.specs.Obeys.{ends_of, Obeys}
use Rattle.commands_reply.proofs.Serving.{unmoved, obeys, obeys_stay}
use Rattle.commands_checks.specs.Met.{Met, met_of}
use Rattle.commands_checks.proofs.Meeting.{met_as, meets_as, met_placed}
use Rattle.saved.proofs.HeadMoved.{moved_stored}
use Rattle.commands_shift.proofs.StoredOver.{Kept, kept_same, kept_set, kept_length, kept_short, store_over}

module _ (signal : Signal) (to : State) where
  -- too few SEIDs are listed
  pub none_listed : {book l p area : List ℕ} → Serves book l p area → length_right signal (length p) ≡ false
      → {said : Said} {area' : List ℕ}
      → (said ≡ said_of (rejects signal 0 0x11)) × (area' ≡ front (payload_of (rejects signal 0 0x11)) area)
      → Obeys (shift signal to) book l p area said l area'
  unfolding shift
  none_listed serves f h = obeys_stay (shift signal to) serves (rejects signal 0 0x11) (rw f) h.0 h.1

  -- the SEIDs before place i are shifted: the records hold l, and held l₀ before the first
  pub record Reached (book l₀ p l : List ℕ) (i : ℕ) : Type 0 where
    pub held : Held (length (book_of book)) l
    pub long : length l ≡ length l₀
    pub stored : l ≡ store_ends (ends_of book l) l₀
    pub left : shift_each signal to (book_of book) (ends_of book l₀) p
        ≡ shift_each signal to (book_of book) (ends_of book l) (drop i p)

  pub reached_first : (book l p : List ℕ) → Held (length (book_of book)) l → Reached book l p l 0
  reached_first book l p held =
      record { held = held; long = refl; stored = unmoved (length (book_of book)) l held; left = refl }

  module _ {book l₀ p l : List ℕ} {i : ℕ} (r : Reached book l₀ p l i) where
    -- the outcome is reached
    answers : length_right signal (length p) ≡ true → (r' : Reply)
        → shift_each signal to (book_of book) (ends_of book l) (drop i p) ≡ stays (ends_of book l) r'
        → {said : Said} (area : List ℕ) {area' : List ℕ} → said ≡ said_of r' → area' ≡ front (payload_of r') area
        → Obeys (shift signal to) book l₀ p area said l area'
    unfolding shift
    answers right r' e area s a =
        obeys (shift signal to) book l₀ p area (ends_of book l) r' (rw right (r.left ∙ e)) s r.stored a

    pub shifted_all : length_right signal (length p) ≡ true → i ≡ length p → {said : Said} {area area' : List ℕ}
        → said ≡ said_of (accept []) → area' ≡ area → Obeys (shift signal to) book l₀ p area said l area'
    unfolding shift_each payload_of front
    shifted_all right e {area = area} s a =
        let none : drop i p ≡ [] = ap (λ (k : ℕ). drop k p) e ∙ drop-length p in
        answers right (accept []) (ap (shift_each signal to (book_of book) (ends_of book l)) none) area s a

    -- the SEID at hand
    module _ (inside : i < length p) where
      on_shift : {m : Met} → met_of signal book l (our_in (get_or p i 0)) ≡ m
          → shift_each signal to (book_of book) (ends_of book l) (drop i p)
          ≡ shift_one signal to (our_in (get_or p i 0)) (ends_of book l)
          (λ x. shift_each signal to (book_of book) x (drop (i + 1) p)) (met_as (our_in (get_or p i 0)) book m)
      unfolding shift_each
      on_shift e =
          let s = our_in (get_or p i 0) in
          rw (drop-cons p i 0 inside, add-one)
          (ap (shift_one signal to s (ends_of book l) (λ x. shift_each signal to (book_of book) x (drop (suc i) p)))
          (meets_as signal book l s ∙ ap (met_as s book) e))

      pub stopped : length_right signal (length p) ≡ true → {code : ℕ}
          → met_of signal book l (our_in (get_or p i 0)) ≡ Err code
          → {said : Said} (area : List ℕ) {area' : List ℕ}
          → said ≡ said_of (rejects signal (get_or p i 0 / 4 * 4) code)
          → area' ≡ front (payload_of (rejects signal (get_or p i 0 / 4 * 4) code)) area
          → Obeys (shift signal to) book l₀ p area said l area'
      unfolding met_as shift_one our_in
      stopped right {code} e area s a = answers right (rejects signal (get_or p i 0 / 4 * 4) code) (on_shift e) area s a

      module _ (right : book_number book ≡ 0) {at : Place} (met : met_of signal book l (our_in (get_or p i 0)) ≡ Ok at) where
        counted : at.index < length (book_of book)
        counted = (met_placed signal book l (our_in (get_or p i 0)) at right met).counted

        pub record_there : (at.index + 1) * record_room ≤ length l
        record_there = record_inside (length (book_of book)) at.index l counted r.held

        -- the endpoints with this one shifted
        abbrev shifted : Ends
        shifted = set (ends_of book l) at.index (moved_by (in_state to) (end_at (ends_of book l) at.index))

        kept : Kept shifted (ends_of book l)
        unfolding moved_by
        kept = kept_set (ends_of book l) at.index _ refl

        fits : (ends : Ends) → Kept ends (ends_of book l) → (m : List ℕ) → length m ≡ length l → Fits ends m
        fits ends k m e =
            let n = kept_length k ∙ length_ends_in (length (book_of book)) l in
            record {
              short = kept_short k (read_short (length (book_of book)) l r.held.right);
              room = rw (n, e) r.held.room;
            }

        pub reached_next : {l' : List ℕ}
            → l' ≡ patch (at.index * record_room)
            (head_octets (in_state to (head_in (record_at at.index l))) (config_size_at at.index l)) l
            → ((k : ℕ) → get_or l' k 0 < 256) → Reached book l₀ p l' (i + 1)
        unfolding met_as shift_one
        reached_next {l'} wrote octets =
            let made : l' ≡ store_ends shifted l =
            wrote ∙ moved_stored (length (book_of book)) at.index l counted r.held (in_state to) in
            let room = fits shifted kept l refl in
            let n : length shifted ≡ length (book_of book) = kept_length kept ∙ length_ends_in (length (book_of book)) l in
            let back : ends_of book l' ≡ shifted =
            ap (ends_of book) made ∙ ap (λ (k : ℕ). ends_in k (store_ends shifted l)) (sym n) ∙ ends_back shifted l room in
            let size : length l' ≡ length l = ap length made ∙ ends_length shifted l room in
            record {
              held =
                  record {
                    room = rw size r.held.room;
                    octets = octets_known l' octets;
                    right = rw made (ap (λ (k : ℕ). records_right k (store_ends shifted l)) (sym n) ∙ ends_right shifted l room);
                  };
              long = size ∙ r.long;
              stored =
                  made ∙ ap (store_ends shifted) r.stored
                  ∙ store_over kept l₀ (fits (ends_of book l) (kept_same (ends_of book l)) l₀ (sym r.long))
                  ∙ ap (λ (x : Ends). store_ends x l₀) (sym back);
              left =
                  r.left ∙ on_shift met
                  ∙ ap (λ (x : Ends). shift_each signal to (book_of book) x (drop (i + 1) p)) (sym back);
            }
