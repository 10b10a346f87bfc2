-- Channel down for a SEID, by the place that the book has it at.
use Rattle.std.proofs.Common.{ℕ, ◌+◌, ◌*◌, ◌≤◌, ◌<◌, ◌≡◌, refl, sym, ap, ◌∙◌, List, Bool, true, false, length, set, None, Some}
use Rattle.rules.specs.Book.{book_number, book_of}
use Rattle.rules.specs.Endpoints.{Endpoint, end_at, is_up, forgotten, idle_head, idle}
use Rattle.rules.specs.Saved.{record_room, head_in, head_octets, ends_in, store_ends, record_at}
use Rattle.rules.specs.declared.OurSeid.{OurSeid}
use Rattle.rules.specs.declared.Head.{Head}
use Rattle.octets.specs.Patch.{patch}
use Rattle.book.specs.Places.{place_in, found_by}
use Rattle.book.specs.declared.places.Place.{Place}
use Rattle.book.proofs.Found.{found_as, placed}
use Rattle.saved.specs.Held.{Held}
use Rattle.saved.proofs.OneStore.{has_room, loaded_one, head_emptied}
use Rattle.saved_events.specs.Events.{MovedRecords, downed_at, downed}
use Rattle.saved_events.proofs.Awaits.{channel_shown}

pub down_unknown : (s : OurSeid) (b l : List ℕ) → place_in s b ≡ None
    → ◌≡◌ {A = MovedRecords} (record { number = 10; records = l }) (downed s (book_of b) l)
unfolding downed downed_at found_by
down_unknown s b l e = rw (found_as s b None e)

module _ (s : OurSeid) (b l : List ℕ) (p : Place) (right : book_number b ≡ 0) (held : Held (length (book_of b)) l)
    (there : place_in s b ≡ Some p) where
  inside : p.index < length (book_of b)
  inside = (placed s b p.index p.kind p.from p.size right there).counted

  pub down_room : (p.index + 1) * record_room ≤ length l
  down_room = has_room (length (book_of b)) p.index l l inside held refl

  channel : (h : Head) → h ≡ head_in (record_at p.index l)
      → is_up (end_at (ends_in (length (book_of b)) l) p.index).head.channel ≡ is_up h.channel
  channel h got =
      ap is_up (channel_shown (length (book_of b)) p.index l inside) ∙ sym (ap (λ (x : Head). is_up x.channel) got)

  pub down_done : (m : List ℕ) (h h' : Head) (t : Bool) → h ≡ head_in (record_at p.index l) → t ≡ is_up h.channel → t ≡ true
      → h' ≡ idle_head h.seid → m ≡ patch (p.index * record_room) (head_octets h' 0) l
      → ◌≡◌ {A = MovedRecords} (record { number = 0; records = m }) (downed s (book_of b) l)
  unfolding downed downed_at found_by forgotten idle
  down_done m h h' t got asked up moved stored =
      let n = length (book_of b) in
      let e = head_in (record_at p.index l) in
      let written : m ≡ store_ends (set (ends_in n l) p.index (forgotten (end_at (ends_in n l) p.index))) l =
      stored
      ∙ ap (λ (x : Head). patch (p.index * record_room) (head_octets x 0) l) (moved ∙ ap (λ (x : Head). idle_head x.seid) got)
      ∙ head_emptied n p.index l inside held (idle_head e.seid)
      ∙ ap (λ (x : Endpoint). store_ends (set (ends_in n l) p.index (forgotten x)) l) (sym (loaded_one n p.index l inside)) in
      rw (found_as s b (Some p) there, channel h got ∙ sym asked ∙ up)
      (ap (λ (x : List ℕ). record { number = 0; records = x }) written)

  pub down_none : (h : Head) (t : Bool) → h ≡ head_in (record_at p.index l) → t ≡ is_up h.channel → t ≡ false
      → ◌≡◌ {A = MovedRecords} (record { number = 10; records = l }) (downed s (book_of b) l)
  unfolding downed downed_at found_by
  down_none h t got asked left =
      rw (found_as s b (Some p) there, channel h got ∙ sym asked ∙ left)
