-- What is shown at the endpoint that was met: the list of its entry, or its configuration, which a reply has room for.
use Rattle.std.proofs.Common.{◌≡◌, ℕ, ◌+◌, ◌≤◌, true, List, [], ◌∷◌, length, take, drop, sym, refl, ap, ◌∙◌, arith, take-take}
use Rattle.rules.specs.Octets.{front}
use Rattle.rules.specs.Elements.{items}
use Rattle.rules.specs.Book.{media_type, list_right, shown_by_02, shown_by_0C}
use Rattle.rules.specs.Endpoints.{Endpoint}
use Rattle.rules.specs.Commands.{accept, reject, stays, rejects, offers_at, configuration_at, security_at, obey}
use Rattle.rules.specs.Host.{payload_of}
use Rattle.commands_reply.specs.Answers.{said_of}
use Rattle.commands_reply.specs.declared.Said.{Said}
use Rattle.rules.specs.declared.Signal.{Signal}
use Rattle.rules.specs.declared.Signal.TheVariants.{GetCapabilities, GetConfiguration, SecurityControl, GetAllCapabilities}
use Rattle.elements_reader.specs.Orders.{codec_end}
use Rattle.elements_reader.proofs.InOrder.{transport_first}
use Rattle.elements_reader.proofs.ShownInOrder.{end_inside, end_behind, front_shown}
use Rattle.rules.proofs.RightBook.{entry_listed}
use Rattle.rules.proofs.ShortReplies.{caps_short}
use Rattle.octets.specs.Patch.{part}
use Rattle.octets.proofs.Patches.{part_length}
use Rattle.book.specs.declared.places.Place.{Place}
use Rattle.saved.specs.Records.{config_at}
use Rattle.commands_reply.specs.Obeys.{ends_of, Obeys}
use Rattle.commands_checks.specs.Named.{Named}
use Rattle.commands_checks.proofs.Meeting.{entry_in, stands, config_short}
use Rattle.commands_checks.proofs.Acting.{did_say}

module _ {signal : Signal} {book records p reply : List ℕ} {at : Place} (call : Named signal book records p reply at) where
  -- the list lies in the book, and it fits
  pub list_inside : at.from + at.size ≤ length book
  list_inside = (stands call).placed.inside

  pub list_fits : {q : List ℕ} → q ≡ part at.from at.size book → length q ≤ length reply
  unfolding part
  list_fits e =
      omega (arith, ap length e, caps_short (entry_in book p at) (stands call).placed.right, call.serves.room)

  pub config_fits : {q : List ℕ} → q ≡ config_at at.index records → length q ≤ length reply
  config_fits e = omega (arith, ap length e, config_short (stands call), call.serves.room)

module _ {book records p reply : List ℕ} {at : Place} where
  -- what is shown is the front of the list, up to the end of the codec
  module _ (call : Named GetCapabilities book records p reply at) {l : List ℕ} {n : ℕ} (e : l ≡ part at.from at.size book)
      (told : n ≡ 2 + codec_end (items (drop 2 l))) where
    abbrev listed : List ℕ
    listed = part at.from at.size book

    right : list_right (media_type (entry_in book p at).kind) (items listed) ≡ true
    unfolding part
    right = entry_listed (entry_in book p at) (stands call).placed.right

    size_told : n ≡ codec_end (items listed)
    size_told =
        told
        ∙ ap (λ (d : List ℕ). 2 + codec_end (items (drop 2 d))) e
        ∙ sym (end_behind listed (transport_first _ listed right))

    front_fits : n ≤ at.size
    front_fits = omega (arith, size_told, end_inside listed, part_length at.from at.size book (list_inside call))

    pub front_inside : at.from + n ≤ length book
    front_inside = omega (arith, front_fits, list_inside call)

    module _ {q : List ℕ} (f : q ≡ part at.from n book) where
      pub front_room : length q ≤ length reply
      front_room =
          omega (
            arith,
            ap length f,
            part_length at.from n book front_inside,
            front_fits,
            part_length at.from at.size book (list_inside call),
            list_fits call refl,
          )

      same_shown : q ≡ shown_by_02 (entry_in book p at)
      unfolding part shown_by_02
      same_shown =
          f
          ∙ sym (take-take n at.size (drop at.from book) front_fits)
          ∙ ap (λ (k : ℕ). take k listed) size_told
          ∙ sym (front_shown _ listed right)

      pub shows_some : {reply' : List ℕ} {said : Said} → said ≡ said_of (accept q) → reply' ≡ front q reply
          → Obeys (obey GetCapabilities) book records p reply said records reply'
      unfolding obey offers_at payload_of
      shows_some s w =
          did_say call (offers_at shown_by_02 (ends_of book records)) refl (accept q)
          (ap (λ (l : List ℕ). stays (ends_of book records) (accept l)) (sym same_shown)) s w

  pub shows_all : Named GetAllCapabilities book records p reply at → {q reply' : List ℕ} {said : Said}
      → q ≡ part at.from at.size book → said ≡ said_of (accept q) → reply' ≡ front q reply
      → Obeys (obey GetAllCapabilities) book records p reply said records reply'
  unfolding obey offers_at shown_by_0C part payload_of
  shows_all call {q} e s w =
      did_say call (offers_at shown_by_0C (ends_of book records)) refl (accept q)
      (ap (λ (l : List ℕ). stays (ends_of book records) (accept l)) (sym e)) s w

  pub shows_config : Named GetConfiguration book records p reply at → {q reply' : List ℕ} {said : Said}
      → q ≡ config_at at.index records → said ≡ said_of (accept q) → reply' ≡ front q reply
      → Obeys (obey GetConfiguration) book records p reply said records reply'
  unfolding obey configuration_at payload_of
  shows_config call {q} e s w =
      did_say call (configuration_at (ends_of book records)) refl (accept q)
      (ap (λ (x : Endpoint). stays (ends_of book records) (accept x.config)) (stands call).shows
      ∙ ap (λ (l : List ℕ). stays (ends_of book records) (accept l)) (sym e))
      s w

  pub shows_none : Named SecurityControl book records p reply at → {reply' : List ℕ} {said : Said}
      → said ≡ said_of (reject (0x19 ∷ [])) → reply' ≡ front (0x19 ∷ []) reply
      → Obeys (obey SecurityControl) book records p reply said records reply'
  unfolding obey security_at rejects payload_of
  shows_none call s w =
      did_say call (security_at (ends_of book records)) refl (rejects SecurityControl 0 0x19) refl s w
