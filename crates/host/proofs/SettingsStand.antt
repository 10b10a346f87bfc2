-- Where an endpoint's settings stand: the octet of the record that tells the configuration's length decides between the two
-- areas, and the part there is what the settings call shows.
use Prim.Native.Nat.{ℕ, ◌+◌, ◌*◌, ◌≤◌}
use native.Mathlib.Omega.{arith}
use mathlib.Core.Path.{◌≡◌, refl, sym, ap, ◌∙◌}
use mathlib.Core.List.{List, []}
use lib.ListN.{length, take, drop, get_or, length-drop, length-take}
use lib.Seq.{get_or-drop, drop-drop}
use borrow.Author.Tests.{eq-eqb, ne_eqb}
use Rattle.rules.specs.Saved.{records_place, record_room, head_room, records_of}
use Rattle.std.proofs.Math.Logic.{⊎_elim}
use Rattle.rules.specs.Host.{Shown, settings_call}
use Rattle.rules.specs.Refusals.{number_of}
use Rattle.rules.specs.declared.refusals.Refusal.{Refusal}
use Rattle.rules.proofs.Refusing.{never_0}
use Rattle.octets.specs.Patch.{part}
use Rattle.book.specs.Places.{known_at, place_in}
use Rattle.saved.specs.Records.{config_at}
use Rattle.saved.proofs.Configs.{size_short, config_part}
use Rattle.bridge_refusals.proofs.Refusing.{Calm}
use Rattle.bridge_questions.specs.Questions.{asked}
use Rattle.bridge_questions.proofs.Asked.{refused_by, refused, there_shown, record_there, config_fits, offer_inside}
use Rattle.bridge_questions.proofs.Asked.{offer_shown, config_shown}
use Rattle.host.specs.Exports.{ours, nowhere_by, record_from, span_at, span_call, area_by, shown_by, Stands}
use Rattle.host.specs.declared.Span.{Span}

module _ (book saved : List ℕ) (seid : ℕ) where
  -- ---- Nowhere

  nowhere_shows : (n : ℕ) → settings_call book saved (ours seid) ≡ record { number = n; part = [] }
      → shown_by book saved (nowhere_by n) ≡ settings_call book saved (ours seid)
  unfolding shown_by area_by part
  nowhere_shows n e = sym e

  stands_nowhere : (n : ℕ) → nowhere_by n ≡ span_call book saved (ours seid)
      → settings_call book saved (ours seid) ≡ record { number = n; part = [] } → Stands book saved seid (nowhere_by n)
  stands_nowhere n here e = record { place = here; shows = nowhere_shows n e; inside = omega arith }

  pub refused_stands : (refusal : Refusal) → number_of refusal ≡ asked book saved (ours seid)
      → Stands book saved seid (nowhere_by (number_of refusal))
  unfolding span_call span_at
  refused_stands refusal told =
      stands_nowhere (number_of refusal)
      (⊎_elim (λ e. rw (← e, ne_eqb (number_of refusal) 0 (never_0 refusal))) (λ h. rw (h.0, h.1, h.2))
      (refused_by book saved (ours seid) refusal told))
      (refused book saved (ours seid) refusal told).shown

  -- ---- Somewhere

  module _ (calm : Calm book saved) (i kind from size : ℕ) (there : place_in (ours seid) book ≡ known_at i kind from size) where
    abbrev records : List ℕ
    records = records_of saved

    abbrev told_length : ℕ
    told_length = get_or saved (record_from i + 7) 0

    length_octet : get_or records (i * record_room + 7) 0 ≡ told_length
    unfolding records_of
    length_octet =
        get_or-drop records_place saved (i * record_room + 7) 0
        ∙ ap (λ (k : ℕ). get_or saved k 0) (omega arith)

    part_behind : (from size : ℕ) → part from size records ≡ part (records_place + from) size saved
    unfolding part records_of
    part_behind from size = ap (take size) (drop-drop from records_place saved)

    config_stands : part (record_from i + head_room) told_length saved ≡ config_at i records
    config_stands =
        let whole = record_there book saved (ours seid) calm i kind from size there records refl in
        let short = config_fits book saved (ours seid) calm i kind from size there records refl in
        sym
        (config_part i records whole short
        ∙ ap (λ (k : ℕ). part (i * record_room + head_room) k records) length_octet
        ∙ part_behind (i * record_room + head_room) told_length
        ∙ ap (λ (k : ℕ). part k told_length saved) (omega arith))

    pub record_inside : record_from i + record_room ≤ length saved
    unfolding records_of
    record_inside =
        let whole = record_there book saved (ours seid) calm i kind from size there records refl in
        let e = length-drop records_place saved in
        omega (arith, calm.long)

    length_short : told_length ≤ 64
    length_short =
        omega (
          arith,
          length_octet,
          size_short i records (record_there book saved (ours seid) calm i kind from size there records refl)
              (config_fits book saved (ours seid) calm i kind from size there records refl),
        )

    config_long : length (config_at i records) ≡ told_length
    unfolding part
    config_long =
        let e = ap length (sym config_stands) ∙ length-take told_length (drop (record_from i + head_room) saved) in
        let d = length-drop (record_from i + head_room) saved in
        omega (arith, length_short, record_inside)

    answered : 0 ≡ (settings_call book saved (ours seid)).number
    answered = sym (ap (λ (x : Shown). x.number) (there_shown book saved (ours seid) calm i kind from size there))

    shown_as : (r : List ℕ) → r ≡ (settings_call book saved (ours seid)).part
        → ◌≡◌ {A = Shown} (record { number = 0; part = r }) (settings_call book saved (ours seid))
    shown_as r e = λ k. record { number = answered k; part = e k }

    -- without a configuration: the list of the book's entry

    abbrev offer : Span
    offer = record { number = 0; area = 1; offset = from; length = size }

    offer_place : told_length ≡ 0 → offer ≡ span_call book saved (ours seid)
    unfolding span_call span_at
    offer_place none = rw (calm.allowed, there, eq-eqb told_length 0 none)

    offer_part : part from size book ≡ (settings_call book saved (ours seid)).part
        → shown_by book saved offer ≡ settings_call book saved (ours seid)
    unfolding shown_by area_by
    offer_part e = shown_as (part from size book) e

    offer_within : offer.offset + offer.length ≤ length (area_by offer.area book saved)
    unfolding area_by
    offer_within = offer_inside book saved (ours seid) calm i kind from size there records refl

    pub offer_stands : told_length ≡ 0 → Stands book saved seid offer
    offer_stands none =
        record {
          place = offer_place none;
          shows =
              offer_part
              (offer_shown book saved (ours seid) calm i kind from size there records refl (config_at i records)
              (part from size book) refl (config_long ∙ none) refl);
          inside = offer_within;
        }

    -- with one: its octets in the record

    abbrev stored : Span
    stored = record { number = 0; area = 2; offset = record_from i + head_room; length = told_length }

    stored_place : (told_length ≡ 0 → ⊥) → stored ≡ span_call book saved (ours seid)
    unfolding span_call span_at
    stored_place some = rw (calm.allowed, there, ne_eqb told_length 0 some)

    stored_part : part (record_from i + head_room) told_length saved ≡ (settings_call book saved (ours seid)).part
        → shown_by book saved stored ≡ settings_call book saved (ours seid)
    unfolding shown_by area_by
    stored_part e = shown_as (part (record_from i + head_room) told_length saved) e

    stored_within : stored.offset + stored.length ≤ length (area_by stored.area book saved)
    unfolding area_by
    stored_within = omega (arith, length_short, record_inside)

    pub stored_stands : (told_length ≡ 0 → ⊥) → Stands book saved seid stored
    stored_stands some =
        record {
          place = stored_place some;
          shows =
              stored_part
              (config_stands
              ∙ config_shown book saved (ours seid) calm i kind from size there records refl (config_at i records) refl
              (λ e. some (sym config_long ∙ e)));
          inside = stored_within;
        }
