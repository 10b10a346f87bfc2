-- The questions about an endpoint: a refusal shows nothing, a SEID that the book does not have is 10, and of one that it has the
-- record behind the gathering tells the configuration and the delay.
use Rattle.std.proofs.Common.{ℕ, zero, suc, ◌+◌, ◌*◌, ◌≤◌, ◌<◌, ◌≡◌, refl, sym, ap, ◌∙◌, subst, List, [], ◌∷◌, length, get_or}
use Rattle.std.proofs.Common.{if◌then◌else◌, None, Some, Ok, Err, arith}
use Rattle.std.proofs.Math.Logic.{◌⊎◌, inl, inr, ⊎_elim}
use Rattle.std.specs.Prelude.{IsErrAnd}
use Rattle.std.specs.Option.{ok_or}
use borrow.Author.Tests.{ne_eqb}
use Rattle.std.specs.declared.option.Option.{Option}
use Rattle.std.specs.declared.result.Result.{Result}
use Rattle.std.proofs.lemmas.Result.{err_from_is_err_and}
use Rattle.rules.specs.Octets.{is_empty}
use Rattle.rules.specs.Book.{book_of}
use Rattle.rules.specs.Endpoints.{Endpoint, end_at}
use Rattle.rules.specs.Saved.{record_room, config_room, records_of, head_in, ends_in, connection_in, record_at}
use Rattle.rules.specs.Host.{number_or, refusal_of, settings_of, Shown, shown_at, settings_call, heard, heard_at, delay_call}
use Rattle.rules.specs.Host.{standing, nowhere, standing_at, status_call}
use Rattle.rules.specs.Refusals.{number_of, number_told}
use Rattle.rules.specs.declared.OurSeid.{OurSeid}
use Rattle.rules.specs.declared.Head.{Head}
use Rattle.rules.specs.declared.refusals.Refusal.{Refusal}
use Rattle.rules.specs.declared.refusals.Refusal.TheVariants.{NotApplicable}
use Rattle.rules.proofs.Refusing.{never_0, refused_first as refused_next}
use Rattle.octets.specs.Patch.{part}
use Rattle.book.specs.Places.{known_at, place_in, found_by}
use Rattle.book.specs.declared.places.Place.{Place}
use Rattle.book.proofs.Found.{entry_by, found_as, Placed, placed}
use Rattle.saved.specs.Records.{config_size_at, config_at}
use Rattle.saved.proofs.OneStore.{loaded_one, has_room, length_told}
use Rattle.bridge_questions.specs.Questions.{number_at, asked, Finds}
use Rattle.bridge_refusals.proofs.Refusing.{Calm, calm}

first_passed : (n next : ℕ) → 0 ≡ number_or n next → 0 ≡ n
unfolding number_or
first_passed zero next e = refl
first_passed (suc n) next e = e

module _ (book saved : List ℕ) (s : OurSeid) where
  -- ---- Refused

  -- what a refusal with a number tells of each question
  pub record Refused (n : ℕ) : Type 0 where
    pub shown : settings_call book saved s ≡ record { number = n; part = [] }
    pub heard : delay_call book saved s ≡ heard n None
    pub stands : status_call book saved s ≡ nowhere n

  -- which test refused: one of those that stand before every call, or whether the book has the SEID
  pub refused_by : (refusal : Refusal) → number_of refusal ≡ asked book saved s
      → (number_of refusal ≡ refusal_of book saved)
      ⊎ ((refusal_of book saved ≡ 0) × (place_in s book ≡ None) × (number_of refusal ≡ 10))
  unfolding asked number_or
  refused_by refusal told = go (refusal_of book saved) (place_in s book) refl refl told
    where
      go : (first : ℕ) (p : Option Place) → refusal_of book saved ≡ first → place_in s book ≡ p
          → number_of refusal ≡ number_or first (number_at p)
          → (number_of refusal ≡ refusal_of book saved)
          ⊎ ((refusal_of book saved ≡ 0) × (place_in s book ≡ None) × (number_of refusal ≡ 10))
      go (suc n) p e f g = inl (g ∙ sym e)
      go zero None e f g = inr (e, f, g)
      go zero (Some p) e f g = absurd (never_0 refusal g)

  pub refused : (refusal : Refusal) → number_of refusal ≡ asked book saved s → Refused (number_of refusal)
  unfolding settings_call shown_at delay_call heard_at status_call standing_at found_by
  refused refusal told =
      ⊎_elim
      (λ e.
      let some = ne_eqb (number_of refusal) 0 (never_0 refusal) in
      record { shown = rw (← e, some); heard = rw (← e, some); stands = rw (← e, some) })
      (λ h.
      let none = found_as s book None h.1 in
      record { shown = rw (h.0, none, h.2); heard = rw (h.0, none, h.2); stands = rw (h.0, none, h.2) })
      (refused_by refusal told)

  -- what is handed on then
  pub refused_found : (refusal : Refusal) (found : Result Head Refusal) → IsErrAnd found (λ e. e ≡ refusal)
      → number_of refusal ≡ asked book saved s → Finds book saved s found
  refused_found refusal found handed told =
      let told' = err_from_is_err_and found handed in
      let r = refused refusal told in
      subst (Finds book saved s) (sym (told'.1 ∙ ap (λ (x : Refusal). Err x) told'.2))
      (record { delay = sym r.heard; status = sym r.stands })

  -- the refusals that stand before every call are told first
  pub refused_first : (refusal : Refusal) → number_of refusal ≡ refusal_of book saved → number_of refusal ≡ asked book saved s
  unfolding asked
  refused_first refusal e =
      sym (refused_next refusal (number_at (place_in s book))) ∙ ap (λ (n : ℕ). number_or n (number_at (place_in s book))) e

  -- and then whether the book has the SEID
  pub found_number : (right : List ℕ) (found : Option Place) (r : Result Place Refusal) → right ≡ book → found ≡ place_in s right
      → r ≡ ok_or found NotApplicable → 0 ≡ refusal_of book saved → number_told r ≡ asked book saved s
  unfolding asked number_or
  found_number right found r same at given e =
      ap (λ (x : Result Place Refusal). number_told x) given
      ∙ told found
      ∙ ap (λ (p : Option Place). number_at p) (at ∙ ap (λ (b : List ℕ). place_in s b) same)
      ∙ ap (λ (n : ℕ). number_or n (number_at (place_in s book))) e
    where
      told : (p : Option Place) → number_told (ok_or p NotApplicable) ≡ number_at p
      told None = refl
      told (Some place) = refl

  -- the number with which the settings are told
  pub shown_number : (settings_call book saved s).number ≡ asked book saved s
  unfolding settings_call shown_at found_by asked number_or
  shown_number = go (refusal_of book saved) (place_in s book) refl refl
    where
      go : (first : ℕ) (p : Option Place) → refusal_of book saved ≡ first → place_in s book ≡ p
          → (settings_call book saved s).number ≡ asked book saved s
      go (suc n) p e f = rw (e, ne_eqb (suc n) 0 (λ z. omega arith))
      go zero None e f = rw (e, found_as s book None f, f)
      go zero (Some p) e f = rw (e, found_as s book (Some p) f, f)

  -- ---- Not refused

  pub answered : ((i : ℕ) → get_or saved i 0 < 256) → 0 ≡ asked book saved s → Calm book saved
  unfolding asked
  answered known told = calm book saved known (first_passed (refusal_of book saved) (number_at (place_in s book)) told)

  module _ (calm : Calm book saved) where
    pub there_shown : (i kind from size : ℕ) → place_in s book ≡ known_at i kind from size
        → settings_call book saved s
        ≡ record {
          number = 0;
          part =
              settings_of (entry_by s book kind from size) (end_at (ends_in (length (book_of book)) (records_of saved)) i);
        }
    unfolding settings_call shown_at found_by connection_in
    there_shown i kind from size e = rw (calm.allowed, found_as s book (known_at i kind from size) e)

    there_heard : (i kind from size : ℕ) → place_in s book ≡ known_at i kind from size
        → delay_call book saved s ≡ heard 0 (end_at (ends_in (length (book_of book)) (records_of saved)) i).head.delay
    unfolding delay_call heard_at found_by connection_in
    there_heard i kind from size e = rw (calm.allowed, found_as s book (known_at i kind from size) e)

    there_stands : (i kind from size : ℕ) → place_in s book ≡ known_at i kind from size
        → status_call book saved s ≡ standing 0 (end_at (ends_in (length (book_of book)) (records_of saved)) i).head
    unfolding status_call standing_at found_by connection_in
    there_stands i kind from size e = rw (calm.allowed, found_as s book (known_at i kind from size) e)

    -- ---- The endpoint that the SEID names

    module _ (i kind from size : ℕ) (there : place_in s book ≡ known_at i kind from size) (records : List ℕ)
        (lent : records ≡ records_of saved) where
      place : Placed s book i kind from size
      place = placed s book i kind from size calm.numbered there

      shows : end_at (ends_in (length (book_of book)) (records_of saved)) i
          ≡ record { head = head_in (record_at i records); config = config_at i records }
      shows =
          loaded_one (length (book_of book)) i (records_of saved) place.counted
          ∙ ap (λ (l : List ℕ). record { head = head_in (record_at i l); config = config_at i l }) (sym lent)

      pub record_there : (i + 1) * record_room ≤ length records
      record_there =
          has_room (length (book_of book)) i (records_of saved) records place.counted calm.inside.held lent

      pub config_fits : config_size_at i records ≤ config_room
      config_fits =
          subst (λ (l : List ℕ). config_size_at i l ≤ config_room) (sym lent)
          (length_told (length (book_of book)) i (records_of saved) place.counted calm.inside.held)

      pub offer_inside : from + size ≤ length book
      offer_inside = place.inside

      pub known_found : (head : Head) → head ≡ head_in (record_at i records)
          → Finds book saved s (Ok head)
      known_found head got =
          let same = got ∙ sym (ap (λ (e : Endpoint). e.head) shows) in
          record {
            delay = ap (λ (x : Head). heard 0 x.delay) same ∙ sym (there_heard i kind from size there);
            status = ap (standing 0) same ∙ sym (there_stands i kind from size there);
          }

      shown_part : (settings_call book saved s).part
          ≡ if is_empty (config_at i records) then part from size book else config_at i records
      unfolding settings_of part
      shown_part =
          ap (λ (x : Shown). x.part) (there_shown i kind from size there)
          ∙ ap (settings_of (entry_by s book kind from size)) shows

      pub offer_shown : (config r : List ℕ) → config ≡ config_at i records → length config ≡ 0 → r ≡ part from size book
          → r ≡ (settings_call book saved s).part
      unfolding is_empty
      offer_shown [] r got empty said = said ∙ sym (shown_part ∙ rw (← got))
      offer_shown (x ∷ config) r got empty said = absurd (omega arith)

      pub config_shown : (config : List ℕ) → config ≡ config_at i records → (length config ≡ 0 → ⊥)
          → config ≡ (settings_call book saved s).part
      unfolding is_empty
      config_shown [] got some = absurd (some refl)
      config_shown (x ∷ config) got some = sym (shown_part ∙ rw (← got))
