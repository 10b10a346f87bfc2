-- What Set Configuration does at the endpoint that was met: by the far SEID, and by what the check of the elements finds.
use Rattle.std.proofs.Common.{◌≡◌, ℕ, ◌+◌, ◌*◌, ◌≤◌, true, false, List, [], ◌∷◌, length, get_or, drop, Ok, Err, Result, sym, refl}
use Rattle.std.proofs.Common.{ap, ◌∙◌, subst, ap₂, le_trans, leb-true}
use Rattle.rules.specs.Octets.{front}
use Rattle.rules.specs.Elements.{items, fault_in, stored, could_store}
use Rattle.rules.specs.Endpoints.{Endpoint, far_right, settled_by, end_at}
use Rattle.rules.specs.Saved.{record_room, head_in, record_at}
use Rattle.rules.specs.Commands.{accept, reject, moves, rejects, rejects_fault, length_right, far_in, settled, set_at, obey}
use Rattle.rules.specs.Host.{payload_of}
use Rattle.commands_reply.specs.Answers.{said_of}
use Rattle.commands_reply.specs.declared.Said.{Said}
use Rattle.rules.specs.declared.Head.{Head}
use Rattle.rules.specs.declared.Fault.{Fault}
use Rattle.rules.specs.declared.Rule.TheVariants.{Setting}
use Rattle.rules.specs.declared.Signal.TheVariants.{SetConfiguration}
use Rattle.rules.proofs.Storable.{stored_could, could_short, could_clean, could_same}
use Rattle.octets.specs.Patch.{patch, part}
use Rattle.elements.specs.Marks.{no_marks, marks_from}
use Rattle.elements.specs.Walks.{check_of}
use Rattle.elements.specs.declared.marks.Marks.{Marks}
use Rattle.elements.proofs.Judging.{told_marks, check_clean}
use Rattle.elements_stored.specs.Stores.{marked_store}
use Rattle.elements_stored.proofs.Stores.{set_stores}
use Rattle.book.specs.declared.places.Place.{Place}
use Rattle.commands_reply.specs.Obeys.{ends_of, Obeys}
use Rattle.commands_checks.specs.Named.{Named}
use Rattle.commands_checks.proofs.Meeting.{entry_in, stands}
use Rattle.commands_checks.proofs.Acting.{did_say}
use Rattle.commands_set.specs.Kept.{kept_octets}
use Rattle.commands_set.proofs.Doings.{answered, fault_answered, few, moved}

-- what is stored is no longer than the list that offers it
stored_short : (l p : List ℕ) {m : Marks} → check_of Setting (items l) p 2 ≡ Ok m
    → length (stored (items (drop 2 p))) ≤ length l
stored_short l p {m} e =
    let clean = (check_clean Setting (items l) p 2 m (sym e)).0 in
    could_short l (stored (items (drop 2 p))) (stored_could (items l) (items (drop 2 p)) clean)

-- ---- What is done at the endpoint

module _ {book records p reply : List ℕ} {at : Place} (call : Named SetConfiguration book records p reply at) where
  pub two : 2 ≤ length p
  unfolding length_right
  two = leb-true 2 (length p) (stands call).long

  -- what the check of the elements finds
  abbrev Finds : Result Marks Fault → Type 0
  Finds w = check_of Setting (items (part at.from at.size book)) p 2 ≡ w

  -- elements that could be stored as they stand
  abbrev Could : Type 0
  Could = could_store (items (part at.from at.size book)) (drop 2 p) ≡ true

  could_finds : Could → Finds (Ok (marks_from p 2 no_marks))
  unfolding check_of
  could_finds c = sym (told_marks _ _ (could_clean (items (part at.from at.size book)) (drop 2 p) c))

  pub could_few : Could → length (drop 2 p) ≤ 64
  could_few c = le_trans (could_short (part at.from at.size book) (drop 2 p) c) (few call)

  config_short : {m : Marks} → Finds (Ok m) → length (stored (items (drop 2 p))) ≤ 64
  config_short e = le_trans (stored_short (part at.from at.size book) p e) (few call)

  store_same : {m k : Marks} (old : List ℕ) → Finds (Ok m) → k ≡ no_marks → marked_store p m old k ≡ stored (items (drop 2 p))
  store_same {m} old e none =
      ap (marked_store p m old) none ∙ (set_stores (items (part at.from at.size book)) p 2 old e).same

  -- what is asked where the configuration is written
  pub set_keeps : {m k : Marks} (old : List ℕ) → Finds (Ok m) → k ≡ no_marks
      → ((at.index + 1) * record_room ≤ length records) × (length (marked_store p m old k) ≤ 64)
  set_keeps old e none = (
    (stands call).inside,
    subst (λ (l : List ℕ). length l ≤ 64) (sym (store_same old e none)) (config_short e),
  )

  pub far_refused : far_right (far_in (get_or p 1 0)) ≡ false → {said : Said} {reply' : List ℕ}
      → said ≡ said_of (rejects SetConfiguration 0 0x18) → reply' ≡ front (payload_of (rejects SetConfiguration 0 0x18)) reply
      → Obeys (obey SetConfiguration) book records p reply said records reply'
  unfolding obey set_at
  far_refused wrong s w =
      did_say call (set_at (ends_of book records) p) refl (rejects SetConfiguration 0 0x18) (rw wrong) s w

  module _ (right : far_right (far_in (get_or p 1 0)) ≡ true) where
    checked : {w : Result Marks Fault} → Finds w
        → set_at (ends_of book records) p at.index (entry_in book p at)
        ≡ answered SetConfiguration (ends_of book records)
        (moves (ends_of book records) at.index
        (settled (end_at (ends_of book records) at.index) (far_in (get_or p 1 0)) (stored (items (drop 2 p)))))
        w
    unfolding set_at check_of part
    checked e =
        rw right
        (fault_answered SetConfiguration
        (fault_in Setting (items (part at.from at.size book)) (items (drop 2 p))) (marks_from p 2 no_marks)
        (ends_of book records) _ e)

    pub fault_refused : {f : Fault} {said : Said} {reply' : List ℕ} → Finds (Err f)
        → said ≡ said_of (reject (f.category ∷ f.code ∷ [])) → reply' ≡ front (f.category ∷ f.code ∷ []) reply
        → Obeys (obey SetConfiguration) book records p reply said records reply'
    unfolding obey rejects_fault rejects payload_of
    fault_refused {f} e s w =
        did_say call (set_at (ends_of book records) p) refl (rejects_fault SetConfiguration f) (checked e) s w

    pub set_moves : {m k : Marks} {h h' : Head} {said : Said} {records' : List ℕ} (old : List ℕ)
        → Finds (Ok m) → k ≡ no_marks → h ≡ head_in (record_at at.index records)
        → h' ≡ settled_by (far_in (get_or p 1 0)) h → said ≡ said_of (accept [])
        → records' ≡ patch (at.index * record_room) (kept_octets h' (marked_store p m old k)) records
        → Obeys (obey SetConfiguration) book records p reply said records' reply
    unfolding obey settled
    set_moves {h = h} old e none loads same accepts wrote =
        let far = far_in (get_or p 1 0) in
        let config = stored (items (drop 2 p)) in
        moved call (set_at (ends_of book records) p) refl (settled_by far h) config (checked e)
        (ap (λ (x : Head). record { head = settled_by far x; config = config })
        (loads ∙ sym (ap (λ (x : Endpoint). x.head) (stands call).shows)))
        (config_short e) accepts
        (wrote
        ∙ ap₂ (λ (x : Head) (l : List ℕ). patch (at.index * record_room) (kept_octets x l) records) same (store_same old e none))

    pub whole_moves : {h h' : Head} {said : Said} {config records' : List ℕ}
        → Could → config ≡ drop 2 p → h ≡ head_in (record_at at.index records)
        → h' ≡ settled_by (far_in (get_or p 1 0)) h → said ≡ said_of (accept [])
        → records' ≡ patch (at.index * record_room) (kept_octets h' config) records
        → Obeys (obey SetConfiguration) book records p reply said records' reply
    whole_moves {h' = h'} c whole loads same accepts wrote =
        set_moves [] (could_finds c) refl loads same accepts
        (wrote
        ∙ ap (λ (l : List ℕ). patch (at.index * record_room) (kept_octets h' l) records)
        (whole ∙ sym (could_same (items (part at.from at.size book)) (drop 2 p) c)
        ∙ sym (store_same [] (could_finds c) refl)))
