-- What Reconfigure does at the endpoint that was met: the stored configuration is copied and checked for its marks, which it
-- passes since it could be stored, and with the new elements in place it could be stored again.
use Rattle.std.proofs.Common.{◌≡◌, ℕ, ◌+◌, ◌*◌, ◌≤◌, true, false, List, [], ◌∷◌, length, take, drop, Ok, Err, Result, sym, refl}
use Rattle.std.proofs.Common.{ap, ◌∙◌, subst, ap₂, le_trans, arith}
use Rattle.rules.specs.Octets.{front}
use Rattle.rules.specs.Elements.{items, fault_in, restored, could_store}
use Rattle.rules.specs.Endpoints.{Endpoint, is_idle, with_config, end_at}
use Rattle.rules.specs.Saved.{record_room, config_room, head_in, record_at}
use Rattle.rules.specs.Commands.{accept, reject, moves, rejects, rejects_fault, may, reconfigure_at, obey}
use Rattle.rules.specs.Host.{payload_of}
use Rattle.commands_reply.specs.Answers.{said_of}
use Rattle.commands_reply.specs.declared.Said.{Said}
use Rattle.rules.specs.declared.Head.{Head}
use Rattle.rules.specs.declared.Fault.{Fault}
use Rattle.rules.specs.declared.Rule.TheVariants.{Setting, Reconfiguring}
use Rattle.rules.specs.declared.Signal.TheVariants.{Reconfigure}
use Rattle.rules.proofs.LegalMoves.{open_busy, busy_keeps, keeps_config}
use Rattle.rules.proofs.Storable.{restored_could, could_short}
use Rattle.octets.specs.Patch.{patch, part}
use Rattle.octets.proofs.Patches.{part_patch}
use Rattle.elements.specs.Marks.{no_marks, marks_from}
use Rattle.elements.specs.Walks.{check_of}
use Rattle.elements.specs.declared.marks.Marks.{Marks}
use Rattle.elements.proofs.Judging.{check_clean}
use Rattle.elements_stored.specs.Stores.{marked_store, MarksFit}
use Rattle.elements_stored.proofs.Stores.{Stores, could_checked, again_stores}
use Rattle.book.specs.declared.places.Place.{Place}
use Rattle.saved.specs.Records.{config_size_at, config_at}
use Rattle.commands_reply.specs.Obeys.{ends_of, Obeys}
use Rattle.commands_checks.specs.Named.{Named}
use Rattle.commands_checks.proofs.Meeting.{entry_in, stands}
use Rattle.commands_checks.proofs.Acting.{did_say}
use Rattle.commands_set.specs.Kept.{Renews, kept_octets}
use Rattle.commands_set.proofs.Doings.{answered, fault_answered, few, moved}

-- ---- What is written

module _ {records payload : List ℕ} {i : ℕ} {h : Head} {m : Marks} (r : Renews records payload i h m) where
  abbrev anew : List ℕ
  anew = restored (items (drop 1 payload)) (items (config_at i records))

  config_short : length (config_at i records) ≤ 64
  config_short = le_trans (could_short r.caps (config_at i records) r.could) r.few

  -- what is asked where the configuration is read
  pub renew_reads : ((i + 1) * record_room ≤ length records) × (config_size_at i records ≤ config_room)
  renew_reads = (r.inside, r.told)

  fine : (fault_in Reconfiguring (items r.caps) (items (drop 1 payload))).code ≡ 0
  fine = (check_clean Reconfiguring (items r.caps) payload 1 m (sym r.clean)).0

  pub anew_short : length anew ≤ 64
  anew_short =
      le_trans
      (could_short r.caps anew
      (restored_could (items r.caps) (items (drop 1 payload)) (config_at i records) r.could fine))
      r.few

  -- what is stored, copied
  module _ {p : List ℕ} (q : p ≡ config_at i records) where
    pub copy_fits : 0 + length p ≤ 64
    copy_fits = omega (arith, ap length q, config_short)

    pub copied : (zeros : List ℕ) {copy : List ℕ} → length zeros ≡ 64 → copy ≡ patch 0 p zeros
        → take (length p) copy ≡ config_at i records
    unfolding part
    copied zeros n e = ap (take (length p)) e ∙ part_patch 0 p zeros (omega (arith, copy_fits)) ∙ q

  module _ {old : List ℕ} (same : old ≡ config_at i records) where
    pub old_short : length old ≤ 65535
    old_short = omega (arith, ap length same, config_short)

    module _ {k : Marks} (marks : k ≡ marks_from old 0 no_marks) where
      -- what is stored has no fault
      found : check_of Setting (items r.caps) old 0 ≡ Ok k
      found =
          ap (λ (l : List ℕ). check_of Setting (items r.caps) l 0) same
          ∙ could_checked (items r.caps) (config_at i records) r.could
          ∙ ap Ok (ap (λ (l : List ℕ). marks_from l 0 no_marks) (sym same) ∙ sym marks)

      stores : Stores payload m old k (restored (items (drop 1 payload)) (items old))
      stores = again_stores (items r.caps) payload 1 old r.clean found

      store_same : marked_store payload m old k ≡ anew
      store_same = stores.same ∙ ap (λ (l : List ℕ). restored (items (drop 1 payload)) (items l)) same

      pub renew_fits : MarksFit old k
      renew_fits = stores.left

      pub renew_keeps : ((i + 1) * record_room ≤ length records) × (length (marked_store payload m old k) ≤ 64)
      renew_keeps = (r.inside, subst (λ (l : List ℕ). length l ≤ 64) (sym store_same) anew_short)

      pub renew_writes : {records' : List ℕ}
          → records' ≡ patch (i * record_room) (kept_octets h (marked_store payload m old k)) records
          → records' ≡ patch (i * record_room) (kept_octets h anew) records
      renew_writes wrote = wrote ∙ ap (λ (l : List ℕ). patch (i * record_room) (kept_octets h l) records) store_same

-- ---- What is done at the endpoint

module _ {book records p reply : List ℕ} {at : Place} (call : Named Reconfigure book records p reply at) where
  -- what the check of the elements finds
  abbrev Finds : Result Marks Fault → Type 0
  Finds w = check_of Reconfiguring (items (part at.from at.size book)) p 1 ≡ w

  config_here : (end_at (ends_of book records) at.index).config ≡ config_at at.index records
  config_here = ap (λ (e : Endpoint). e.config) (stands call).shows

  busy : is_idle (end_at (ends_of book records) at.index).head.state ≡ false
  unfolding may
  busy = open_busy (end_at (ends_of book records) at.index).head.state (stands call).takes

  pub renews : {h : Head} {m : Marks} → h ≡ head_in (record_at at.index records) → Finds (Ok m)
      → Renews records p at.index h m
  unfolding part
  renews loads e =
      let it = end_at (ends_of book records) at.index in
      let offers = part at.from at.size book in
      let settings = busy_keeps (entry_in book p at) it (stands call).lawful busy in
      record {
        caps = offers;
        inside = (stands call).inside;
        head = loads;
        told = (stands call).told;
        could =
            subst (λ (l : List ℕ). could_store (items offers) l ≡ true) config_here
            (keeps_config (entry_in book p at) it settings);
        few = few call;
        clean = e;
      }

  checked : {w : Result Marks Fault} → Finds w
      → reconfigure_at (ends_of book records) p at.index (entry_in book p at)
      ≡ answered Reconfigure (ends_of book records)
      (moves (ends_of book records) at.index
      (with_config (restored (items (drop 1 p)) (items (end_at (ends_of book records) at.index).config))
      (end_at (ends_of book records) at.index)))
      w
  unfolding reconfigure_at check_of part
  checked e =
      let caps = items (part at.from at.size book) in
      fault_answered Reconfigure (fault_in Reconfiguring caps (items (drop 1 p))) (marks_from p 1 no_marks)
      (ends_of book records) _ e

  pub fault_refused : {f : Fault} {said : Said} {reply' : List ℕ} → Finds (Err f)
      → said ≡ said_of (reject (f.category ∷ f.code ∷ [])) → reply' ≡ front (f.category ∷ f.code ∷ []) reply
      → Obeys (obey Reconfigure) book records p reply said records reply'
  unfolding obey rejects_fault rejects payload_of
  fault_refused {f} e s w =
      did_say call (reconfigure_at (ends_of book records) p) refl (rejects_fault Reconfigure f) (checked e) s w

  pub anew_moves : {m : Marks} {h : Head} {said : Said} {records' : List ℕ} → Finds (Ok m)
      → h ≡ head_in (record_at at.index records) → said ≡ said_of (accept [])
      → records'
      ≡ patch (at.index * record_room)
      (kept_octets h (restored (items (drop 1 p)) (items (config_at at.index records)))) records
      → Obeys (obey Reconfigure) book records p reply said records' reply
  unfolding obey with_config
  anew_moves {h = h} e loads accepts wrote =
      moved call (reconfigure_at (ends_of book records) p) refl h
      (restored (items (drop 1 p)) (items (config_at at.index records))) (checked e)
      (ap₂ (λ (l : List ℕ) (x : Head). record { head = x; config = restored (items (drop 1 p)) (items l) }) (sym config_here)
      (loads ∙ sym (ap (λ (x : Endpoint). x.head) (stands call).shows)))
      (anew_short (renews loads e)) accepts wrote
