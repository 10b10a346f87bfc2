-- What is written at one record's place is what storing the endpoints with that one changed writes.
use Prim.Native.Nat.{ℕ, zero, suc, ◌+◌, ◌*◌, ◌-◌, ◌≤◌, ◌<◌, zero-le}
use mathlib.Core.Path.{◌≡◌, refl, sym, ap, ap₂, ◌∙◌, subst}
use mathlib.Core.List.{List, [], ◌++◌, append_assoc}
use mathlib.Core.Bool.{true}
use native.Mathlib.Nat.{mul-le-mul_right}
use native.Mathlib.Omega.{arith}
use borrow.Author.Tests.{leb-true}
use lib.Dec.{lit≤}
use lib.ListN.{length, take, drop, get_or, set, length-append, take-append-drop}
use lib.Seq.{drop-drop}
use Rattle.rules.specs.Octets.{front}
use Rattle.rules.specs.Endpoints.{end_at}
use Rattle.rules.specs.Saved.{record_room, head_room, config_room, head_in, endpoint_in, head_octets, store_end, ends_in}
use Rattle.rules.specs.Saved.{store_ends, record_right, records_right, record_at}
use Rattle.rules.proofs.OneRecord.{end_at_lem, store_one}
use Rattle.octets.specs.Patch.{patch, part}
use Rattle.octets.proofs.Patches.{lent_front}
use Rattle.rules.proofs.Tests.{and_l, and_r}
use Rattle.rules.proofs.SavedReads.{drop_first}
use Rattle.saved.specs.Records.{config_size_at, config_at}
use Rattle.saved.specs.Held.{Held}
use Rattle.rules.specs.declared.Head.{Head}
use Rattle.saved.proofs.Configs.{config_length, config_there}

-- a write within one record
within_record : (i : ℕ) (s l : List ℕ) → length s ≤ record_room
    → take (i * record_room) l ++ (front s (record_at i l) ++ drop (i * record_room + record_room) l)
    ≡ patch (i * record_room) s l
within_record i s l h =
    ap (λ (x : List ℕ). take (i * record_room) l ++ (front s (record_at i l) ++ x))
    (sym (drop-drop record_room (i * record_room) l))
    ∙ lent_front (i * record_room) record_room s l h

head_and_config : (h : Head) (c : List ℕ) → length c ≤ config_room → length (head_octets h (length c) ++ c) ≤ record_room
unfolding head_octets
head_and_config h c e = omega arith

-- the head and the configuration of one endpoint written
pub stored_one : (n i : ℕ) (l : List ℕ) (h : Head) (c : List ℕ) → i < n → Held n l → length c ≤ config_room
    → patch (i * record_room) (head_octets h (length c) ++ c) l
    ≡ store_ends (set (ends_in n l) i (record { head = h; config = c })) l
unfolding store_end
stored_one n i l h c inside held short =
    sym (store_one n i l (record { head = h; config = c }) inside held.room held.right held.octets
    ∙ within_record i (head_octets h (length c) ++ c) l (head_and_config h c short))

-- the endpoint at a place, as the code has it
pub loaded_one : (n i : ℕ) (l : List ℕ) → i < n
    → end_at (ends_in n l) i ≡ record { head = head_in (record_at i l); config = config_at i l }
unfolding endpoint_in
loaded_one n i l inside = end_at_lem n i l inside

lengths_sum : (at : ℕ) (s c : List ℕ) → at + length s + length c ≡ at + length (s ++ c)
lengths_sum at s c = simp length-append (omega arith)

-- the head alone written, where the configuration stands already
pub head_alone : (at : ℕ) (s c l : List ℕ) → c ≡ take (length c) (drop (at + length s) l) → patch at s l ≡ patch at (s ++ c) l
unfolding patch
head_alone at s c l e =
    ap (λ (x : List ℕ). take at l ++ (s ++ x))
    (sym (take-append-drop (length c) (drop (at + length s) l))
    ∙ ap₂ ◌++◌ (sym e) (drop-drop (length c) (at + length s) l))
    ∙ ap (λ (x : List ℕ). take at l ++ x) (sym (append_assoc s c (drop (at + length s + length c) l)))
    ∙ ap (λ (k : ℕ). take at l ++ ((s ++ c) ++ drop k l)) (lengths_sum at s c)

-- writing one record through a part that is lent
span : (i : ℕ) → i * 80 + 80 - i * 80 ≡ 80
span i = omega arith

pub set_by : (i : ℕ) (l m : List ℕ) (h : Head) (n : ℕ)
    → m ≡ head_octets h n ++ drop head_room (take (i * 80 + 80 - i * 80) (drop (i * 80) l))
    → take (i * 80) l ++ (m ++ drop (i * 80 + 80 - i * 80) (drop (i * 80) l)) ≡ patch (i * record_room) (head_octets h n) l
unfolding head_octets front
set_by i l m h n q =
    ap (λ (x : List ℕ). take (i * 80) l ++ (x ++ drop (i * 80 + 80 - i * 80) (drop (i * 80) l))) q
    ∙ ap (λ (x : ℕ). take (i * 80) l ++
    ((head_octets h n ++ drop head_room (take x (drop (i * 80) l))) ++ drop x (drop (i * 80) l))) (span i)
    ∙ lent_front (i * 80) 80 (head_octets h n) l (lit≤ tt)

-- ---- The head alone is written: the configuration that stands there stays, or there is none any more

-- a record's octets are right
pub record_right_lem : (n i : ℕ) (l : List ℕ) → i < n → records_right n l ≡ true → record_right (record_at i l) ≡ true
unfolding records_right
record_right_lem zero i l h e = absurd (omega arith)
record_right_lem (suc n) zero l h e = and_l (record_right (take record_room l)) (records_right n (drop record_room l)) e
record_right_lem (suc n) (suc i) l h e =
    subst (λ (x : List ℕ). record_right (take record_room x) ≡ true) (sym (drop_first i l))
    (record_right_lem n i (drop record_room l) (omega arith)
    (and_r (record_right (take record_room l)) (records_right n (drop record_room l)) e))

length_right_lem : (r : List ℕ) → record_right r ≡ true → get_or r 7 0 ≤ config_room
unfolding record_right
length_right_lem r e = leb-true (get_or r 7 0) config_room (search (and_l, and_r))

module _ (n i : ℕ) (l : List ℕ) (inside : i < n) (held : Held n l) where
  -- a record's place has room
  pub record_inside : (i + 1) * record_room ≤ length l
  record_inside = omega (arith, held.room, mul-le-mul_right record_room inside)

  pub length_told : config_size_at i l ≤ config_room
  length_told = length_right_lem (record_at i l) (record_right_lem n i l inside held.right)

  pub head_moved : (h : Head)
      → patch (i * record_room) (head_octets h (config_size_at i l)) l
      ≡ store_ends (set (ends_in n l) i (record { head = h; config = config_at i l })) l
  unfolding head_octets part
  head_moved h =
      let size = config_length i l record_inside length_told in
      let there = config_there i l record_inside length_told in
      ap (λ (k : ℕ). patch (i * record_room) (head_octets h k) l) (sym size)
      ∙ head_alone (i * record_room) (head_octets h (length (config_at i l))) (config_at i l) l
      (there ∙ ap (λ (k : ℕ). take k (drop (i * record_room + head_room) l)) (sym size))
      ∙ stored_one n i l h (config_at i l) inside held (omega (arith, size, length_told))

  pub head_emptied : (h : Head)
      → patch (i * record_room) (head_octets h 0) l ≡ store_ends (set (ends_in n l) i (record { head = h; config = [] })) l
  head_emptied h = head_alone (i * record_room) (head_octets h 0) [] l refl ∙ stored_one n i l h [] inside held zero-le

-- a record's place has room in the records as they are lent
pub has_room : (n i : ℕ) (l m : List ℕ) → i < n → Held n l → m ≡ l → (i + 1) * record_room ≤ length m
has_room n i l m inside held e =
    subst (λ (x : List ℕ). (i + 1) * record_room ≤ length x) (sym e) (record_inside n i l inside held)
