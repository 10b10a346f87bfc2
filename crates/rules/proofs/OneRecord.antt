-- One record among the saved ones: reading an endpoint reads its record, and storing the endpoints with one of them changed
-- writes that record alone. By induction on the records before it, each of which is stored as it was read.
use Prim.Native.Nat.{ℕ, zero, suc, ◌+◌, ◌*◌, ◌≤◌, ◌<◌}
use mathlib.Core.Path.{◌≡◌, refl, sym, ap, ap₂, ◌∙◌}
use mathlib.Core.List.{List, ◌++◌, append_assoc}
use mathlib.Core.Bool.{true}
use native.Mathlib.Omega.{arith}
use lib.ListN.{length, take, drop, set}
use lib.Seq.{take-add, drop-drop}
use Rattle.rules.specs.Octets.{octets_in}
use Rattle.rules.specs.Endpoints.{Endpoint, end_at}
use Rattle.rules.specs.Saved.{record_room, record_at, endpoint_in, record_right, ends_in, records_right, store_end, store_ends}
use Rattle.rules.proofs.Tests.{and_l, and_r}
use Rattle.rules.proofs.SavedReads.{drop_first, octets_take, octets_drop, end_kept, ends_kept, first_room, rest_room}

pub end_at_lem : (n i : ℕ) (l : List ℕ) → i < n → end_at (ends_in n l) i ≡ endpoint_in (record_at i l)
unfolding end_at ends_in
end_at_lem zero i l h = absurd (omega arith)
end_at_lem (suc n) zero l h = refl
end_at_lem (suc n) (suc i) l h =
    end_at_lem n i (drop record_room l) (omega arith)
    ∙ ap (λ (x : List ℕ). endpoint_in (take record_room x)) (sym (drop_first i l))

pub store_one : (n i : ℕ) (l : List ℕ) (e : Endpoint) → i < n → n * record_room ≤ length l → records_right n l ≡ true
    → octets_in l ≡ true
    → store_ends (set (ends_in n l) i e) l
    ≡ take (i * record_room) l ++ (store_end e (record_at i l) ++ drop (i * record_room + record_room) l)
unfolding ends_in store_ends records_right
store_one zero i l e h room right octets = absurd (omega arith)
store_one (suc n) zero l e h room right octets =
    ap (λ (x : List ℕ). store_end e (take record_room l) ++ x)
    (ends_kept n (drop record_room l) (rest_room n l room)
    (and_r (record_right (take record_room l)) (records_right n (drop record_room l)) right) (octets_drop record_room l octets))
store_one (suc n) (suc i) l e h room right octets =
    let first = take record_room l in
    let rest = drop record_room l in
    let behind = i * record_room in
    let a : suc i * record_room ≡ record_room + behind = omega arith in
    let b : suc i * record_room + record_room ≡ record_room + (behind + record_room) = omega arith in
    ap₂ ◌++◌
    (end_kept first (first_room n l room) (and_l (record_right first) (records_right n rest) right)
    (octets_take record_room l octets))
    (store_one n i rest e (omega arith) (rest_room n l room) (and_r (record_right first) (records_right n rest) right)
    (octets_drop record_room l octets))
    ∙ sym (append_assoc first (take behind rest) (store_end e (record_at i rest) ++ drop (behind + record_room) rest))
    ∙ ap₂ ◌++◌ (sym (ap (λ (k : ℕ). take k l) a ∙ take-add record_room behind l))
    (ap₂ (λ (x y : List ℕ). store_end e (take record_room x) ++ y) (sym (drop_first i l))
    (drop-drop (behind + record_room) record_room l ∙ sym (ap (λ (k : ℕ). drop k l) b)))
