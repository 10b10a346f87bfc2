-- Link lost over the records: after i turns the first i are idle and the rest are as they were, by induction on the records
-- before.
use Rattle.std.proofs.Common.{ℕ, zero, suc, ◌+◌, ◌*◌, ◌≤◌, ◌≡◌, refl, sym, ap, ap₂, ◌∙◌, List, ◌++◌, add-one, arith, lit≤, length}
use Rattle.std.proofs.Common.{take, drop, length-drop}
use lib.Seq.{drop-append-add}
use Rattle.rules.specs.Octets.{front}
use Rattle.rules.specs.Endpoints.{forgotten, idle_head, idle}
use Rattle.rules.specs.Saved.{record_room, head_in, endpoint_in, head_octets, store_end, ends_in, store_ends, record_at}
use Rattle.rules.specs.declared.Head.{Head}
use Rattle.rules.proofs.SavedReads.{end_length, first_room}
use Rattle.octets.specs.Patch.{patch}
use Rattle.octets.proofs.Patches.{patch_past, lent_front}
use Rattle.saved_events.specs.Events.{all_idle}

-- the octets of an idle endpoint's head, with the SEID of a record
abbrev idle_octets : List ℕ → List ℕ
idle_octets r = head_octets (idle_head (head_in r).seid) 0

idle_record : (r : List ℕ) → store_end (forgotten (endpoint_in r)) r ≡ front (idle_octets r) r
unfolding store_end forgotten idle endpoint_in head_octets
idle_record r = refl

idle_long : (r : List ℕ) → length r ≡ record_room → length (store_end (forgotten (endpoint_in r)) r) ≡ record_room
unfolding forgotten idle
idle_long r e = end_length (forgotten (endpoint_in r)) r (lit≤ tt) e

head_fits : (h : Head) → length (head_octets h 0) ≤ record_room
unfolding head_octets
head_fits h = lit≤ tt

pub one_idle : (i : ℕ) (l : List ℕ) → suc i * record_room ≤ length l
    → patch (i * record_room) (idle_octets (record_at i (all_idle i l))) (all_idle i l) ≡ all_idle (suc i) l
unfolding all_idle ends_in store_ends
one_idle zero l h =
    sym (lent_front 0 record_room (idle_octets (take record_room l)) l
    (head_fits (idle_head (head_in (take record_room l)).seid)))
    ∙ ap (λ (x : List ℕ). x ++ drop record_room l) (sym (idle_record (take record_room l)))
one_idle (suc i) l h =
    let x = store_end (forgotten (endpoint_in (take record_room l))) (take record_room l) in
    let y = all_idle i (drop record_room l) in
    let long : length x ≡ record_room = idle_long (take record_room l) (first_room (suc i) l h) in
    let at : suc i * record_room ≡ length x + i * record_room = omega arith in
    let behind : record_at (suc i) (x ++ y) ≡ record_at i y =
    ap (take record_room) (ap (λ (k : ℕ). drop k (x ++ y)) at ∙ drop-append-add x y (i * record_room)) in
    ap₂ (λ (k : ℕ) (r : List ℕ). patch k (idle_octets r) (x ++ y)) at behind
    ∙ patch_past x y (idle_octets (record_at i y)) (i * record_room)
    ∙ ap (λ (z : List ℕ). x ++ z) (one_idle i (drop record_room l) (simp length-drop (omega arith)))

-- a turn, from what the calls answer
pub idle_turn : (i : ℕ) (l l₀ m : List ℕ) (h h' : Head) → (i + 1) * record_room ≤ length l₀ → l ≡ all_idle i l₀
    → h ≡ head_in (record_at i l) → h' ≡ idle_head h.seid → m ≡ patch (i * record_room) (head_octets h' 0) l
    → m ≡ all_idle (i + 1) l₀
idle_turn i l l₀ m h h' room so_far got moved stored =
    let more : suc i * record_room ≤ length l₀ = omega arith in
    let all : h' ≡ idle_head (head_in (record_at i (all_idle i l₀))).seid =
    moved ∙ ap (λ (x : Head). idle_head x.seid) (got ∙ ap (λ (x : List ℕ). head_in (record_at i x)) so_far) in
    stored ∙ ap₂ (λ (x : Head) (y : List ℕ). patch (i * record_room) (head_octets x 0) y) all so_far ∙ one_idle i l₀ more
    ∙ ap (λ (k : ℕ). all_idle k l₀) (sym (add-one i))

pub none_idle : (l : List ℕ) → l ≡ all_idle 0 l
unfolding all_idle ends_in store_ends
none_idle l = refl
