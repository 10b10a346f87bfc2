-- What a gathering's head and part come to in its room: each is written behind what stands at the front already, which makes the
-- front longer, and a front that goes on with what stands there already changes nothing.
use Prim.Native.Nat.{ℕ, ◌+◌, ◌/◌, ◌%◌, ◌≤◌}
use native.Mathlib.Nat.{zero-add}
use native.Mathlib.Numerals.{add-one}
use native.Mathlib.Omega.{arith}
use mathlib.Core.Path.{◌≡◌, refl, sym, ap, ap₂, ◌∙◌}
use mathlib.Core.List.{List, [], ◌∷◌, ◌++◌, append_assoc}
use mathlib.Core.Option.{some}
use lib.ListN.{length, take, drop, get_or, length-append, length-drop, take-append-drop}
use lib.Seq.{drop-drop, length-take-le, sets, sets-eq}
use Rattle.rules.specs.Octets.{front}
use Rattle.rules.specs.Packets.{message_from, extended, label_in, mtype_in, signal_in}
use Rattle.rules.specs.Saved.{gathering_room, gathering_at, gathering_head, store_gathering, payload_length_in}
use Rattle.rules.proofs.SavedReads.{front_same, octets_from, octets_from_lem}
use Rattle.octets.specs.Patch.{patch}
use Rattle.octets.proofs.Patches.{front_more}
use Rattle.packets_next.specs.Rooms.{begun, grown}
use Rattle.packets_gather.specs.Parts.{with_part}

pub front_kept : (s d : List ℕ) (n : ℕ) → length s + n ≤ length d → front (s ++ take n (drop (length s) d)) d ≡ front s d
unfolding front
front_kept s d n h =
    let rest = drop (length s) d in
    let long : length (take n rest) ≡ n = length-take-le n rest (rw length-drop (omega arith)) in
    append_assoc s (take n rest) (drop (length (s ++ take n rest)) d)
    ∙ ap (λ (x : List ℕ). s ++ x)
    (ap (λ (k : ℕ). take n rest ++ drop k d) (length-append s (take n rest) ∙ ap (λ (k : ℕ). length s + k) long)
    ∙ ap (λ (x : List ℕ). take n rest ++ x) (sym (drop-drop n (length s) d))
    ∙ take-append-drop n rest)

-- ---- A gathering's part and its counts

-- a head: its first five octets, and behind them the counts of parts and of octets
counted : List ℕ → ℕ → ℕ → List ℕ
counted five parts n = five ++ (parts ∷ n / 256 ∷ n % 256 ∷ [])

-- A part that is written into a room whose first five octets are known: what the room holds then.
with_part_lem : (five room part : List ℕ) (parts n : ℕ) → length five ≡ 5 → 8 + n ≤ length room
    → with_part parts n part (front five room)
    ≡ front (counted five parts (n + length part) ++ (take n (drop 8 room) ++ part)) room
unfolding with_part counted
with_part_lem five room part parts n e h =
    let counts = parts ∷ (n + length part) / 256 ∷ (n + length part) % 256 ∷ [] in
    let head = five ++ counts in
    let eight : length head ≡ 8 = simp length-append (omega arith) in
    let before = take n (drop (length head) room) in
    let up_to : length (head ++ before) ≡ 8 + n =
    length-append head before
    ∙ ap₂ ◌+◌ eight (length-take-le n (drop (length head) room) (simp length-drop (omega arith))) in
    ap (λ (k : ℕ). patch (8 + n) part (patch k counts (front five room))) (sym e)
    ∙ ap (patch (8 + n) part) (front_more five counts room ∙ sym (front_kept head room n (omega arith)))
    ∙ ap (λ (k : ℕ). patch k part (front (head ++ before) room)) (sym up_to)
    ∙ front_more (head ++ before) part room
    ∙ ap (λ (x : List ℕ). front x room) (append_assoc head before part)
    ∙ ap (λ (k : ℕ). front (head ++ (take n (drop k room) ++ part)) room) eight

-- ---- A gathering that begins

-- the first five octets of its head
abbrev pub start_head : List ℕ → List ℕ
start_head p = 1 ∷ label_in (get_or p 0 0) ∷ mtype_in (get_or p 0 0) ∷ signal_in (get_or p 2 0) ∷ get_or p 1 0 ∷ []

pub begun_stored : (room p part : List ℕ) → length room ≡ gathering_room → part ≡ drop 3 p
    → with_part 1 0 part (sets room 0 (start_head p)) ≡ store_gathering (some (begun p)) room
unfolding store_gathering gathering_head begun message_from counted front
begun_stored room p part long e =
    ap₂ (with_part 1 0) e (sets-eq (start_head p) room 0 (omega arith))
    ∙ with_part_lem (start_head p) room (drop 3 p) 1 0 refl (omega arith)
    ∙ rw zero-add

-- ---- A gathering that goes on

-- the first five octets of a room
abbrev first_five : List ℕ → List ℕ
first_five r = get_or r 0 0 ∷ get_or r 1 0 ∷ get_or r 2 0 ∷ get_or r 3 0 ∷ get_or r 4 0 ∷ []

five_kept : (r : List ℕ) → 5 ≤ length r → front (first_five r) r ≡ r
unfolding octets_from
five_kept r h = front_same (first_five r) r 5 (octets_from_lem 5 0 r h) h

pub grown_stored : (room p part : List ℕ) (n : ℕ) → length room ≡ gathering_room → get_or room 0 0 ≡ 1 → n ≤ 512
    → n ≡ payload_length_in room → part ≡ drop 1 p
    → with_part (get_or room 5 0 + 1) n part room ≡ store_gathering (some (grown (gathering_at room) p)) room
unfolding store_gathering gathering_head grown extended gathering_at counted
grown_stored room p part n long mark fits e f =
    let before = take n (drop 8 room) in
    let all : length (before ++ part) ≡ n + length part =
    length-append before part
    ∙ ap (λ (k : ℕ). k + length part) (length-take-le n (drop 8 room) (rw length-drop (omega arith))) in
    ap (with_part (get_or room 5 0 + 1) n part) (sym (five_kept room (omega arith)))
    ∙ with_part_lem (first_five room) room part (get_or room 5 0 + 1) n refl (omega arith)
    ∙ rw (mark, add-one, ← all, e, f)
