-- The saved area in its parts, the count, the link part and the records: the link part was lent and came back.
use Prim.Native.Nat.{ℕ, ◌≤◌}
use mathlib.Core.Path.{◌≡◌, sym, ap, ◌∙◌}
use mathlib.Core.List.{List, ◌++◌, append_assoc}
use native.Mathlib.Omega.{arith}
use lib.ListN.{length, take, drop, length-append, length-take, length-drop}
use lib.Seq.{length-take-le, take_at, drop_at, drop-drop}
use Rattle.rules.specs.Saved.{link_room, records_place, link_of, records_of}
use Rattle.bridge_packet.specs.Taken.{with_link}

module _ (l m : List ℕ) where
  -- the link part lent and come back
  pub link_back : take 1 l ++ (m ++ drop 520 (drop 1 l)) ≡ with_link m l
  unfolding with_link records_of
  link_back = ap (λ (x : List ℕ). take 1 l ++ (m ++ x)) (drop-drop 520 1 l)

  module _ (long : records_place ≤ length l) (whole : length m ≡ link_room) where
    one : length (take 1 l) ≡ 1
    one = length-take-le 1 l (omega arith)

    pub link_with : link_of (with_link m l) ≡ m
    unfolding with_link link_of
    link_with =
        ap (take link_room) (drop_at (take 1 l) (m ++ records_of l) 1 one) ∙ take_at m (records_of l) link_room whole

    -- all that stands before the records
    pub front_with : take records_place (with_link m l) ≡ take 1 l ++ m
    unfolding with_link
    front_with =
        let e : length (take 1 l ++ m) ≡ records_place = simp (length-append, one, whole) in
        ap (take records_place) (sym (append_assoc (take 1 l) m (records_of l)))
        ∙ take_at (take 1 l ++ m) (records_of l) records_place e

    pub records_with : records_of (with_link m l) ≡ records_of l
    unfolding with_link records_of
    records_with =
        let e : length (take 1 l ++ m) ≡ records_place = simp (length-append, one, whole) in
        ap (drop records_place) (sym (append_assoc (take 1 l) m (records_of l)))
        ∙ drop_at (take 1 l ++ m) (records_of l) records_place e

    pub long_with : records_place ≤ length (with_link m l)
    unfolding with_link
    long_with = simp (length-append, one, whole) (omega arith)

-- an area that reaches to the records has a whole link part, and the other way
pub link_whole : (l : List ℕ) → records_place ≤ length l → length (link_of l) ≡ link_room
unfolding link_of
link_whole l long = length-take-le link_room (drop 1 l) (rw length-drop (omega arith))

pub long_by_link : (l : List ℕ) → length (link_of l) ≡ link_room → records_place ≤ length l
unfolding link_of
long_by_link l e = omega (arith, e, length-take link_room (drop 1 l), length-drop 1 l)
