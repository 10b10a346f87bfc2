-- The number of one entry, by what its tests tell: each law is the chain of tests of `entry_number` as far as it was passed.
use Prim.Native.Nat.{ℕ, ◌+◌, ◌-◌, ◌/◌, ◌%◌, ◌≤◌, ◌<◌}
use mathlib.Core.Path.{◌≡◌}
use mathlib.Core.List.{List}
use mathlib.Core.Bool.{Bool, true, false, not, ◌&&◌}
use lib.ListN.{length, take, drop, get_or}
use lib.Dec.{ltb}
use borrow.Author.Tests.{ltb-true, leb-true, eqb-true, lt-ltb, le-ltb, le-leb, eq-eqb}
use Rattle.std.specs.Prelude.{if◌then◌else◌}
use Rattle.rules.specs.Elements.{items}
use Rattle.rules.specs.Book.{kind_right, media_type, list_right}
use Rattle.rules.proofs.Tests.{Told?, told, passed, failed, and_l, and_r}
use Rattle.book.specs.Entries.{entry_number}

-- two tests that can't both pass
not_both : {a b : Bool} {P Q : Type 0} → (a ≡ true → P) → (b ≡ true → Q) → (P → Q → ⊥) → a && b ≡ false
not_both {a} {b} f g h = go (told (a && b))
  where
    go : Told? (a && b) → a && b ≡ false
    go (passed t) = absurd (h (f (and_l a b t)) (g (and_r a b t)))
    go (failed t) = t

module _ (before : ℕ) (b : List ℕ) (at : ℕ) where
  pub entry_cut : length b - at < 3 → 1 ≡ entry_number before b at
  unfolding entry_number
  entry_cut h = rw (lt-ltb (length b - at) 3 h)

  module _ (whole : 3 ≤ length b - at) where
    pub seid_wrong : (before < get_or b at 0 → get_or b at 0 ≤ 62 → ⊥) → 5 ≡ entry_number before b at
    unfolding entry_number
    seid_wrong f =
        rw (
          le-ltb (length b - at) 3 whole,
          not_both (ltb-true before (get_or b at 0)) (leb-true (get_or b at 0) 62) f,
        )

    module _ (up : before < get_or b at 0) (low : get_or b at 0 ≤ 62) where
      pub kind_wrong : (get_or b (at + 1) 0 % 8 ≡ 0 → get_or b (at + 1) 0 / 16 ≤ 2 → ⊥) → 6 ≡ entry_number before b at
      unfolding entry_number kind_right
      kind_wrong f =
          rw (
            le-ltb (length b - at) 3 whole,
            lt-ltb before (get_or b at 0) up,
            le-leb (get_or b at 0) 62 low,
            not_both (eqb-true (get_or b (at + 1) 0 % 8) 0) (leb-true (get_or b (at + 1) 0 / 16) 2) f,
          )

      -- SEID and kind were passed
      pub headed : get_or b (at + 1) 0 % 8 ≡ 0 → get_or b (at + 1) 0 / 16 ≤ 2
          → (if ltb 64 (get_or b (at + 2) 0) then 7
          else if ltb (length b - (at + 3)) (get_or b (at + 2) 0) then 1
          else if not (list_right (get_or b (at + 1) 0 / 16) (items (take (get_or b (at + 2) 0) (drop (at + 3) b)))) then 7
          else 0)
          ≡ entry_number before b at
      unfolding entry_number kind_right media_type
      headed even few =
          rw (
            le-ltb (length b - at) 3 whole,
            lt-ltb before (get_or b at 0) up,
            le-leb (get_or b at 0) 62 low,
            eq-eqb (get_or b (at + 1) 0 % 8) 0 even,
            le-leb (get_or b (at + 1) 0 / 16) 2 few,
          )
