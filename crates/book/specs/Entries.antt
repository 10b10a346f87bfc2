-- One entry of a book as it is checked, by its place.
use Rattle.std.specs.Prelude.{ℕ, ◌+◌, ◌-◌, ◌≤◌, ◌≡◌, List, true, not, ◌&&◌, length, take, drop, get_or, leb, ltb, if◌then◌else◌}
use Rattle.rules.specs.Elements.{items}
use Rattle.rules.specs.Book.{kind_right, media_type, list_right}

-- The entry at a place of the book b, after one with the SEID `before` (0: none): its number, 0 where it is right.
unfoldable pub entry_number : ℕ → List ℕ → ℕ → ℕ
entry_number before b at =
    let seid = get_or b at 0 in
    let kind = get_or b (at + 1) 0 in
    let size = get_or b (at + 2) 0 in
    if ltb (length b - at) 3 then 1
    else if not (ltb before seid && leb seid 62) then 5
    else if not (kind_right kind) then 6
    else if ltb 64 size then 7
    else if ltb (length b - (at + 3)) size then 1
    else if not (list_right (media_type kind) (items (take size (drop (at + 3) b)))) then 7
    else 0

-- What the number 0 says of an entry.
pub record RightEntry (b : List ℕ) (at : ℕ) : Type 0 where
  pub inside : at + 3 + get_or b (at + 2) 0 ≤ length b
  pub short : get_or b (at + 2) 0 ≤ 64
  pub kind : kind_right (get_or b (at + 1) 0) ≡ true
  pub listed : list_right (media_type (get_or b (at + 1) 0)) (items (take (get_or b (at + 2) 0) (drop (at + 3) b))) ≡ true
