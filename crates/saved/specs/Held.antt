-- The records of a saved connection as the code may count on them: n records with room and right octets.
use Rattle.std.specs.Prelude.{ℕ, ◌*◌, ◌≤◌, ◌≡◌, List, true, length}
use Rattle.rules.specs.Octets.{octets_in}
use Rattle.rules.specs.Saved.{record_room, records_right}

pub record Held (n : ℕ) (l : List ℕ) : Type 0 where
  pub room : n * record_room ≤ length l
  pub octets : octets_in l ≡ true
  pub right : records_right n l ≡ true
