-- Octets added up with their weights, low octet first.
use Rattle.std.specs.Prelude.{ℕ, ◌+◌, ◌*◌, List, [], ◌∷◌}

unfoldable pub little_of : List ℕ → ℕ
little_of [] = 0
little_of (x ∷ xs) = x + little_of xs * 256
