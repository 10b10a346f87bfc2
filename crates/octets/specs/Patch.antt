-- What an area holds once s was written at a place of it, and a part of an area.
use Rattle.std.specs.Prelude.{ℕ, ◌+◌, List, ◌++◌, length, take, drop}

unfoldable pub patch : ℕ → List ℕ → List ℕ → List ℕ
patch at s d = take at d ++ (s ++ drop (at + length s) d)

unfoldable pub part : ℕ → ℕ → List ℕ → List ℕ
part from size l = take size (drop from l)
