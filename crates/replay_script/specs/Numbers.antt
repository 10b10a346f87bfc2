-- Decimal numbers up to a limit.
use Rattle.std.specs.Prelude.{ℕ, ◌+◌, ◌-◌, ◌*◌, List, [], ◌∷◌, Option, unwrap_or, ltb, if◌then◌else◌}

-- what stands for no number
abbrev pub none : ℕ
none = 65536

-- a number that may be none
abbrev pub or_none : Option ℕ → ℕ
or_none o = unwrap_or o none

-- the number so far with one more digit
abbrev pub longer : ℕ → ℕ → ℕ
longer value x = value * 10 + (x - 48)

-- the number that the digits make behind those that made the value
unfoldable pub number_from : ℕ → ℕ → List ℕ → ℕ
number_from most value [] = value
number_from most value (x ∷ xs) = if ltb x 48 then none else if ltb 57 x then none
    else if ltb most (longer value x) then none else number_from most (longer value x) xs

unfoldable pub number_of : ℕ → List ℕ → ℕ
number_of most [] = none
number_of most (x ∷ xs) = number_from most 0 (x ∷ xs)
