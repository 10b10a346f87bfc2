-- Octets in hexadecimal.
use Rattle.std.specs.Prelude.{ℕ, zero, suc, ◌+◌, ◌-◌, ◌*◌, ◌/◌, ◌%◌, List, [], ◌∷◌, ◌++◌, Bool, true, false, ◌&&◌, not, length}
use Rattle.std.specs.Prelude.{get_or, eqb, ltb, leb, if◌then◌else◌}
use Rattle.octets.specs.Patch.{patch}
use Rattle.replay_script.specs.Numbers.{none}

-- the value of a digit of either case, 16 where x is none
unfoldable pub digit_of : ℕ → ℕ
digit_of x = if ltb x 48 then 16 else if ltb x 58 then x - 48 else if ltb x 65 then 16 else if ltb x 71 then x - 55
    else if ltb x 97 then 16 else if ltb x 103 then x - 87 else 16

-- the digit of a value's low four bits, in capitals
unfoldable pub spelled : ℕ → ℕ
spelled n = if ltb (n % 16) 10 then 48 + n % 16 else 55 + n % 16

-- two digits as an octet, 256 where one is none
unfoldable pub octet_of : ℕ → ℕ → ℕ
octet_of high low = if ltb 15 high then 256 else if ltb 15 low then 256 else high * 16 + low

-- the octet whose two digits stand at a place, 256 where they do not
unfoldable pub octet_at : ℕ → List ℕ → ℕ
octet_at at s = if leb (length s) at then 256 else if ltb (length s - at) 2 then 256
    else octet_of (digit_of (get_or s at 0)) (digit_of (get_or s (at + 1) 0))

-- where octet number k begins
unfoldable pub place_of : Bool → ℕ → ℕ
place_of parted k = if parted then k * 3 else k * 2

-- whether octet number k is there, with a blank before it where they are parted
unfoldable pub is_there : Bool → List ℕ → ℕ → Bool
is_there parted s k = if eqb (octet_at (place_of parted k) s) 256 then false else if not parted then true
    else if eqb (place_of parted k) 0 then true else eqb (get_or s (place_of parted k - 1) 0) 32

-- how many octets a text of so many characters is
unfoldable pub whole_of : Bool → ℕ → ℕ
whole_of parted n = if eqb n 0 then 0 else if parted
    then (if eqb ((n + 1) % 3) 0 then (n + 1) / 3 else none)
    else (if eqb (n % 2) 0 then n / 2 else none)

-- whether the first k octets are there
unfoldable pub all_there : Bool → List ℕ → ℕ → Bool
all_there parted s zero = true
all_there parted s (suc k) = is_there parted s k && all_there parted s k

-- how many octets a text of at most 8,191 characters spells
unfoldable pub hex_count : Bool → List ℕ → ℕ
hex_count parted s = if ltb 8191 (length s) then none else if eqb (whole_of parted (length s)) none then none
    else if all_there parted s (whole_of parted (length s)) then whole_of parted (length s) else none

-- the first k octets that a text spells
unfoldable pub octets_read : Bool → List ℕ → ℕ → List ℕ
octets_read parted s zero = []
octets_read parted s (suc k) = octets_read parted s k ++ (octet_at (place_of parted k) s % 256 ∷ [])

-- an area once they were written to its front, if they fit
unfoldable pub read_into : Bool → List ℕ → ℕ → List ℕ → List ℕ
read_into parted s n d = if ltb 8192 n then d else if ltb (length d) n then d else patch 0 (octets_read parted s n) d
