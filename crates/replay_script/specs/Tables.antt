-- A table of texts: lines, each a name, a colon (58) and what is said under the name.
use Rattle.std.specs.Prelude.{ℕ, suc, ◌+◌, List, [], ◌∷◌, ◌++◌, Bool, true, ◌&&◌, length, drop, eqb, if◌then◌else◌}
use Prim.Native.Char.{code}
use Prim.Native.String.{String, [] as none_left, ◌∷◌ as ◌then◌}
use Rattle.rules.specs.Octets.{same_octets}
use Rattle.replay_script.specs.Lines.{part_at}
use Rattle.replay_script.specs.Numbers.{none}

-- where the first line of the name begins; a line begins behind a newline (10), and where `starts`
unfoldable pub named_of : List ℕ → Bool → List ℕ → ℕ
named_of name starts [] = 0
named_of name starts (x ∷ xs) =
    if starts && same_octets (part_at 58 0 (x ∷ xs)) name then 0 else suc (named_of name (eqb x 10) xs)

unfoldable pub word_said : List ℕ → List ℕ → List ℕ
word_said name table = drop (length name + 1) (part_at 10 (named_of name true table) table)

-- the first octet, none where there is none
unfoldable pub front_of : List ℕ → ℕ
front_of [] = none
front_of (x ∷ xs) = x

unfoldable pub value_of : List ℕ → List ℕ → ℕ
value_of name table = front_of (word_said name table)

-- a table as it is written, line by line
abbrev pub line_of : String → List ℕ
line_of none_left = 10 ∷ []
line_of (c then s) = code c ∷ line_of s

abbrev pub lines_of : List String → List ℕ
lines_of [] = []
lines_of (s ∷ ss) = line_of s ++ lines_of ss
