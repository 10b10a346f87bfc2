-- A line of a script: its step, and the words of a step.
use Rattle.std.specs.Prelude.{ℕ, ◌+◌, ◌-◌, List, Bool, ◌||◌, not, length, take, drop, eqb, ltb, reverse, if◌then◌else◌}
use Rattle.std.specs.List.{position_or_len}

-- where the first c stands, the length where there is none
unfoldable pub first_of : ℕ → List ℕ → ℕ
first_of c s = position_or_len (λ x. eqb x c) s

-- blank, tab, carriage return
unfoldable pub is_blank : ℕ → Bool
is_blank x = eqb x 32 || (eqb x 9 || eqb x 13)

-- how many blanks stand in front
unfoldable pub blanks_of : List ℕ → ℕ
blanks_of s = position_or_len (λ x. not (is_blank x)) s

-- how many octets are left without the blanks behind
unfoldable pub kept_of : List ℕ → ℕ
kept_of s = length s - position_or_len (λ x. not (is_blank x)) (reverse s)

unfoldable pub trimmed : List ℕ → List ℕ
trimmed s = drop (blanks_of s) (take (kept_of s) s)

-- what stands before a comment (35), without the blanks at its ends
unfoldable pub step_in : List ℕ → List ℕ
step_in line = trimmed (take (first_of 35 line) line)

-- what stands from a place on, up to the first c or to the end
unfoldable pub part_at : ℕ → ℕ → List ℕ → List ℕ
part_at c at s = take (first_of c (drop at s)) (drop at s)

-- the word at a place, up to its blank (32)
abbrev pub word_at : ℕ → List ℕ → List ℕ
word_at at s = part_at 32 at s

unfoldable pub next_at : ℕ → List ℕ → ℕ
next_at at s = if ltb (at + length (word_at at s)) (length s) then at + length (word_at at s) + 1 else length s
