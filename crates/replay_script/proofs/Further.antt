-- Less is left of a text behind its first word: the word and its blank are gone, or all is.
use Rattle.std.proofs.Common.{ℕ, ◌<◌, ◌+◌, List, length, drop, Bool, true, false, ltb, if◌then◌else◌, arith, length-drop}
use Rattle.replay_script.specs.Lines.{word_at, next_at}

next_further : (s : List ℕ) → 0 < length s → 0 < next_at 0 s
unfolding next_at
next_further s inside = go (ltb (0 + length (word_at 0 s)) (length s))
  where
    go : (more : Bool) → 0 < (if more then 0 + length (word_at 0 s) + 1 else length s)
    go true = omega arith
    go false = inside

pub next_shorter : (s : List ℕ) → 0 < length s → length (drop (next_at 0 s) s) < length s
next_shorter s inside = omega (arith, length-drop (next_at 0 s) s, next_further s inside)
