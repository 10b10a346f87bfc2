-- The names of steps, states and channels, as tables.
use Rattle.std.specs.Prelude.{ℕ, List, [], ◌∷◌}
use Rattle.replay_script.specs.Tables.{lines_of, value_of}

abbrev pub step_table : List ℕ
step_table = lines_of (
    "book:b-*" ∷
    "rebook:r+*" ∷
    "size:s-.n" ∷
    "area:a-.n" ∷
    "packet:p+*" ∷
    "burst:m+/" ∷
    "up:u+." ∷
    "down:d+.o" ∷
    "lost:l+." ∷
    "settings:q+.o" ∷
    "delay:t+.o" ∷
    "status:j+.o" ∷
    "states:e+." ∷
    "record:w+koscod" ∷
    "count:i+.o" ∷
    "gathering none:n+." ∷
    "gathering:g+pooooo" ∷
    "cut:c-*nooonn" ∷
    "explain:x-." ∷
    [])

-- the letter of a step
abbrev pub step_of : List ℕ → ℕ
step_of name = value_of name step_table

-- the octet of a state
abbrev pub state_of : List ℕ → ℕ
state_of name = value_of name (lines_of
    ("idle:\0" ∷ "configured:\u{1}" ∷ "open:\u{2}" ∷ "streaming:\u{3}" ∷ "closing:\u{4}" ∷ "aborting:\u{5}" ∷ []))

-- the octet of a channel
abbrev pub channel_of : List ℕ → ℕ
channel_of name = value_of name (lines_of ("none:\0" ∷ "awaited:\u{1}" ∷ "up:\u{2}" ∷ []))
