-- The delay that the far end reported, in tenths of a millisecond (001, 8.19; document 01, Commands, 0D).
use Rattle.std.specs.Prelude.{ℕ}
use Rattle.std.specs.declared.option.Option.{Option}

-- none where none was reported
abbrev pub Delay : Type 0
Delay = Option ℕ
