-- The code that the answer of a check tells: 0 where the check passed.
use Rattle.std.specs.Prelude.{ℕ, ⊤, Ok, Err}
use Rattle.std.specs.declared.result.Result.{Result}

abbrev pub code_told : Result ⊤ ℕ → ℕ
code_told (Ok right) = 0
code_told (Err code) = code
