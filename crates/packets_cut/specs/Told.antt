-- What the host is told of a packet that was written, or why it was not.
use Rattle.std.specs.Prelude.{ℕ, Ok, Err}
use Rattle.std.specs.declared.result.Result.{Result}
use Rattle.rules.specs.declared.Piece.{Piece}
use Rattle.rules.specs.declared.refusals.Refusal.{Refusal}
use Rattle.rules.specs.Refusals.{number_of}

unfoldable pub piece_of : Result ℕ Refusal → Piece
piece_of (Ok n) = record { number = 0; length = n }
piece_of (Err refusal) = record { number = number_of refusal; length = 0 }
