-- What was laid out as ASCII is text, and so is its front.
use Rattle.std.proofs.Common.{ℕ, ◌<◌, List, take}
use Rattle.std.specs.List.{All}
use Rattle.std.specs.Prelude.{IsUtf8}
use Rattle.std.proofs.lemmas.Str.{IsUtf8-from_ascii, IsAscii-take}
use Rattle.std.proofs.lemmas.Str.Ascii.{IsAscii-from_all}

pub text_front : (s : List ℕ) (n : ℕ) → All (λ b. b < 128) s → IsUtf8 (take n s)
text_front s n h = IsUtf8-from_ascii (take n s) (IsAscii-take s n (IsAscii-from_all s h))
