-- The refusals by name, each with its number (documents 01 and 02, What the host is told).
use Rattle.std.specs.Prelude.{ℕ, Ok, Err}
use Rattle.std.specs.declared.result.Result.{Result}
use Rattle.rules.specs.declared.refusals.Refusal.{Refusal}
use Rattle.rules.specs.declared.refusals.Refusal.TheVariants.{BookLength, BookMark, BookVersion, BookCount, BookSeid, BookKind}
use Rattle.rules.specs.declared.refusals.Refusal.TheVariants.{BookList, PacketSize, Area, NotApplicable, Message, Saved, Burst}

abbrev pub number_of : Refusal → ℕ
number_of BookLength = 1
number_of BookMark = 2
number_of BookVersion = 3
number_of BookCount = 4
number_of BookSeid = 5
number_of BookKind = 6
number_of BookList = 7
number_of PacketSize = 8
number_of Area = 9
number_of NotApplicable = 10
number_of Message = 11
number_of Saved = 12
number_of Burst = 13

-- what is told of a call, whatever it gives where it was not refused: then 0
module _ {A : Type 0} where
  abbrev pub number_told : Result A Refusal → ℕ
  number_told (Ok done) = 0
  number_told (Err refusal) = number_of refusal
