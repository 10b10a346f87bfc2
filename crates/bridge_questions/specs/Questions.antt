-- What a question about an endpoint comes to: its number, and what the two questions tell that the head of a record answers.
use Rattle.std.specs.Prelude.{ℕ, ◌≡◌, List, None, Some, Ok, Err}
use Rattle.std.specs.declared.option.Option.{Option}
use Rattle.std.specs.declared.result.Result.{Result}
use Rattle.rules.specs.Host.{number_or, refusal_of, heard, delay_call, standing, nowhere, status_call}
use Rattle.rules.specs.Refusals.{number_of}
use Rattle.rules.specs.declared.Head.{Head}
use Rattle.rules.specs.declared.Heard.{Heard}
use Rattle.rules.specs.declared.OurSeid.{OurSeid}
use Rattle.rules.specs.declared.Standing.{Standing}
use Rattle.rules.specs.declared.refusals.Refusal.{Refusal}
use Rattle.book.specs.Places.{place_in}
use Rattle.book.specs.declared.places.Place.{Place}

-- whether the book has the SEID
abbrev pub number_at : Option Place → ℕ
number_at None = 10
number_at (Some place) = 0

-- behind the tests that stand before every call
unfoldable pub asked : List ℕ → List ℕ → OurSeid → ℕ
asked book saved s = number_or (refusal_of book saved) (number_at (place_in s book))

abbrev pub heard_of : Result Head Refusal → Heard
heard_of (Ok head) = heard 0 head.delay
heard_of (Err refusal) = heard (number_of refusal) None

abbrev pub standing_of : Result Head Refusal → Standing
standing_of (Ok head) = standing 0 head
standing_of (Err refusal) = nowhere (number_of refusal)

pub record Finds (book saved : List ℕ) (s : OurSeid) (found : Result Head Refusal) : Type 0 where
  pub delay : heard_of found ≡ delay_call book saved s
  pub status : standing_of found ≡ status_call book saved s
