-- A command on one endpoint that passed its checks: what it may count on, and the endpoint that its payload names.
use Rattle.std.specs.Prelude.{ℕ, ◌≡◌, List, Ok}
use Rattle.rules.specs.declared.Signal.{Signal}
use Rattle.book.specs.declared.places.Place.{Place}
use Rattle.saved.specs.Serves.{Serves}
use Rattle.commands_checks.specs.Met.{met_in}

pub record Named (signal : Signal) (book records payload reply : List ℕ) (at : Place) : Type 0 where
  pub serves : Serves book records payload reply
  pub met : met_in signal book records payload ≡ Ok at
