-- What the checks of a command come to, as the code tells it: the definitions' `Met`, with the place of the entry in the book's
-- octets in place of the entry.
use Rattle.std.specs.Prelude.{ℕ, List, Bool, true, false, length, get_or, if◌then◌else◌, None, Some, Ok, Err}
use Rattle.std.specs.declared.option.Option.{Option}
use Rattle.std.specs.declared.result.Result.{Result}
use Rattle.rules.specs.Endpoints.{Ends, end_at}
use Rattle.rules.specs.Commands.{length_right, our_in, may, wrong_state}
use Rattle.rules.specs.declared.OurSeid.{OurSeid}
use Rattle.rules.specs.declared.Signal.{Signal}
use Rattle.rules.specs.declared.Signal.TheVariants.{Discover, GetCapabilities, SetConfiguration, GetConfiguration, Reconfigure}
use Rattle.rules.specs.declared.Signal.TheVariants.{OpenUp, Start, Close, Suspend, Abort, SecurityControl, GetAllCapabilities}
use Rattle.rules.specs.declared.Signal.TheVariants.{DelayReport, Unassigned}
use Rattle.book.specs.Places.{place_in}
use Rattle.book.specs.declared.places.Place.{Place}
use Rattle.commands_reply.specs.Codes.{octet_of}
use Rattle.commands_reply.specs.Obeys.{ends_of}
use Rattle.commands_reply.specs.declared.Code.{Code}

-- the commands that name one endpoint
unfoldable pub names_one : Signal → Bool
names_one Discover = false
names_one GetCapabilities = true
names_one SetConfiguration = true
names_one GetConfiguration = true
names_one Reconfigure = true
names_one OpenUp = true
names_one Start = false
names_one Close = true
names_one Suspend = false
names_one Abort = true
names_one SecurityControl = true
names_one GetAllCapabilities = true
names_one DelayReport = true
names_one Unassigned = false

-- the place of the endpoint, or the code of the refusal
abbrev pub Met : Type 0
Met = Result Place ℕ

-- what the code answers, with its codes as octets
abbrev pub met_told : Result Place Code → Met
met_told (Ok at) = Ok at
met_told (Err code) = Err (octet_of code)

unfoldable pub met_by : Signal → Ends → Option Place → Met
met_by signal ends None = Err 0x12
met_by signal ends (Some at) =
    let h = (end_at ends at.index).head in
    if may signal h.state h.channel then Ok at else Err (wrong_state signal h.state)

-- known and state
unfoldable pub met_of : Signal → List ℕ → List ℕ → OurSeid → Met
met_of signal book records s = met_by signal (ends_of book records) (place_in s book)

-- length, known and state
unfoldable pub met_in : Signal → List ℕ → List ℕ → List ℕ → Met
met_in signal book records p =
    if length_right signal (length p) then met_of signal book records (our_in (get_or p 0 0)) else Err 0x11
