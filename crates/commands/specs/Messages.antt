-- What a complete message leads to, by its header and its payload.
use Rattle.std.specs.Prelude.{ℕ, List}
use Rattle.rules.specs.Book.{Book}
use Rattle.rules.specs.Endpoints.{Ends}
use Rattle.rules.specs.Commands.{Outcome, answer}
use Rattle.rules.specs.declared.Header.{Header}

abbrev pub answering : Header → Book → Ends → List ℕ → Outcome
answering h book ends p = answer book ends (record { header = h; payload = p })
