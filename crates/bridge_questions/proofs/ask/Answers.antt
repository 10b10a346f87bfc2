-- `ask` meets its contract: the refusal, then the head in the record of the endpoint that the SEID names.
use Rattle.bridge_refusals.proofs.Refusing.{Calm}
use Rattle.bridge_questions.proofs.Asked.{answered, refused_found, record_there, known_found}
use Rattle.bridge_questions.proofs.ask.Goals as goal
use Rattle.bridge_questions.proofs.ask.Goals.{In_ok-place}

-- nothing is refused
quiet : (c : In_ok-place) → Calm c.args.book.now c.args.saved.now
quiet c = answered _ _ c.args.seid (λ i. (c.type_inv.saved i).fits) c.in_ok-place.ensures.number

pub returns-in_err-place : goal.returns-in_err-place
returns-in_err-place c =
    refused_found c.args.book.now c.args.saved.now c.args.seid _ c.from_residual.result c.from_residual.ensures.1
    c.in_err-place.ensures.number

pub records_of-requires : goal.records_of-requires
records_of-requires c = (quiet (goal.at.records_of-requires c).In_ok-place).long

pub get-requires : goal.get-requires
get-requires c =
    record_there c.args.book.now c.args.saved.now c.args.seid (quiet (goal.at.get-requires c).In_ok-place) _ _ _ _
    c.in_ok-place.ensures.place _ c.records_of.ensures

pub returns : goal.returns
returns c =
    known_found c.args.book.now c.args.saved.now c.args.seid (quiet (goal.at.returns c).In_ok-place) _ _ _ _
    c.in_ok-place.ensures.place _ c.records_of.ensures c.get.result c.get.ensures
