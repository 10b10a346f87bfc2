-- `sized` meets its contract: the book's number goes before that of the packet size.
use Rattle.std.proofs.Common.{◌∙◌, arith}
use Rattle.std.proofs.lemmas.Grind.{common_steps}
use Rattle.rules.proofs.Refusing.{handed_on}
use Rattle.bridge_refusals.proofs.Refusing.{book_refused, book_passed}
use Rattle.bridge_refusals.proofs.sized.Goals as goal

pub returns-in_err-right-clause-number : goal.returns-in_err-right-clause-number
returns-in_err-right-clause-number c =
    handed_on _ c.in_err-right.field-0.0 c.from_residual.ensures.1
    ∙ book_refused _ _ _ c.in_err-right.ensures.number

pub returns-in_err-ok_or-clause-number : goal.returns-in_err-ok_or-clause-number
returns-in_err-ok_or-clause-number c =
    grind (arith, common_steps) ∙ book_passed _ _ c.in_ok-right.ensures.number

pub returns-clause-number : goal.returns-clause-number
returns-clause-number c =
    grind (arith, common_steps) ∙ book_passed _ _ c.in_ok-right.ensures.number
