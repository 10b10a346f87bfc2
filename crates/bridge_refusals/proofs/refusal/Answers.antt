-- `refusal` meets its contract: the book's number goes before that of the saved area.
use Rattle.std.proofs.Common.{◌∙◌}
use Rattle.rules.specs.Host.{refusal_of}
use Rattle.rules.proofs.Refusing.{handed_on}
use Rattle.bridge_refusals.proofs.Refusing.{book_refused, book_passed, passed_saved}
use Rattle.bridge_refusals.proofs.refusal.Goals as goal

pub returns-in_err-right-clause-number : goal.returns-in_err-right-clause-number
unfolding refusal_of
returns-in_err-right-clause-number c =
    handed_on _ c.in_err-right.field-0.0 c.from_residual.ensures.1
    ∙ book_refused _ _ _ c.in_err-right.ensures.number

pub returns-in_err-saved_test-clause-number : goal.returns-in_err-saved_test-clause-number
unfolding refusal_of
returns-in_err-saved_test-clause-number c =
    handed_on _ c.in_err-saved_test.field-0.0 c.from_residual-in_err-saved_test.ensures.1
    ∙ passed_saved _ c.in_err-saved_test.ensures c.in_ok-right.ensures.right
    ∙ book_passed _ _ c.in_ok-right.ensures.number

pub returns-clause-number : goal.returns-clause-number
unfolding refusal_of
returns-clause-number c =
    passed_saved _ c.in_ok-saved_test.ensures c.in_ok-right.ensures.right
    ∙ book_passed _ _ c.in_ok-right.ensures.number
