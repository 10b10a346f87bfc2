-- `locate` meets its contract: the refusal goes before whether the book has the SEID.
use Rattle.std.proofs.Common.{◌∙◌}
use Rattle.rules.proofs.Refusing.{handed_on}
use Rattle.bridge_questions.proofs.Asked.{refused_first, found_number}
use Rattle.bridge_questions.proofs.locate.Goals as goal

pub returns-in_err-right-clause-number : goal.returns-in_err-right-clause-number
returns-in_err-right-clause-number c =
    handed_on _ c.in_err-right.field-0.0 c.from_residual.ensures.1
    ∙ refused_first c.args.book.now c.args.saved.now c.args.seid _ c.in_err-right.ensures.number

pub returns-clause-number : goal.returns-clause-number
returns-clause-number c =
    found_number c.args.book.now c.args.saved.now c.args.seid _ _ c.ok_or.result c.in_ok-right.ensures.right
    c.locate.ensures c.ok_or.ensures.value c.in_ok-right.ensures.number
