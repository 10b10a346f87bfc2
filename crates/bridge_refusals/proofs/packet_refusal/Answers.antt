-- `packet_refusal` meets its contract: what the book and the size give goes before the reply area, and that before the saved
-- area.
use Rattle.std.proofs.Common.{◌∙◌}
use Rattle.rules.specs.Host.{packet_refusal}
use Rattle.rules.proofs.Refusing.{handed_on}
use Rattle.bridge_refusals.proofs.Refusing.{sized_refused, sized_passed, passed_saved, reply_short, reply_roomy}
use Rattle.bridge_refusals.proofs.packet_refusal.Goals as goal

pub returns-in_err-right-clause-number : goal.returns-in_err-right-clause-number
unfolding packet_refusal
returns-in_err-right-clause-number c =
    handed_on _ c.in_err-right.field-0.0 c.from_residual.ensures.1
    ∙ sized_refused _ _ _ _ c.in_err-right.ensures.number

pub returns-then-reply-lt64-clause-number : goal.returns-then-reply-lt64-clause-number
unfolding packet_refusal
returns-then-reply-lt64-clause-number c =
    reply_short c.args.book.now c.args.saved.now c.args.reply.now c.if-reply-lt64.true
    ∙ sized_passed _ _ _ c.in_ok-right.ensures.number

pub returns-in_err-saved_test-clause-number : goal.returns-in_err-saved_test-clause-number
unfolding packet_refusal
returns-in_err-saved_test-clause-number c =
    handed_on _ c.in_err-saved_test.field-0.0 c.from_residual-in_err-saved_test.ensures.1
    ∙ passed_saved _ c.in_err-saved_test.ensures c.in_ok-right.ensures.right
    ∙ reply_roomy c.args.book.now c.args.saved.now c.args.reply.now c.if-reply-lt64.false
    ∙ sized_passed _ _ _ c.in_ok-right.ensures.number

pub returns-clause-number : goal.returns-clause-number
unfolding packet_refusal
returns-clause-number c =
    passed_saved _ c.in_ok-saved_test.ensures c.in_ok-right.ensures.right
    ∙ reply_roomy c.args.book.now c.args.saved.now c.args.reply.now c.if-reply-lt64.false
    ∙ sized_passed _ _ _ c.in_ok-right.ensures.number
