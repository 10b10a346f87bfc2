-- `answer` meets its contract, by the message type.
use Rattle.std.proofs.Common.{arith}
use Rattle.commands.proofs.Messages.{a_command}
use Rattle.commands.proofs.answer.Goals as goal

pub returns : goal.returns
returns c =
    a_command c.args.book.octets.now c.args.records.now c.args.payload.now c.args.reply.now c.args.header (omega arith)
    c.obey.ensures
