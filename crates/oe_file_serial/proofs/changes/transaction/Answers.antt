use Rattle.oe_file_serial.proofs.ChangeFacts.{untold_by, told_by}
use Rattle.oe_file_serial.proofs.LineFacts.{words_short}
use Rattle.oe_file_serial.proofs.changes.transaction.Goals as goal

pub read_transaction-requires : goal.read_transaction-requires
read_transaction-requires c =
    (words_short c.args.line.now c.in-Some.words.now c.in-Some.reply.now 1_024 c.in-Some.ensures c.requires).0

pub returns-in_default : goal.returns-in_default
returns-in_default c = λ q text tells. c.in_default.ensures tells.1.words text tells.1.parts

pub returns-in-Some-read_transaction : goal.returns-in-Some-read_transaction
returns-in-Some-read_transaction c =
    told_by c.args.line.now c.in-Some.words.now c.in-Some.reply.now c.in-Some-read_transaction.field-0-0
    c.in-Some-read_transaction.request c.requires c.in-Some.ensures c.in-Some-read_transaction.ensures

pub returns-in-None : goal.returns-in-None
returns-in-None c =
    untold_by c.args.line.now c.in-Some.words.now c.in-Some.reply.now c.in-Some.ensures c.in-None.ensures
