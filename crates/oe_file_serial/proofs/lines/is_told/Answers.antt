use Rattle.oe_file_serial.proofs.ToldFacts.{told_is}
use Rattle.oe_file_serial.proofs.lines.is_told.Goals as goal

pub returns : goal.returns
returns c = told_is c.args.line.now c.in-Some.words.now c.in-Some.field-0-1.now c.read_words.result c.is_some.result
    c.if-line-gt-LINE.false c.in-Some.ensures c.read_words.ensures c.is_some.ensures
