use Rattle.oe_file_serial.proofs.ReasonFacts.{words_why}
use Rattle.oe_file_serial.proofs.reasons.why_line.Goals as goal

pub returns-in-Some : goal.returns-in-Some
returns-in-Some c =
    words_why c.args.line.now c.in-Some.words.now c.in-Some.field-0-1.now c.why_words.result c.in-Some.ensures
    c.why_words.ensures
