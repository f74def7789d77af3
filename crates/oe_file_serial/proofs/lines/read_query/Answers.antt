use Rattle.std.proofs.lemmas.Bool.{both_ways}
use Rattle.oe_reply_words.proofs.PartFacts.{parted_not_without}
use Rattle.oe_file_serial.proofs.QueryFacts.{parted_so, terminal_said, is_asked}
use Rattle.oe_file_serial.proofs.lines.read_query.Goals as goal

pub returns-in_default : goal.returns-in_default
returns-in_default c = λ q a. parted_not_without 32 _ _ _ (parted_so c.args.words.now q a) c.in_default.ensures

pub returns-then-not-is_terminal : goal.returns-then-not-is_terminal
returns-then-not-is_terminal c = λ q a. both_ways c.is_terminal.result c.if-not-is_terminal.true
    (c.is_terminal.ensures.1
    (terminal_said c.args.words.now c.in-Some.front.now c.in-Some.behind.now q c.in-Some.ensures a))

pub returns : goal.returns
returns c =
    let said = c.is_terminal.ensures.0 c.if-not-is_terminal.false in
    is_asked c.args.words.now c.in-Some.front.now c.in-Some.behind.now said.0 c.in-Some.ensures said.1
    c.read_asked.result c.read_asked.ensures
