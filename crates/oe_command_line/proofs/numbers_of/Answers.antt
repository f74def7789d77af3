use Rattle.oe_command_line.proofs.WordFacts.{no_numbered}
use Rattle.oe_command_line.proofs.numbers_of.Goals as goal

pub returns-in-None : goal.returns-in-None
returns-in-None g c = no_numbered g.S.AsStr.text c.args.words.now c.in-Some.numbers c.in-Some.ensures.0
    c.in-Some.ensures.1 c.in-None.ensures
